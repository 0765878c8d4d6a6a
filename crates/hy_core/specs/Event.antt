-- What a process does that others can see: this project's own choice.
use Rattle.std.specs.Prelude.{ℕ, List}

-- V are the values that it carries
pub data Event (V : Type 0) : Type 0 where
  Sent : (to : ℕ) → V → Event V
  Spawned : (function : ℕ) → List V → Event V
  Printed : V → Event V
