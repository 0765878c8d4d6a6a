-- What a contract sees of the private heap of a process. The project's own.
use Rattle.std.specs.Prelude.{ℕ, List}

-- its words from place 0 on, the largest number of words, and how many may be pushed without memory
pub record HeapContent : Type 0 where
  pub words : List ℕ
  pub limit : ℕ
  pub spare : ℕ
