-- The variables that functions capture, under their numbers.
use Rattle.std.specs.Prelude.{ℕ, ◌==◌, List, []}
use Rattle.std.specs.Option.{unwrap_or}
use Rattle.indexmap.specs.IndexMap.{IndexMap, get}

abbrev pub captured_at : {S : Type 0} → IndexMap ℕ (List ℕ) S → (function : ℕ) → List ℕ
captured_at lists f = unwrap_or (get ◌==◌ lists f) []
