-- The places of the outermost bindings of variables in scope, counted from 1.
use Rattle.std.specs.Prelude.{◌≡◌, ℕ, List, get_or}
use Rattle.captured_facts.specs.Facts.{first_place}

-- at each variable the list holds its place, or 0
pub record HasPlaces (places scope : List ℕ) : Type 0 where
  pub at : (x : ℕ) → get_or places x 0 ≡ first_place scope x
