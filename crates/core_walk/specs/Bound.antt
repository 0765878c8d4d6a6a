-- How often each variable is bound. This project's own.
use Rattle.std.specs.Prelude.{◌≡◌, ℕ, suc, ◌==◌, ◌||◌, Bool, false, if◌then◌else◌, List, [], ◌∷◌}
use Rattle.std.specs.List.{slice_index_or}

-- whether a variable is among those bound
abbrev pub is_bound : List ℕ → ℕ → Bool
is_bound [] x = false
is_bound (y ∷ ys) x = (y == x) || is_bound ys x

abbrev pub times_bound : List ℕ → ℕ → ℕ
times_bound [] x = 0
times_bound (y ∷ ys) x = if y == x then suc (times_bound ys x) else times_bound ys x

-- the number at each variable's place says how often it is bound; a place that isn't there has 0
pub record Counts (counts bound : List ℕ) : Type 0 where
  pub at : (x : ℕ) → slice_index_or counts x 0 ≡ times_bound bound x
