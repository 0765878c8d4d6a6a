-- How high labelled terms are. The project's own.
use Rattle.std.specs.Prelude.{ℕ, ◌+◌, max, List, [], ◌∷◌}
use Rattle.hy_terms.specs.Labelled.{Labelled, Cons, Tuple, Labels, NoLabels, MoreLabels}

abbrev mutual
  -- one more than its highest part; 1 where a term has no part
  pub height : Labelled → ℕ
  height (Cons site colour head tail) = 1 + max (height head) (height tail)
  height (Tuple site colour parts) = 1 + greatest_height parts
  height _ = 1

  pub greatest_height : Labels → ℕ
  greatest_height NoLabels = 0
  greatest_height (MoreLabels t ts) = max (height t) (greatest_height ts)

-- the greatest of some numbers, 0 where there is none
abbrev pub greatest_of : List ℕ → ℕ
greatest_of [] = 0
greatest_of (n ∷ ns) = max n (greatest_of ns)
