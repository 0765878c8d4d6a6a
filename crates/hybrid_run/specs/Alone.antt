-- What a process prints that only prints.
use Rattle.std.specs.Prelude.{ℕ, List, [], ◌∷◌, ◌++◌}

-- each text on a line of its own
abbrev pub lines_of : List (List ℕ) → List ℕ
lines_of [] = []
lines_of (text ∷ texts) = text ++ 10 ∷ [] ++ lines_of texts
