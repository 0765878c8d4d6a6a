-- The fields of labelled terms. The project's own.
use Rattle.std.specs.Prelude.{List, [], ◌∷◌}
use Rattle.hy_terms.specs.Labelled.{Labelled, Cons, Tuple, Labels, NoLabels, MoreLabels}

-- the labelled terms in order
abbrev pub each_of : Labels → List Labelled
each_of NoLabels = []
each_of (MoreLabels t ts) = t ∷ each_of ts

-- head and tail of a cons, the parts of a tuple
abbrev pub fields_of : Labelled → List Labelled
fields_of (Cons site colour head tail) = head ∷ tail ∷ []
fields_of (Tuple site colour parts) = each_of parts
fields_of _ = []
