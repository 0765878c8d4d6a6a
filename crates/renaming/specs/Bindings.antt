-- The bindings in force, the innermost first, and how they are found. This project's own.
use Rattle.std.specs.Prelude.{◌≡◌, ℕ, ◌+◌, ◌<◌, List, [], ◌∷◌, length, get_or, slice_set}
use Rattle.renaming.specs.declared.scope.Binding.{Binding}

-- the bindings before others, the first of them innermost
abbrev pub onto : List Binding → List Binding → List Binding
onto [] done = done
onto (b ∷ bs) done = onto bs (b ∷ done)

abbrev pub variables : List Binding → List ℕ
variables [] = []
variables (b ∷ bs) = b.variable ∷ variables bs

-- at each variable the list holds the place of its innermost binding, from 1, or 0
abbrev pub Linked : List Binding → (places : List ℕ) → Type 0
Linked [] places = (x : ℕ) → get_or places x 0 ≡ 0
Linked (b ∷ bs) places =
    (get_or places b.variable 0 ≡ length bs + 1) × (b.variable < length places)
    × Linked bs (slice_set places b.variable b.around)
