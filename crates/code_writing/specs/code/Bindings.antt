-- How the bindings in force are kept: in their order, and by variable.
use Rattle.std.specs.Prelude.{ℕ, ◌≡◌, ◌+◌, ◌<◌, List, [], ◌∷◌, length, slice_set, get_or}
use Rattle.code_writing.specs.declared.scope.Entry.{Entry}

-- the first entry is the first that was bound
abbrev pub onto : List Entry → List Entry → List Entry
onto [] done = done
onto (e ∷ es) done = onto es (e ∷ done)

abbrev pub pairs : List Entry → List (ℕ × ℕ)
pairs [] = []
pairs (e ∷ es) = (e.variable, e.register) ∷ pairs es

-- at each variable the list holds the number of its last binding, from 1, or 0
abbrev pub Linked : List Entry → List ℕ → Type 0
Linked [] latest = (x : ℕ) → get_or latest x 0 ≡ 0
Linked (e ∷ es) latest =
    (get_or latest e.variable 0 ≡ length es + 1) × (e.variable < length latest)
    × Linked es (slice_set latest e.variable e.before)
