-- Events that were found, shared out among functions as the code does: one after another.
use Rattle.std.specs.Prelude.{ℕ, zero, suc, List, [], ◌∷◌, ◌++◌}
use Rattle.event_nodes.specs.declared.events.Event.{Event}

-- a node behind the others of its owner, where there is a list for it
abbrev pub given : List (List ℕ) → (owner node : ℕ) → List (List ℕ)
given [] k n = []
given (l ∷ ls) zero n = (l ++ n ∷ []) ∷ ls
given (l ∷ ls) (suc k) n = l ∷ given ls k n

abbrev pub distributed : List (List ℕ) → List Event → List (List ℕ)
distributed ls [] = ls
distributed ls (e ∷ es) = distributed (given ls e.owner e.node) es

-- so many lists with nothing in them
abbrev pub empty_lists : ℕ → List (List ℕ)
empty_lists zero = []
empty_lists (suc n) = [] ∷ empty_lists n
