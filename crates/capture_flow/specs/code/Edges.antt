-- The edges under the functions that they use.
use Rattle.std.specs.Prelude.{ℕ, ◌==◌, List, [], ◌∷◌, if◌then◌else◌}
use Rattle.std.specs.Option.{unwrap_or}
use Rattle.indexmap.specs.IndexMap.{IndexMap, get}
use Rattle.capture_flow.specs.declared.fact.Edge.{Edge}
use Rattle.capture_flow.specs.declared.fact.Fact.{Fact}
use Rattle.capture_flow.specs.declared.fact.Fact.TheVariants.{Occurs, Uses}

abbrev pub edges_at : {S : Type 0} → IndexMap ℕ (List Edge) S → (function : ℕ) → List Edge
edges_at edges f = unwrap_or (get ◌==◌ edges f) []

-- an edge, where it is of one that uses this function
abbrev pub edge_if : (function : ℕ) → Edge → List Edge
edge_if f e = if e.used == f then e ∷ [] else []

abbrev pub edge_to : (function : ℕ) → Fact → List Edge
edge_to f (Occurs m) = []
edge_to f (Uses e) = edge_if f e
