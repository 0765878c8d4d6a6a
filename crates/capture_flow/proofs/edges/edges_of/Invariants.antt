use Rattle.std.proofs.Common.{◌≡◌, ℕ, ◌++◌, drop}
use Rattle.std.specs.List.{flat_map}
use Rattle.capture_flow.specs.code.Edges.{edge_to, edges_at}
use Rattle.capture_flow.proofs.edges.edges_of.Given as goal

abbrev pub invariant-loop-fact : goal.invariant-loop-fact
invariant-loop-fact l =
    (f : ℕ) → edges_at l.edges f ++ flat_map (edge_to f) (drop l.fact-index l.facts)
    ≡ flat_map (edge_to f) l.facts
