-- An expression has as many owners of events as it has nodes that are events.
use Rattle.std.proofs.Common.{◌≡◌, ℕ, List, [], length, sym, ap, ◌∙◌}
use Rattle.std.proofs.lemmas.List.{length-map}
use Rattle.hy_core.specs.ProgramTrees.{true_places}
use Rattle.hy_core.specs.Syntax.{Syntax}
use Rattle.hy_core.proofs.EventNodes.{events}
use Rattle.number_owners.specs.WrittenOwners.{written_owners}
use Rattle.event_nodes.specs.code.Walked.{Walk, walked}
use Rattle.event_nodes.specs.declared.events.Event.{Event}
use Rattle.event_nodes.proofs.WalkedIs.{goes}

pub as_many : (atoms : List (List ℕ)) (e : Syntax) (k n m : ℕ)
    → length (written_owners atoms k n e) ≡ length (true_places m (events atoms e))
as_many atoms e k n m =
    let start : Walk = record { function = 0; node = m; next = n; found = [] } in
    let found = (walked atoms k start e).found in
    let h = goes atoms e k start in
    sym (ap length h.owners) ∙ length-map found (λ (e : Event). e.owner)
    ∙ sym (length-map found (λ (e : Event). e.node)) ∙ ap length h.nodes
