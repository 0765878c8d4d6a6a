use Rattle.std.proofs.Common.{◌≡◌, drop}
use Rattle.event_nodes.specs.code.Distributed.{distributed, empty_lists}
use Rattle.event_nodes.proofs.sharing.share.Given as goal

abbrev pub invariant-loop-event : goal.invariant-loop-event
invariant-loop-event l =
    distributed l.lists.items (drop l.event-index l.events)
    ≡ distributed (empty_lists l.many) l.events
