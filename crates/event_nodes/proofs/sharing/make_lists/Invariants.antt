use Rattle.std.proofs.Common.{◌≡◌}
use Rattle.event_nodes.specs.code.Distributed.{empty_lists}
use Rattle.event_nodes.proofs.sharing.make_lists.Given as goal

abbrev pub invariant-loop : goal.invariant-loop
invariant-loop l = l.lists.items ≡ empty_lists l.counter
