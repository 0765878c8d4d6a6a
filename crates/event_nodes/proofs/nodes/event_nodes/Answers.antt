use Rattle.std.proofs.lemmas.Result.{IfOk-weaker}
use Rattle.event_nodes.proofs.LiftedEvents.{own_are_lifted}
use Rattle.event_nodes.proofs.WalkedIs.{program_shared}
use Rattle.event_nodes.proofs.nodes.event_nodes.Goals as goal

pub returns-clause-owned : goal.returns-clause-owned
returns-clause-owned c =
    IfOk-weaker c.share.result _ _
    (λ lists. program_shared c.args.atoms.now c.args.modules.now lists.items
    c.in_ok-first.ensures c.new-walk.ensures c.in_ok-walk_modules.ensures c.next.ensures
    c.found.ensures) c.share.ensures

pub returns-clause-lifted : goal.returns-clause-lifted
returns-clause-lifted c =
    IfOk-weaker c.share.result _ _
    (λ lists shared. own_are_lifted c.args.atoms.now c.args.modules.now lists.items
    (program_shared c.args.atoms.now c.args.modules.now lists.items c.in_ok-first.ensures
    c.new-walk.ensures c.in_ok-walk_modules.ensures c.next.ensures c.found.ensures shared))
    c.share.ensures
