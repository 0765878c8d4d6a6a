use Rattle.event_nodes.proofs.Distributing.{past, stored}
use Rattle.event_nodes.proofs.sharing.give.Goals as goal

pub returns-in_ok-push : goal.returns-in_ok-push
returns-in_ok-push c =
    stored c.args.lists.now.items c.args.event.owner c.args.event.node c.in-Some.list.now
    c.push.new.self c.in-Some.ensures.item.3.0 c.in-Some.ensures.value c.in_ok-push.ensures.ok

pub returns-in_default : goal.returns-in_default
returns-in_default c =
    past c.args.lists.now.items c.args.event.owner c.args.event.node c.in_default.ensures.item.3
