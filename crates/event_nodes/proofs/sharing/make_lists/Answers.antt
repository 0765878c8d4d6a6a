use Rattle.std.proofs.Common.{◌∙◌, [], ◌∷◌, ◌++◌}
use Rattle.event_nodes.proofs.Distributing.{one_more}
use Rattle.event_nodes.proofs.sharing.make_lists.Goals as goal

pub loop-preserved : goal.loop-preserved
loop-preserved c =
    c.in_ok-push.ensures.items ∙ (λ i. c.loop.invariant i ++ c.new.ensures i ∷ [])
    ∙ one_more c.loop.counter
