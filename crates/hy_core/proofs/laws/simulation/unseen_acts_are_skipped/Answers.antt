use Rattle.hy_core.proofs.Simulating.{skips_unseen}
use Rattle.hy_core.proofs.laws.simulation.unseen_acts_are_skipped.Goals as goal

pub returns : goal.returns
returns g c value shown waiting waiting' p q a =
    let relation = g.Relation.Correspondence in
    skips_unseen value shown relation.allowed relation.calls waiting waiting' p q a
