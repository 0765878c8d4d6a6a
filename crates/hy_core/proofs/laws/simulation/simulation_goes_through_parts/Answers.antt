use Rattle.hy_core.proofs.Simulating.{simulates_attempt}
use Rattle.hy_core.proofs.laws.simulation.simulation_goes_through_parts.Goals as goal

pub returns : goal.returns
returns g c value shown waiting waiting' p q k k' h h' =
    let relation = g.Relation.Correspondence in
    simulates_attempt value shown relation.allowed relation.calls waiting waiting' p q k k' h h'
