use Rattle.hy_core.proofs.Comparing.{equal_run}
use Rattle.hy_core.proofs.laws.simulation.same_runs_are_equal.Goals as goal

pub returns : goal.returns
returns g c waiting r r' = equal_run waiting r r'
