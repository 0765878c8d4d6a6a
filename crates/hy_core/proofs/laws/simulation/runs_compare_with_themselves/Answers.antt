use Rattle.hy_core.proofs.Comparing.{same_run}
use Rattle.hy_core.proofs.laws.simulation.runs_compare_with_themselves.Goals as goal

pub returns : goal.returns
returns g c waiting r = same_run waiting r
