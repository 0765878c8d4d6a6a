use Rattle.hy_core.proofs.Comparing.{same_result}
use Rattle.hy_core.proofs.laws.simulation.same_runs_have_the_same_results.Goals as goal

pub returns : goal.returns
returns g c value shown waiting waiting' r r' = same_result value waiting waiting' shown r r'
