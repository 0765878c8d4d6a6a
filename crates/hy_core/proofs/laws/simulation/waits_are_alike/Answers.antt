use Rattle.hy_core.proofs.Comparing.{waits_alike}
use Rattle.hy_core.proofs.laws.simulation.waits_are_alike.Goals as goal

pub returns : goal.returns
returns g c value shown waiting waiting' r r' = waits_alike value waiting waiting' shown r r'
