use Rattle.hy_core.proofs.Comparing.{run_through}
use Rattle.hy_core.proofs.laws.simulation.comparison_composes.Goals as goal

pub returns : goal.returns
returns g c value value' shown shown' waiting waiting' waiting'' r r' r'' =
    run_through value value' waiting waiting' waiting'' shown shown' r r' r''
