use Rattle.hy_core.proofs.Comparing.{run_behind}
use Rattle.hy_core.proofs.laws.simulation.comparison_composes_over_the_same_values.Goals as goal

pub returns : goal.returns
returns g c value shown waiting waiting' waiting'' r r' r'' =
    run_behind value waiting waiting' waiting'' shown r r' r''
