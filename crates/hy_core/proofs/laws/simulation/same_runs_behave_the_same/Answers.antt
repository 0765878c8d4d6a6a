use Rattle.hy_core.proofs.Behaving.{same_behaviour}
use Rattle.hy_core.proofs.laws.simulation.same_runs_behave_the_same.Goals as goal

pub returns : goal.returns
returns g c value event b b' runs runs' first second texts same =
    same_behaviour value g.S.Setting.known event b b' runs runs' first second texts same
