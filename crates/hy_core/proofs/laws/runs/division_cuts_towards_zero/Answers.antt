use Rattle.hy_core.proofs.WorkedRuns.{division_cuts}
use Rattle.hy_core.proofs.laws.runs.division_cuts_towards_zero.Goals as goal

pub returns : goal.returns
returns c = division_cuts
