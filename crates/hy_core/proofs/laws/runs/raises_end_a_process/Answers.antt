use Rattle.hy_core.proofs.WorkedRuns.{raises_end}
use Rattle.hy_core.proofs.laws.runs.raises_end_a_process.Goals as goal

pub returns : goal.returns
returns c = raises_end
