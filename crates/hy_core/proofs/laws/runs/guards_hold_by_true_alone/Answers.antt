use Rattle.hy_core.proofs.WorkedRuns.{guards_hold_by_true}
use Rattle.hy_core.proofs.laws.runs.guards_hold_by_true_alone.Goals as goal

pub returns : goal.returns
returns c = guards_hold_by_true
