use Rattle.hy_core.proofs.WorkedRuns.{parent_and_child}
use Rattle.hy_core.proofs.laws.runs.parent_and_child_run.Goals as goal

pub returns : goal.returns
returns c = parent_and_child
