use Rattle.hy_core.proofs.WorkedRuns.{are_no_runs}
use Rattle.hy_core.proofs.laws.runs.some_steps_are_no_run.Goals as goal

pub returns : goal.returns
returns c = are_no_runs
