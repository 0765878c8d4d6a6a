use Rattle.hy_core.proofs.WorkedRuns.{prelude_counts}
use Rattle.hy_core.proofs.laws.runs.prelude_counts_like_others.Goals as goal

pub returns : goal.returns
returns c = prelude_counts
