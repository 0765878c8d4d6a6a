use Rattle.hy_core.proofs.NoRuns.{are_not_allowed, are_not_full}
use Rattle.hy_core.proofs.laws.full_runs.some_are_no_full_runs.Goals as goal

pub returns : goal.returns
returns c = record { steps = are_not_allowed; ends = are_not_full }
