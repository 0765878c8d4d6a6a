use Rattle.hy_core.proofs.FullRuns.{full_runs_are_last, programs_end_once}
use Rattle.hy_core.proofs.laws.full_runs.full_runs_are_last.Goals as goal

pub returns-clause-programs : goal.returns-clause-programs
returns-clause-programs c = programs_end_once

pub returns-clause-functions : goal.returns-clause-functions
returns-clause-functions c = full_runs_are_last
