use Rattle.hy_core.proofs.WorkedRuns.{start_costs_nothing}
use Rattle.hy_core.proofs.laws.runs.start_costs_no_call.Goals as goal

pub returns : goal.returns
returns c = start_costs_nothing
