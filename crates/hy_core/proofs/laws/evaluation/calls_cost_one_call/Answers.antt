use Rattle.hy_core.proofs.Forms.{calls_cost}
use Rattle.hy_core.proofs.laws.evaluation.calls_cost_one_call.Goals as goal

pub returns : goal.returns
returns c = calls_cost
