use Rattle.hy_core.proofs.Forms.{receive_uses_input}
use Rattle.hy_core.proofs.laws.evaluation.receive_uses_one_input.Goals as goal

pub returns : goal.returns
returns c = receive_uses_input
