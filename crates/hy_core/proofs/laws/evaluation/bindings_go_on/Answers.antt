use Rattle.hy_core.proofs.Forms.{go_on}
use Rattle.hy_core.proofs.laws.evaluation.bindings_go_on.Goals as goal

pub returns : goal.returns
returns c = go_on
