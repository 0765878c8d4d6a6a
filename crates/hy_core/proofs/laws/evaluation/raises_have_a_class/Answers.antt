use Rattle.hy_core.proofs.Forms.{raise}
use Rattle.hy_core.proofs.laws.evaluation.raises_have_a_class.Goals as goal

pub returns : goal.returns
returns c = raise
