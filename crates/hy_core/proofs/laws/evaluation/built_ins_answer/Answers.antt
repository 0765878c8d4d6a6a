use Rattle.hy_core.proofs.Forms.{built_ins_answer}
use Rattle.hy_core.proofs.laws.evaluation.built_ins_answer.Goals as goal

pub returns : goal.returns
returns c = built_ins_answer
