use Rattle.hy_core.proofs.Forms.{case_chooses}
use Rattle.hy_core.proofs.laws.evaluation.case_chooses_first_clause.Goals as goal

pub returns : goal.returns
returns c = case_chooses
