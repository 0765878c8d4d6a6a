use Rattle.hy_core.proofs.WorkedRuns.{terms_print}
use Rattle.hy_core.proofs.laws.runs.terms_print.Goals as goal

pub returns : goal.returns
returns c = terms_print
