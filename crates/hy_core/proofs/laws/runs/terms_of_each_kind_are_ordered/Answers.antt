use Rattle.hy_core.proofs.WorkedRuns.{terms_are_ordered}
use Rattle.hy_core.proofs.laws.runs.terms_of_each_kind_are_ordered.Goals as goal

pub returns : goal.returns
returns c = terms_are_ordered
