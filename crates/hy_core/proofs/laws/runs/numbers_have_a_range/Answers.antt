use Rattle.hy_core.proofs.WorkedRuns.{numbers_have_a_range}
use Rattle.hy_core.proofs.laws.runs.numbers_have_a_range.Goals as goal

pub returns : goal.returns
returns c = numbers_have_a_range
