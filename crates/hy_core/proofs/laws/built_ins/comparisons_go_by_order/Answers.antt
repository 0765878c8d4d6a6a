use Rattle.hy_core.proofs.TermComparisons.{compares_by_order}
use Rattle.hy_core.proofs.laws.built_ins.comparisons_go_by_order.Goals as goal

pub returns : goal.returns
returns c = compares_by_order
