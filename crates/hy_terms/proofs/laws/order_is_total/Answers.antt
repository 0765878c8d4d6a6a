use Rattle.hy_terms.proofs.OrderLemmas.{IsTotalOrder-compare}
use Rattle.hy_terms.proofs.laws.order_is_total.Goals as goal

pub returns : goal.returns
returns c = IsTotalOrder-compare
