use Rattle.std.proofs.Common.{◌≡◌, subst}
use Rattle.std.specs.declared.cmp.Ordering.TheVariants.{Equal}
use Rattle.hy_terms.specs.TermOrder.{compare}
use Rattle.hy_terms.proofs.OrderLemmas.{same, compare-itself}
use Rattle.hy_terms.proofs.laws.equal_terms_are_the_same.Goals as goal

pub returns : goal.returns
returns c = λ atoms x y. (same atoms x y, λ e. subst (λ z. compare atoms x z ≡ Equal) e (compare-itself atoms x))
