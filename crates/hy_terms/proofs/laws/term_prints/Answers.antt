use Rattle.std.proofs.Common.{refl}
use Rattle.std.specs.Fmt.{digits}
use Rattle.hy_terms.proofs.laws.term_prints.Goals as goal

pub returns : goal.returns
unfolding digits
returns c = refl
