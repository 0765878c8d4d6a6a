use Rattle.std.proofs.Common.{refl}
use Rattle.hy_terms.proofs.laws.terms_ascend.Goals as goal

pub returns : goal.returns
returns c = refl
