use Rattle.std.proofs.Common.{refl}
use Rattle.hy_terms.proofs.laws.private_words_count.Goals as goal

pub returns : goal.returns
returns c = refl
