use Rattle.hy_words.proofs.Standing.{stands_grows}
use Rattle.hy_words.proofs.laws.growing_keeps_terms.Goals as goal

pub returns : goal.returns
returns c = stands_grows
