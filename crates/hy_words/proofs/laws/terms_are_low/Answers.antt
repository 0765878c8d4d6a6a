use Rattle.hy_words.proofs.HeightLemmas.{stands_height}
use Rattle.hy_words.proofs.laws.terms_are_low.Goals as goal

pub returns : goal.returns
returns c = stands_height
