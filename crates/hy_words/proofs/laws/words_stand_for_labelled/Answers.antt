use Rattle.hy_words.proofs.Standing.{stands_labelled}
use Rattle.hy_words.proofs.laws.words_stand_for_labelled.Goals as goal

pub returns : goal.returns
returns c = stands_labelled
