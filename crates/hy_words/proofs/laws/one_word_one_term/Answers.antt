use Rattle.hy_words.proofs.Standing.{one_term}
use Rattle.hy_words.proofs.laws.one_word_one_term.Goals as goal

pub returns : goal.returns
returns c = one_term
