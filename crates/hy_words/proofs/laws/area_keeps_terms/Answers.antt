use Rattle.hy_words.proofs.Standing.{stands_over}
use Rattle.hy_words.proofs.laws.area_keeps_terms.Goals as goal

pub returns : goal.returns
returns c = λ heap other area t w n s. stands_over heap area other t w n s
