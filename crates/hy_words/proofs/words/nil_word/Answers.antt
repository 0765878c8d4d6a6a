use Rattle.std.proofs.Common.{sym, subst}
use Rattle.hy_terms.specs.Labelled as l
use Rattle.hy_words.specs.Stands.{Stands, of_nil}
use Rattle.hy_words.proofs.words.nil_word.Goals as goal

pub returns-clause-stands : goal.returns-clause-stands
returns-clause-stands c = λ heap area. subst (Stands heap area l.Nil) (sym c.word.ensures) of_nil
