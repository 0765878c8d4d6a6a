use Rattle.std.proofs.Common.{sym, subst}
use Rattle.hy_terms.specs.Labelled as l
use Rattle.hy_words.specs.Stands.{Stands, of_pid}
use Rattle.hy_words.proofs.words.pid_word.Goals as goal

pub returns-clause-stands : goal.returns-clause-stands
returns-clause-stands c =
    λ heap area. subst (Stands heap area (l.Pid c.args.pid)) (sym c.word.ensures) (of_pid c.args.pid c.requires)
