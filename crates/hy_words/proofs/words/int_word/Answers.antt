use Rattle.std.proofs.Common.{◌≡◌, rules, subst, sym}
use Rattle.hy_terms.specs.Labelled as l
use Rattle.hy_words.specs.Words.{number_word}
use Rattle.hy_words.specs.Stands.{Stands, of_int}
use Rattle.hy_words.proofs.words.int_word.Goals as goal

pub returns-clause-stands : goal.returns-clause-stands
returns-clause-stands c =
    let e : c.word.result ≡ number_word c.args.n = search rules in
    λ heap area. subst (Stands heap area (l.Int c.args.n)) (sym e) (of_int c.args.n c.requires)
