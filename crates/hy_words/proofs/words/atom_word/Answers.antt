use Rattle.std.proofs.Common.{◌≡◌, arith, subst, sym, rules}
use Rattle.hy_terms.specs.Labelled as l
use Rattle.hy_words.specs.Words.{atom_word_of}
use Rattle.hy_words.specs.Stands.{Stands, of_atom}
use Rattle.hy_words.proofs.words.atom_word.Goals as goal

pub returns-clause-stands : goal.returns-clause-stands
returns-clause-stands c =
    let e : c.word.result ≡ atom_word_of c.args.atom = search rules in
    λ heap area. subst (Stands heap area (l.Atom c.args.atom)) (sym e) (of_atom c.args.atom (omega arith))
