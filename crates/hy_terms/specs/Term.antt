-- A term, as definitions compute with it: this project's own choice of values. The type that the
-- sources declare is sealed outside its crate, so that nothing over it computes there.
use Rattle.std.specs.Prelude.{ℕ, suc, ℤ, List, [], ◌∷◌}
use Rattle.hy_terms.specs.declared.term.Term.{Term as DeclaredTerm}
use Rattle.hy_terms.specs.declared.term.Term.TheOpen as declared
use Rattle.hy_terms.specs.declared.term.Term.TheFolds.{fold-Term}

mutual
  pub data Term : Type 0 where
    Int : ℤ → Term
    Atom : ℕ → Term
    Pid : ℕ → Term
    Nil : Term
    Cons : Term → Term → Term
    Tuple : Terms → Term

  pub data Terms : Type 0 where
    NoTerms : Terms
    MoreTerms : Term → Terms → Terms

abbrev pub terms_of : List Term → Terms
terms_of [] = NoTerms
terms_of (t ∷ ts) = MoreTerms t (terms_of ts)

abbrev pub list_of : Terms → List Term
list_of NoTerms = []
list_of (MoreTerms t ts) = t ∷ list_of ts

abbrev pub size_of : Terms → ℕ
size_of NoTerms = 0
size_of (MoreTerms t ts) = suc (size_of ts)

-- the term that a declared one is
abbrev pub term_step : declared.Term-F Term → Term
term_step (declared.Int n) = Int n
term_step (declared.Atom a) = Atom a
term_step (declared.Pid p) = Pid p
term_step declared.Nil = Nil
term_step (declared.Cons head tail) = Cons head tail
term_step (declared.Tuple parts) = Tuple (terms_of parts)

abbrev pub term_of : DeclaredTerm → Term
term_of = fold-Term Term term_step
