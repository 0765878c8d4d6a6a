-- The terms of the definitions are the declared ones.
use Rattle.std.proofs.Common.{◌≡◌, List, [], ◌∷◌, map, refl, ap, sym, subst, ◌∙◌}
use Rattle.hy_terms.specs.Term.{Term, Int, Atom, Pid, Nil, Cons, Tuple, Terms, NoTerms, MoreTerms, terms_of, term_step, term_of}
use Rattle.hy_terms.specs.declared.term.Term.{Term as DeclaredTerm}
use Rattle.hy_terms.specs.declared.term.Term.TheOpen as declared
use Rattle.hy_terms.specs.declared.term.Term.TheViews.{roll-Term}
use Rattle.hy_terms.specs.declared.term.Term.TheFolds.{fold-roll-Term, ind-Term, map-Term}

abbrev mutual
  declared_of : Term → DeclaredTerm
  declared_of (Int n) = roll-Term (declared.Int n)
  declared_of (Atom a) = roll-Term (declared.Atom a)
  declared_of (Pid p) = roll-Term (declared.Pid p)
  declared_of Nil = roll-Term declared.Nil
  declared_of (Cons h t) = roll-Term (declared.Cons (declared_of h) (declared_of t))
  declared_of (Tuple ts) = roll-Term (declared.Tuple (all_declared ts))

  all_declared : Terms → List DeclaredTerm
  all_declared NoTerms = []
  all_declared (MoreTerms t ts) = declared_of t ∷ all_declared ts

mutual
  term_of-declared_of : (t : Term) → term_of (declared_of t) ≡ t
  term_of-declared_of (Int n) = fold-roll-Term Term term_step (declared.Int n)
  term_of-declared_of (Atom a) = fold-roll-Term Term term_step (declared.Atom a)
  term_of-declared_of (Pid p) = fold-roll-Term Term term_step (declared.Pid p)
  term_of-declared_of Nil = fold-roll-Term Term term_step declared.Nil
  term_of-declared_of (Cons h t) =
      fold-roll-Term Term term_step (declared.Cons (declared_of h) (declared_of t))
      ∙ (λ i. Cons (term_of-declared_of h i) (term_of-declared_of t i))
  term_of-declared_of (Tuple ts) = fold-roll-Term Term term_step (declared.Tuple (all_declared ts)) ∙ ap Tuple (terms_of-all_declared ts)

  terms_of-all_declared : (ts : Terms) → terms_of (map term_of (all_declared ts)) ≡ ts
  terms_of-all_declared NoTerms = refl
  terms_of-all_declared (MoreTerms t ts) = λ i. MoreTerms (term_of-declared_of t i) (terms_of-all_declared ts i)

-- each term is a declared one
pub term_of-onto : (t : Term) → (x : DeclaredTerm) × (term_of x ≡ t)
term_of-onto t = (declared_of t, term_of-declared_of t)

abbrev ComesBack : DeclaredTerm → Type 0
ComesBack x = declared_of (term_of x) ≡ x

come_back : (xs : List ((x : DeclaredTerm) × ComesBack x)) → all_declared (terms_of (map term_of (map (λ e. e.0) xs))) ≡ map (λ e. e.0) xs
come_back [] = refl
come_back (x ∷ xs) = λ i. x.1 i ∷ come_back xs i

comes_back_at : (x : declared.Term-F ((x : DeclaredTerm) × ComesBack x)) → ComesBack (roll-Term (map-Term ((x : DeclaredTerm) × ComesBack x) DeclaredTerm (λ e. e.0) x))
comes_back_at (declared.Int n) = ap declared_of (fold-roll-Term Term term_step (declared.Int n))
comes_back_at (declared.Atom a) = ap declared_of (fold-roll-Term Term term_step (declared.Atom a))
comes_back_at (declared.Pid p) = ap declared_of (fold-roll-Term Term term_step (declared.Pid p))
comes_back_at declared.Nil = ap declared_of (fold-roll-Term Term term_step declared.Nil)
comes_back_at (declared.Cons h t) =
    ap declared_of (fold-roll-Term Term term_step (declared.Cons h.0 t.0)) ∙ (λ i. roll-Term (declared.Cons (h.1 i) (t.1 i)))
comes_back_at (declared.Tuple xs) =
    ap declared_of (fold-roll-Term Term term_step (declared.Tuple (map (λ e. e.0) xs))) ∙ ap (λ (ys : List DeclaredTerm). roll-Term (declared.Tuple ys)) (come_back xs)

comes_back : (x : DeclaredTerm) → ComesBack x
comes_back = ind-Term ComesBack (λ x y is. subst (λ z. ComesBack (roll-Term z)) is (comes_back_at y))

-- and two declared ones that are one term are the same
pub term_of-injective : (x y : DeclaredTerm) → term_of x ≡ term_of y → x ≡ y
term_of-injective x y e = sym (comes_back x) ∙ ap declared_of e ∙ comes_back y
