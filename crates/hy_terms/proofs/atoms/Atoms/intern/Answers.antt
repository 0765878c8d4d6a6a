use Rattle.std.proofs.Common.{◌≡◌, ◌++◌, ◌∷◌, [], ℕ, List, None, length, sym, ap, ◌∙◌, subst, arith}
use Rattle.std.proofs.lemmas.List.{length_push}
use Rattle.hy_terms.specs.Naming.{place_in}
use Rattle.hy_terms.proofs.NamingLemmas.{named-known, named-new}
use Rattle.hy_terms.proofs.atoms.Atoms.intern.Goals as goal

pub returns-in-Some-clause-ok : goal.returns-in-Some-clause-ok
returns-in-Some-clause-ok c = named-known _ _ _ (sym c.in-Some.ensures.place)

pub overflow_cast-result : goal.overflow_cast-result
overflow_cast-result c =
    let absent : place_in c.self.inside.texts c.args.text.now ≡ None =
    subst (λ t. place_in t c.args.text.now ≡ None) (sym c.self.view_is)
    (sym c.in_default.ensures.place) in
    let same = sym c.in_ok-name.ensures.ok ∙ named-new c.self.inside.texts c.args.text.now absent in
    let place : c.in_ok-name.field-0 ≡ length c.self.inside.texts = ap (λ (r : ℕ × List (List ℕ)). r.0) same in
    omega (arith, place, c.self.invariant)

pub invariant_of-self-2 : goal.invariant_of-self-2
invariant_of-self-2 c =
    let absent : place_in c.self.inside.texts c.args.text.now ≡ None =
    subst (λ t. place_in t c.args.text.now ≡ None) (sym c.self.view_is)
    (sym c.in_default.ensures.place) in
    let same = sym c.in_ok-name.ensures.ok ∙ named-new c.self.inside.texts c.args.text.now absent in
    let texts : c.name.new.self ≡ c.self.inside.texts ++ c.args.text.now ∷ [] = ap (λ (r : ℕ × List (List ℕ)). r.1) same in
    omega (arith, ap length texts, length_push c.self.inside.texts c.args.text.now, c.self.invariant, c.len.ensures.len, c.if-len-eq-MOST_ATOMS.false)
