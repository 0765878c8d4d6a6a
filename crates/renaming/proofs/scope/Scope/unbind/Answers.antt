use Rattle.std.proofs.Common.{◌≡◌, sym, ◌∙◌, ap, subst, arith, [], ◌∷◌, ◌++◌, drop, option_to_list}
use Rattle.renaming.specs.Bindings.{onto, variables, Linked}
use Rattle.renaming.proofs.Finding.{onto_last}
use Rattle.renaming.proofs.scope.Scope.unbind.Goals as goal

pub index_mut-requires : goal.index_mut-requires
index_mut-requires c =
    let b = c.in-Some.binding in
    let left = c.pop.new.self.items in
    let e : c.self.inside.bindings.items ≡ left ++ b ∷ [] =
    c.pop.ensures.items ∙ ap (λ o. left ++ option_to_list o) c.in-Some.is in
    let k : Linked (b ∷ onto left []) c.self.inside.places.items =
    subst (λ l. Linked l c.self.inside.places.items)
    (ap (λ l. onto l []) e ∙ onto_last left b []) c.self.invariant in
    omega (arith, k.1, c.self.inside.places.ok.0)

pub invariant_of-self : goal.invariant_of-self
invariant_of-self c =
    let b = c.in-Some.binding in
    let left = c.pop.new.self.items in
    let e : c.self.inside.bindings.items ≡ left ++ b ∷ [] =
    c.pop.ensures.items ∙ ap (λ o. left ++ option_to_list o) c.in-Some.is in
    let k : Linked (b ∷ onto left []) c.self.inside.places.items =
    subst (λ l. Linked l c.self.inside.places.items)
    (ap (λ l. onto l []) e ∙ onto_last left b []) c.self.invariant in
    k.2

pub returns-in-Some : goal.returns-in-Some
returns-in-Some c =
    let b = c.in-Some.binding in
    let left = c.pop.new.self.items in
    let e : c.self.inside.bindings.items ≡ left ++ b ∷ [] =
    c.pop.ensures.items ∙ ap (λ o. left ++ option_to_list o) c.in-Some.is in
    ap (drop 1) (ap variables (sym (ap (λ l. onto l []) e ∙ onto_last left b [])))
    ∙ ap (drop 1) c.self.view_is
