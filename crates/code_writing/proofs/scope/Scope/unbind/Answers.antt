use Rattle.std.proofs.Common.{◌≡◌, sym, ◌∙◌, ap, subst, arith, [], ◌∷◌, ◌++◌, drop, option_to_list}
use Rattle.code_writing.specs.code.Bindings.{onto, pairs, Linked}
use Rattle.code_writing.proofs.BindingLemmas.{onto_last}
use Rattle.code_writing.proofs.scope.Scope.unbind.Goals as goal

pub index_mut-requires : goal.index_mut-requires
index_mut-requires c =
    let e : c.self.inside.entries.items ≡ c.pop.new.self.items ++ c.in-Some.entry ∷ [] = c.pop.ensures.items ∙ ap (λ o. c.pop.new.self.items ++ option_to_list o) c.in-Some.is in
    let k : Linked (c.in-Some.entry ∷ onto c.pop.new.self.items []) c.self.inside.latest.items = subst (λ l. Linked l c.self.inside.latest.items) (ap (λ l. onto l []) e ∙ onto_last c.pop.new.self.items c.in-Some.entry []) c.self.invariant in
    omega (arith, k.1, c.self.inside.latest.ok.0)

pub invariant_of-self : goal.invariant_of-self
invariant_of-self c =
    let e : c.self.inside.entries.items ≡ c.pop.new.self.items ++ c.in-Some.entry ∷ [] = c.pop.ensures.items ∙ ap (λ o. c.pop.new.self.items ++ option_to_list o) c.in-Some.is in
    let k : Linked (c.in-Some.entry ∷ onto c.pop.new.self.items []) c.self.inside.latest.items = subst (λ l. Linked l c.self.inside.latest.items) (ap (λ l. onto l []) e ∙ onto_last c.pop.new.self.items c.in-Some.entry []) c.self.invariant in
    k.2

pub returns-in-Some : goal.returns-in-Some
returns-in-Some c =
    let e : c.self.inside.entries.items ≡ c.pop.new.self.items ++ c.in-Some.entry ∷ [] = c.pop.ensures.items ∙ ap (λ o. c.pop.new.self.items ++ option_to_list o) c.in-Some.is in
    ap (drop 1) (ap pairs (sym (ap (λ l. onto l []) e ∙ onto_last c.pop.new.self.items c.in-Some.entry []))) ∙ ap (drop 1) c.self.view_is
