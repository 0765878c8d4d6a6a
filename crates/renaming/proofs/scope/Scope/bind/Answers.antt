use Rattle.std.proofs.Common.{◌≡◌, ◌+◌, sym, ◌∙◌, ap, subst, arith, set, [], ◌∷◌, ◌++◌}
use Rattle.std.proofs.Common.{length, length-append}
use Rattle.std.proofs.lemmas.List.{get_or_default}
use Rattle.renaming.specs.Bindings.{onto, variables, Linked}
use Rattle.renaming.specs.declared.scope.Binding.{Binding}
use Rattle.renaming.proofs.Finding.{linked_same, linked_more, onto_last, onto_length}
use Rattle.renaming.proofs.scope.Scope.bind.Goals as goal

pub invariant_of-self : goal.invariant_of-self
invariant_of-self c =
    linked_same (onto c.self.inside.bindings.items []) c.self.inside.places.items
    c.make_room.new.numbers.items c.make_room.ensures.longer c.make_room.ensures.same
    c.self.invariant

pub invariant_of-self-then-len-ge4294967295 : goal.invariant_of-self-then-len-ge4294967295
invariant_of-self-then-len-ge4294967295 c =
    linked_same (onto c.self.inside.bindings.items []) c.self.inside.places.items
    c.make_room.new.numbers.items c.make_room.ensures.longer c.make_room.ensures.same
    c.self.invariant

pub invariant_of-self-2 : goal.invariant_of-self-2
invariant_of-self-2 c =
    let room = c.make_room.new.numbers.items in
    let bs = c.self.inside.bindings.items in
    let base =
    linked_same (onto bs []) c.self.inside.places.items room c.make_room.ensures.longer
    c.make_room.ensures.same c.self.invariant in
    let b : Binding = record { variable = c.args.variable; around = c.index-around.result.now } in
    let grown : c.push.new.self.items ≡ bs ++ b ∷ [] = c.in_ok-push.ensures.items in
    let l = onto_length bs [] in
    let m = ap length grown ∙ length-append bs (b ∷ []) in
    let n : c.len-2.result ≡ length (onto bs []) + 1 =
    omega (arith, l, m, c.len-2.ensures, c.push.new.self.ok.0) in
    subst (λ z. Linked z (set room c.args.variable c.len-2.result))
    (sym (ap (λ z. onto z []) grown ∙ onto_last bs b []))
    (linked_more b (onto bs []) room c.len-2.result base c.in_ok-make_room.ensures.inside
    (c.index-around.ensures
    ∙ get_or_default room c.args.variable c.index-around.result.now 0
    c.in_ok-make_room.ensures.inside) n)

pub returns : goal.returns
returns c =
    let bs = c.self.inside.bindings.items in
    let b : Binding = record { variable = c.args.variable; around = c.index-around.result.now } in
    let grown : c.push.new.self.items ≡ bs ++ b ∷ [] = c.in_ok-push.ensures.items in
    ap (λ z. variables (onto z [])) grown ∙ ap variables (onto_last bs b [])
    ∙ ap (λ z. c.args.variable ∷ z) c.self.view_is

pub invariant_of-self-in_err-push : goal.invariant_of-self-in_err-push
invariant_of-self-in_err-push c =
    let room = c.make_room.new.numbers.items in
    let base =
    linked_same (onto c.self.inside.bindings.items []) c.self.inside.places.items room
    c.make_room.ensures.longer c.make_room.ensures.same c.self.invariant in
    subst (λ z. Linked (onto z []) room) (sym c.in_err-push.ensures.items) base
