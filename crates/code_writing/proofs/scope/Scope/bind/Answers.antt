use Rattle.std.proofs.Common.{◌≡◌, ◌+◌, sym, ◌∙◌, ap, subst, arith, set, [], ◌∷◌, ◌++◌, length, length-append}
use Rattle.std.proofs.lemmas.List.{get_or_default}
use Rattle.code_writing.specs.code.Bindings.{onto, pairs, Linked}
use Rattle.code_writing.specs.declared.scope.Entry.{Entry}
use Rattle.code_writing.proofs.BindingLemmas.{linked_same, linked_more, onto_last, onto_length}
use Rattle.code_writing.proofs.scope.Scope.bind.Goals as goal

pub invariant_of-self : goal.invariant_of-self
invariant_of-self c = linked_same (onto c.self.inside.entries.items []) c.self.inside.latest.items c.make_room.new.numbers.items c.make_room.ensures.longer c.make_room.ensures.same c.self.invariant

pub invariant_of-self-then-len-ge4294967295 : goal.invariant_of-self-then-len-ge4294967295
invariant_of-self-then-len-ge4294967295 c = linked_same (onto c.self.inside.entries.items []) c.self.inside.latest.items c.make_room.new.numbers.items c.make_room.ensures.longer c.make_room.ensures.same c.self.invariant

pub invariant_of-self-2 : goal.invariant_of-self-2
invariant_of-self-2 c =
    let base = linked_same (onto c.self.inside.entries.items []) c.self.inside.latest.items c.make_room.new.numbers.items c.make_room.ensures.longer c.make_room.ensures.same c.self.invariant in
    let e : Entry = record { variable = c.args.variable; register = c.args.register; before = c.index-before.result.now } in
    let grown : c.push.new.self.items ≡ c.self.inside.entries.items ++ e ∷ [] = c.in_ok-push.ensures.items in
    let l = onto_length c.self.inside.entries.items [] in
    let m = ap length grown ∙ length-append c.self.inside.entries.items (e ∷ []) in
    let n : c.len-2.result ≡ length (onto c.self.inside.entries.items []) + 1 = omega (arith, l, m, c.len-2.ensures, c.push.new.self.ok.0) in
    subst (λ z. Linked z (set c.make_room.new.numbers.items c.args.variable c.len-2.result)) (sym (ap (λ z. onto z []) grown ∙ onto_last c.self.inside.entries.items e [])) (linked_more e (onto c.self.inside.entries.items []) c.make_room.new.numbers.items c.len-2.result base c.in_ok-make_room.ensures.room (c.index-before.ensures ∙ get_or_default c.make_room.new.numbers.items c.args.variable c.index-before.result.now 0 c.in_ok-make_room.ensures.room) n)

pub returns : goal.returns
returns c =
    let e : Entry = record { variable = c.args.variable; register = c.args.register; before = c.index-before.result.now } in
    let grown : c.push.new.self.items ≡ c.self.inside.entries.items ++ e ∷ [] = c.in_ok-push.ensures.items in
    ap (λ z. pairs (onto z [])) grown ∙ ap pairs (onto_last c.self.inside.entries.items e []) ∙ ap (λ z. (c.args.variable, c.args.register) ∷ z) c.self.view_is

pub invariant_of-self-in_err-push : goal.invariant_of-self-in_err-push
invariant_of-self-in_err-push c =
    let base = linked_same (onto c.self.inside.entries.items []) c.self.inside.latest.items c.make_room.new.numbers.items c.make_room.ensures.longer c.make_room.ensures.same c.self.invariant in
    subst (λ z. Linked (onto z []) c.make_room.new.numbers.items) (sym c.in_err-push.ensures.items) base
