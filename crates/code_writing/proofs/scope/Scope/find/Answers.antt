use Rattle.std.proofs.Common.{◌≡◌, ◌+◌, ◌-◌, sym, ◌∙◌, ap, arith, get_or, [], Some}
use Rattle.program_code.specs.HeldRegisters.{register_of}
use Rattle.code_writing.specs.code.Bindings.{onto, pairs}
use Rattle.code_writing.proofs.BindingLemmas.{find_none, find_some, onto_twice, onto_length}
use Rattle.code_writing.proofs.scope.Scope.find.Goals as goal

pub returns-then-number-eq0 : goal.returns-then-number-eq0
returns-then-number-eq0 c =
    let at : get_or c.self.inside.latest.items c.args.variable 0 ≡ 0 = ap (λ l. get_or l c.args.variable 0) (sym c.as_slice.ensures.value) ∙ sym c.number_at-number.ensures ∙ c.if-number-eq0.true in
    sym (find_none (onto c.self.inside.entries.items []) c.self.inside.latest.items c.args.variable c.self.invariant at) ∙ ap (register_of c.args.variable) c.self.view_is

pub index-entry-requires : goal.index-entry-requires
index-entry-requires c =
    let at : get_or c.self.inside.latest.items c.args.variable 0 ≡ c.number_at-number.result = ap (λ l. get_or l c.args.variable 0) (sym c.as_slice.ensures.value) ∙ sym c.number_at-number.ensures in
    let n : get_or c.self.inside.latest.items c.args.variable 0 ≡ (c.number_at-number.result - 1) + 1 = omega (arith, at, c.if-number-eq0.false) in
    let f = (find_some (onto c.self.inside.entries.items []) c.self.inside.latest.items c.args.variable (c.number_at-number.result - 1) (record { variable = 0; register = 0; before = 0 }) c.self.invariant n).inside in
    let l = onto_length c.self.inside.entries.items [] in
    omega (arith, f, l, c.self.inside.entries.ok.0)

pub returns : goal.returns
returns c =
    let at : get_or c.self.inside.latest.items c.args.variable 0 ≡ c.number_at-number.result = ap (λ l. get_or l c.args.variable 0) (sym c.as_slice.ensures.value) ∙ sym c.number_at-number.ensures in
    let n : get_or c.self.inside.latest.items c.args.variable 0 ≡ (c.number_at-number.result - 1) + 1 = omega (arith, at, c.if-number-eq0.false) in
    let d = c.index-entry.result.now in
    let f : register_of c.args.variable (pairs (onto c.self.inside.entries.items [])) ≡ Some (get_or (onto (onto c.self.inside.entries.items []) []) (c.number_at-number.result - 1) d).register = (find_some (onto c.self.inside.entries.items []) c.self.inside.latest.items c.args.variable (c.number_at-number.result - 1) d c.self.invariant n).there in
    let g : d ≡ get_or c.self.inside.entries.items (c.number_at-number.result - 1) d = c.index-entry.ensures in
    ap (λ z. Some z.register) g ∙ ap (λ l. Some (get_or l (c.number_at-number.result - 1) d).register) (sym (onto_twice c.self.inside.entries.items)) ∙ sym f ∙ ap (register_of c.args.variable) c.self.view_is
