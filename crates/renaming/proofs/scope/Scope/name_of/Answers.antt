use Rattle.std.proofs.Common.{◌≡◌, ◌+◌, ◌-◌, ◌∙◌, ap, sym, subst, get_or, [], length, arith}
use Rattle.std.specs.Prelude.{IfOk}
use Rattle.lifted_program.specs.Renaming.{name_of}
use Rattle.renaming.specs.Bindings.{onto}
use Rattle.renaming.specs.declared.scope.Binding.{Binding}
use Rattle.renaming.proofs.Finding.{find_some, name_of_none, name_of_some, onto_length}
use Rattle.renaming.proofs.scope.Scope.name_of.Goals as goal

pub returns-then-place-eq0 : goal.returns-then-place-eq0
returns-then-place-eq0 c =
    let bs = onto c.self.inside.bindings.items [] in
    let places = c.self.inside.places.items in
    let place = c.number_at-place.ensures
    ∙ ap (λ l. get_or l c.args.variable 0) c.as_slice.ensures.value in
    let depth = c.depth.ensures ∙ ap length (sym c.self.view_is) in
    subst (λ n. IfOk c.name_at.result (λ name. name ≡ n))
    (name_of_none c.args.limit bs places c.args.variable c.number_at-place.result c.depth.result
    c.self.invariant place depth c.if-place-eq0.true
    ∙ ap (λ s. name_of c.args.limit s c.args.variable) c.self.view_is)
    c.name_at.ensures

pub index-binding-requires : goal.index-binding-requires
index-binding-requires c =
    let bs = c.self.inside.bindings.items in
    let places = c.self.inside.places.items in
    let place = c.number_at-place.ensures
    ∙ ap (λ l. get_or l c.args.variable 0) c.as_slice.ensures.value in
    let depth = c.number_at-place.result - 1 in
    let at : get_or places c.args.variable 0 ≡ depth + 1 = omega
    (arith, place, c.if-place-eq0.false) in
    let d : Binding = record { variable = 0; around = 0 } in
    let f = find_some c.args.limit (onto bs []) places c.args.variable depth d c.self.invariant
    at in
    let l = onto_length bs [] in
    omega (arith, f.inside, l, c.self.inside.bindings.ok.0)

pub returns : goal.returns
returns c =
    let bs = c.self.inside.bindings.items in
    let places = c.self.inside.places.items in
    let place = c.number_at-place.ensures
    ∙ ap (λ l. get_or l c.args.variable 0) c.as_slice.ensures.value in
    let depth = c.number_at-place.result - 1 in
    let at : c.number_at-place.result ≡ depth + 1 = omega (arith, c.if-place-eq0.false) in
    subst (λ n. IfOk c.name_at-2.result (λ name. name ≡ n))
    (name_of_some c.args.limit bs places c.args.variable c.number_at-place.result depth
    c.index-binding.result.now c.self.invariant place at c.index-binding.ensures
    ∙ ap (λ s. name_of c.args.limit s c.args.variable) c.self.view_is)
    c.name_at-2.ensures
