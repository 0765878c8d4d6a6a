use Rattle.std.proofs.Common.{◌≡◌, ◌∙◌, ap, sym, subst, get_or, [], length}
use Rattle.std.specs.Prelude.{IfOk}
use Rattle.lifted_program.specs.Renaming.{name_for}
use Rattle.renaming.specs.Bindings.{onto}
use Rattle.renaming.proofs.Finding.{name_for_is}
use Rattle.renaming.proofs.scope.Scope.name_for.Goals as goal

pub returns : goal.returns
returns c =
    let bs = onto c.self.inside.bindings.items [] in
    let places = c.self.inside.places.items in
    let place = c.number_at-place.ensures
    ∙ ap (λ l. get_or l c.args.variable 0) c.as_slice.ensures.value in
    let depth = c.depth.ensures ∙ ap length (sym c.self.view_is) in
    subst (λ n. IfOk c.name_at.result (λ name. name ≡ n))
    (name_for_is c.args.limit bs places c.args.variable c.number_at-place.result c.depth.result
    c.self.invariant place depth
    ∙ ap (λ s. name_for c.args.limit s c.args.variable) c.self.view_is)
    c.name_at.ensures
