use Rattle.std.proofs.Common.{◌≡◌, ◌<◌, Some, length, sym, ap, ◌∙◌, ◌||◌, subst}
use Rattle.hy_terms.specs.Naming.{place_in}
use Rattle.core_lint.specs.code.Exports.{ExportTable, RowsWithin, has_export, is_export}
use Rattle.core_lint.proofs.ExportLemmas.{has-added, place-named, within-added, within-named}
use Rattle.core_lint.proofs.exports.Exports.add.Goals as goal

pub invariant_of-self-in_err-insert : goal.invariant_of-self-in_err-insert
invariant_of-self-in_err-insert c =
    subst (RowsWithin (length c.name.new.self)) (sym c.in_err-insert.ensures.err)
    (within-named c.self.inside.texts c.name.new.self c.self.inside.rows.keys c.args.name.now c.in_ok-name.name c.in_ok-name.ensures.ok c.self.invariant)

pub invariant_of-self-2 : goal.invariant_of-self-2
invariant_of-self-2 c =
    let below = subst (λ (table : ExportTable). c.args.place < length table.texts) (sym c.self.view_is) c.requires in
    subst (RowsWithin (length c.name.new.self)) (sym c.in_ok-insert.ensures.keys)
    (within-added c.self.inside.texts c.name.new.self c.self.inside.rows.keys c.args.name.now c.args.arity c.args.place c.in_ok-name.name below c.in_ok-name.ensures.ok c.self.invariant)

pub returns : goal.returns
returns c = λ of_module at.
    let texts = c.self.inside.texts in
    let named = c.in_ok-name.ensures.ok in
    let placed = subst (λ (table : ExportTable). place_in table.texts of_module ≡ Some c.args.place) (sym c.self.view_is) at in (
      place-named texts c.name.new.self of_module c.args.name.now c.args.place c.in_ok-name.name placed named,
      λ a b n.
          has-added texts c.name.new.self c.self.inside.rows.keys c.insert.new.self.keys of_module c.args.name.now c.args.arity c.args.place c.in_ok-name.name placed named c.self.invariant c.in_ok-insert.ensures.keys a b n
          ∙ ap (λ (table : ExportTable). has_export table a b n || is_export of_module c.args.name.now c.args.arity a b n) c.self.view_is,
    )
