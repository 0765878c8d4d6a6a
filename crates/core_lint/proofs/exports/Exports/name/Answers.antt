use Rattle.std.proofs.Common.{ap, ◌∙◌}
use Rattle.core_lint.specs.code.Exports.{ExportTable, has_export}
use Rattle.core_lint.proofs.ExportLemmas.{has-named, named-place, within-named}
use Rattle.core_lint.proofs.exports.Exports.name.Goals as goal

pub invariant_of-self-2 : goal.invariant_of-self-2
invariant_of-self-2 c = within-named c.self.inside.texts c.name.new.self c.self.inside.rows.keys c.args.of_module.now c.in_ok-place.place c.in_ok-place.ensures.ok c.self.invariant

pub returns-clause-place : goal.returns-clause-place
returns-clause-place c = named-place c.self.inside.texts c.name.new.self c.args.of_module.now c.in_ok-place.place c.in_ok-place.ensures.ok

pub returns-clause-same : goal.returns-clause-same
returns-clause-same c = λ a b n.
    has-named c.self.inside.texts c.name.new.self c.self.inside.rows.keys c.args.of_module.now c.in_ok-place.place c.in_ok-place.ensures.ok c.self.invariant a b n
    ∙ ap (λ (table : ExportTable). has_export table a b n) c.self.view_is
