use Rattle.std.proofs.Common.{◌∙◌, refl, ap, get_or}
use Rattle.std.proofs.lemmas.List.{take_all, get_or_default}
use Rattle.hy_core.specs.Scopes.{with_variables}
use Rattle.lifted_program.specs.Renaming.{names_for}
use Rattle.renaming.proofs.Binding.{names_step, bound_step, variables_back}
use Rattle.renaming.proofs.patterns.bind_all.Goals as goal

pub loop-variable-init : goal.loop-variable-init
loop-variable-init c = (c.new-names.ensures, refl)

pub loop-variable-preserved : goal.loop-variable-preserved
loop-variable-preserved c =
    let limit = c.args.limit in
    let s = c.args.scope.now in
    let xs = c.as_slice-variable-items.result.now in
    let i = c.loop-variable.variable-index in
    let x = get_or xs i 0 in
    let below = c.loop-variable-test.true in
    let is = get_or_default xs i 0 x below in
    let inv = c.loop-variable.invariant in (
      names_step limit s xs i x below is inv.0 inv.1 c.in_ok-name_for.ensures
          c.in_ok-push.ensures.ok,
      bound_step s xs i x below is inv.1 c.in_ok-bind.ensures,
    )

pub returns-clause-names : goal.returns-clause-names
returns-clause-names c =
    c.loop-variable.invariant.0
    ∙ ap (names_for c.args.limit c.args.scope.now)
    (take_all _ _ c.loop-variable-test.false ∙ c.as_slice-variable-items.ensures)

pub returns-clause-scope : goal.returns-clause-scope
returns-clause-scope c =
    c.loop-variable.invariant.1
    ∙ ap (with_variables c.args.scope.now)
    (take_all _ _ c.loop-variable-test.false ∙ c.as_slice-variable-items.ensures)

pub returns-clause-back : goal.returns-clause-back
returns-clause-back c =
    variables_back c.args.variables.now
    (c.loop-variable.invariant.1
    ∙ ap (with_variables c.args.scope.now)
    (take_all _ _ c.loop-variable-test.false ∙ c.as_slice-variable-items.ensures))
