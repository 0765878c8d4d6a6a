use Rattle.std.proofs.Common.{get_or}
use Rattle.std.proofs.lemmas.List.{get_or_default}
use Rattle.renaming.specs.VariableLimit.{above}
use Rattle.renaming.proofs.AboveForms.{above_step_bare}
use Rattle.renaming.proofs.limit.pass_variables.Goals as goal

pub loop-variable-preserved : goal.loop-variable-preserved
loop-variable-preserved c =
    let xs = c.args.variables.now in
    let i = c.loop-variable.variable-index in
    let x = get_or xs i 0 in
    let below = c.loop-variable-test.true in
    above_step_bare above c.args.limit.now xs i x below (get_or_default xs i 0 x below)
    c.loop-variable.invariant c.pass.ensures
