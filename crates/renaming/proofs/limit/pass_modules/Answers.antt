use Rattle.renaming.specs.VariableLimit.{above_module}
use Rattle.renaming.proofs.AboveForms.{above_step_bare}
use Rattle.renaming.proofs.limit.pass_modules.Goals as goal

pub loop-names-preserved : goal.loop-names-preserved
loop-names-preserved c =
    above_step_bare above_module c.args.limit.now c.args.modules.now c.loop-names.names-index
    c.names-item.result c.loop-names-test.true c.names-item.is c.loop-names.invariant
    c.pass_functions.ensures
