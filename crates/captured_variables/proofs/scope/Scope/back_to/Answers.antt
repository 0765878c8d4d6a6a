use Rattle.std.proofs.Common.{◌∙◌}
use Rattle.captured_variables.proofs.Finding.{back_step}
use Rattle.captured_variables.proofs.scope.Scope.back_to.Goals as goal

pub loop-self-preserved : goal.loop-self-preserved
loop-self-preserved c =
    back_step c.loop-self.self c.unbind.new.self c.args.depth c.depth.result c.depth.ensures
    c.loop-self-test.true c.unbind.ensures
    ∙ c.loop-self.invariant
