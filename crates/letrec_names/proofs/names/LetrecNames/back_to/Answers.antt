use Rattle.std.proofs.Common.{◌∙◌}
use Rattle.letrec_names.proofs.Naming.{back_step}
use Rattle.letrec_names.proofs.names.LetrecNames.back_to.Goals as goal

pub loop-self-preserved : goal.loop-self-preserved
loop-self-preserved c =
    back_step c.loop-self.self c.leave.new.self c.args.height c.height.result c.height.ensures
    c.loop-self-test.true c.leave.ensures
    ∙ c.loop-self.invariant
