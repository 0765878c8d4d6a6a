use Rattle.std.proofs.Common.{◌∙◌}
use Rattle.code_writing.proofs.BindingLemmas.{back_step}
use Rattle.code_writing.proofs.scope.Scope.back_to.Goals as goal

pub loop-self-preserved : goal.loop-self-preserved
loop-self-preserved c = back_step c.loop-self.self c.unbind.new.self c.args.depth c.depth.result c.depth.ensures c.loop-self-test.true c.unbind.ensures ∙ c.loop-self.invariant
