use Rattle.std.proofs.Common.{◌∙◌}
use Rattle.hybrid_run.proofs.Written.{text_made}
use Rattle.hybrid_run.proofs.check.texts_of.Goals as goal

pub loop-module-preserved : goal.loop-module-preserved
loop-module-preserved c =
    text_made c.args.modules.now c.loop-module.texts.items c.push.new.self.items c.loop-module.module-index c.module-item.result c.from_vec.result c.loop-module-test.true
    c.module-item.is c.loop-module.invariant (c.from_vec.ensures ∙ c.in_ok-text.ensures.canonical) c.in_ok-push.ensures.items
