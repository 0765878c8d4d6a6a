use Rattle.std.proofs.Common.{subst, take}
use Rattle.hy_core.specs.Reading.{IsModuleText}
use Rattle.language_cases.proofs.ReadTexts.{each_of_text, read_next}
use Rattle.language_cases.proofs.tables.modules_of.Goals as goal

pub loop-text-preserved : goal.loop-text-preserved
loop-text-preserved c =
    read_next c.args.texts.now c.loop-text.text-index c.loop-text.modules.items c.push.new.self.items c.text-item.result
    c.in_ok-module.module c.loop-text-test.true c.text-item.is c.loop-text.invariant
    (subst (λ t. IsModuleText t c.in_ok-module.module) c.as_slice.ensures c.in_ok-module.ensures) c.in_ok-push.ensures.items

pub returns-clause-texts : goal.returns-clause-texts
returns-clause-texts c =
    each_of_text (take c.loop-text.text-index c.args.texts.now) c.loop-text.modules.items
    c.loop-text.invariant
