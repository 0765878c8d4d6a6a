use Rattle.std.proofs.Common.{◌∙◌, ap, map}
use Rattle.std.proofs.lemmas.List.{take_all}
use Rattle.hy_core.specs.Syntax.{pattern_of}
use Rattle.renaming.specs.VariableLimit.{above_each, above_pattern}
use Rattle.renaming.proofs.AboveForms.{above_step, above-patterns}
use Rattle.renaming.proofs.limit.+pass_pattern.Goals as goal

pub pass_patterns-loop-pattern-preserved : goal.pass_patterns-loop-pattern-preserved
pass_patterns-loop-pattern-preserved _ c =
    above_step above_pattern pattern_of c.args.limit.now c.args.patterns.now
    c.loop-pattern.pattern-index c.pattern-item.result c.loop-pattern-test.true
    c.pattern-item.is c.loop-pattern.invariant c.pass_pattern.ensures

pub pass_patterns-returns : goal.pass_patterns-returns
pass_patterns-returns _ c =
    c.loop-pattern.invariant
    ∙ ap (λ ps. above_each above_pattern c.args.limit.now (map pattern_of ps))
    (take_all _ _ c.loop-pattern-test.false)
    ∙ above-patterns c.args.limit.now (map pattern_of c.args.patterns.now)
