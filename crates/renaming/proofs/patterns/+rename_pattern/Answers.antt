use Rattle.std.proofs.Common.{◌∙◌, ap, map}
use Rattle.std.proofs.lemmas.List.{take_all}
use Rattle.hy_core.specs.Scopes.{with_patterns}
use Rattle.hy_core.specs.Syntax.{pattern_of, patterns_of}
use Rattle.renaming.proofs.Binding.{patterns_step, scope_step, patterns_back}
use Rattle.renaming.proofs.patterns.+rename_pattern.Goals as goal

pub rename_patterns-loop-pattern-preserved : goal.rename_patterns-loop-pattern-preserved
rename_patterns-loop-pattern-preserved _ c =
    let s = c.args.scope.now in
    let xs = c.args.patterns.now in
    let i = c.loop-pattern.pattern-index in
    let x = c.pattern-item.result in
    let below = c.loop-pattern-test.true in
    let inv = c.loop-pattern.invariant in (
      patterns_step pattern_of c.args.limit s xs i x c.loop-pattern.renamed
          c.in_ok-rename_pattern.field-0 below c.pattern-item.is inv.0 inv.1
          c.in_ok-rename_pattern.ensures.renamed c.in_ok-push.ensures.ok,
      scope_step pattern_of s xs i x below c.pattern-item.is inv.1
          c.in_ok-rename_pattern.ensures.scope,
    )

pub rename_patterns-returns-clause-back : goal.rename_patterns-returns-clause-back
rename_patterns-returns-clause-back _ c =
    patterns_back (patterns_of (map pattern_of c.args.patterns.now))
    (c.loop-pattern.invariant.1
    ∙ ap (λ ps. with_patterns c.args.scope.now (patterns_of (map pattern_of ps)))
    (take_all _ _ c.loop-pattern-test.false))
