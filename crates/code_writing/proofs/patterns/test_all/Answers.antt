use Rattle.std.proofs.Common.{rules, sym, ◌∙◌, ap, arith, ◌≡◌, drop, length, map, [], ◌+◌, false}
use Rattle.std.proofs.lemmas.List.{drop_all}
use Rattle.hy_core.specs.Syntax.{pattern_of, patterns_of}
use Rattle.lowered_code.specs.Builder.{first}
use Rattle.lowered_code.specs.LoweredPatterns.{tested, tested_all}
use Rattle.code_writing.proofs.PatternLemmas.{tests_step, tests_back}
use Rattle.code_writing.proofs.patterns.test_all.Goals as goal

pub loop-pattern-preserved : goal.loop-pattern-preserved
loop-pattern-preserved c =
    let f : (c.test_pattern.new.scope, c.test_pattern.new.checks) ≡ tested false (pattern_of c.pattern-item.result) (first (drop c.loop-pattern.place c.args.registers.now)) (c.loop-pattern.scope, c.loop-pattern.checks) = c.in_ok-test_pattern.ensures ∙ ap (λ r. tested false (pattern_of c.pattern-item.result) r (c.loop-pattern.scope, c.loop-pattern.checks)) c.register_at.ensures in
    (ap (λ n. n + 1) c.loop-pattern.invariant.0, tests_step c.loop-pattern.pattern-index c.loop-pattern.place c.args.patterns.now c.args.registers.now (c.loop-pattern.scope, c.loop-pattern.checks) _ c.pattern-item.result c.loop-pattern-test.true c.pattern-item.is f ∙ c.loop-pattern.invariant.1)

pub returns-clause-back : goal.returns-clause-back
returns-clause-back c =
    let past : drop c.loop-pattern.pattern-index c.args.patterns.now ≡ [] = drop_all c.loop-pattern.pattern-index c.args.patterns.now (omega arith) in
    let e : (c.loop-pattern.scope, c.loop-pattern.checks) ≡ tested_all (patterns_of (map pattern_of c.args.patterns.now)) c.args.registers.now (c.args.scope.now, c.args.checks.now) = ap (λ l. tested_all (patterns_of (map pattern_of l)) (drop c.loop-pattern.place c.args.registers.now) (c.loop-pattern.scope, c.loop-pattern.checks)) (sym past) ∙ c.loop-pattern.invariant.1 in
    tests_back (patterns_of (map pattern_of c.args.patterns.now)) c.args.registers.now _ _ _ _ e
