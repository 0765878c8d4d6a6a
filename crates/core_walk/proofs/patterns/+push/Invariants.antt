use Rattle.std.proofs.Common.{◌≡◌, ◌++◌, drop}
use Rattle.hy_core.specs.SubPatterns.{clause_variables}
use Rattle.core_walk.proofs.patterns.+push.Given as goal

abbrev pub invariant-push_variables-loop-pattern : goal.invariant-push_variables-loop-pattern
invariant-push_variables-loop-pattern l = l.out.items ++ clause_variables (drop l.pattern-index l.patterns) ≡ l.fn.out.items ++ clause_variables l.patterns
