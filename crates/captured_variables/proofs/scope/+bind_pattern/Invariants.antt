use Rattle.std.proofs.Common.{◌≡◌, map, drop}
use Rattle.hy_core.specs.Scopes.{with_patterns}
use Rattle.hy_core.specs.Syntax.{pattern_of, patterns_of}
use Rattle.captured_variables.proofs.scope.+bind_pattern.Given as goal

abbrev pub invariant-bind_patterns-loop-pattern : goal.invariant-bind_patterns-loop-pattern
invariant-bind_patterns-loop-pattern l =
    with_patterns l.scope (patterns_of (map pattern_of (drop l.pattern-index l.patterns)))
    ≡ with_patterns l.fn.scope (patterns_of (map pattern_of l.patterns))
