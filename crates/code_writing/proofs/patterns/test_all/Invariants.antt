use Rattle.std.proofs.Common.{◌≡◌, drop, map}
use Rattle.hy_core.specs.Syntax.{pattern_of, patterns_of}
use Rattle.lowered_code.specs.LoweredPatterns.{tested_all}
use Rattle.code_writing.proofs.patterns.test_all.Given as goal

abbrev pub invariant-loop-pattern : goal.invariant-loop-pattern
invariant-loop-pattern l =
    (l.place ≡ l.pattern-index)
    × (tested_all (patterns_of (map pattern_of (drop l.pattern-index l.patterns))) (drop l.place l.registers) (l.scope, l.checks)
    ≡ tested_all (patterns_of (map pattern_of l.patterns)) l.registers (l.fn.scope, l.fn.checks))
