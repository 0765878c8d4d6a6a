use Rattle.std.proofs.Common.{◌≡◌, ℕ, Bool, ◌+◌, drop, map}
use Rattle.hy_core.specs.Syntax.{pattern_of, patterns_of}
use Rattle.lowered_code.specs.LoweredPatterns.{Checks, tested_heads, tested_parts}
use Rattle.program_code.specs.HeldRegisters.{Held}
use Rattle.code_writing.proofs.patterns.+tests.Given as goal

abbrev pub invariant-test_parts-loop-part : goal.invariant-test_parts-loop-part
invariant-test_parts-loop-part l =
    (l.from ≡ l.first + l.part-index)
    × (tested_parts (patterns_of (map pattern_of (drop l.part-index l.parts))) l.from (l.scope, l.checks)
    ≡ tested_parts (patterns_of (map pattern_of l.parts)) l.first (l.fn.scope, l.fn.checks))

abbrev pub invariant-test_heads-loop-head : goal.invariant-test_heads-loop-head
invariant-test_heads-loop-head l =
    (tail : Bool → ℕ → Held × Checks → Held × Checks)
    → tested_heads l.fn.subject.inside (patterns_of (map pattern_of l.heads)) tail l.fn.subject.from (l.fn.scope, l.fn.checks)
    ≡ tested_heads l.inside (patterns_of (map pattern_of (drop l.head-index l.heads))) tail l.from (l.scope, l.checks)
