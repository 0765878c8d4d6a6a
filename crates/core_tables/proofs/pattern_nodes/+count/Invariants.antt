use Rattle.std.proofs.Common.{◌≡◌, ◌+◌, length, drop}
use Rattle.hy_core.specs.SubPatterns.{patterns_in}
use Rattle.core_tables.proofs.pattern_nodes.+count.Given as goal

abbrev pub invariant-pass_patterns-loop-pattern : goal.invariant-pass_patterns-loop-pattern
invariant-pass_patterns-loop-pattern l = l.node + length (patterns_in (drop l.pattern-index l.patterns)) ≡ l.fn.node + length (patterns_in l.patterns)
