use Rattle.std.proofs.Common.{◌≡◌, map, take}
use Rattle.hy_core.specs.Syntax.{pattern_of}
use Rattle.renaming.specs.VariableLimit.{above_each, above_pattern}
use Rattle.renaming.proofs.limit.+pass_pattern.Given as goal

abbrev pub invariant-pass_patterns-loop-pattern : goal.invariant-pass_patterns-loop-pattern
invariant-pass_patterns-loop-pattern l =
    l.limit ≡ above_each above_pattern l.fn.limit (map pattern_of (take l.pattern-index l.patterns))
