use Rattle.std.proofs.Common.{◌≡◌, map, take}
use Rattle.core_tables.specs.code.NumberedParts.{numbered_pattern}
use Rattle.core_tables.proofs.patterns.+number.Given as goal

abbrev pub invariant-number_patterns-loop-pattern : goal.invariant-number_patterns-loop-pattern
invariant-number_patterns-loop-pattern l = l.numbered ≡ map (numbered_pattern l.places l.names) (take l.pattern-index l.patterns)
