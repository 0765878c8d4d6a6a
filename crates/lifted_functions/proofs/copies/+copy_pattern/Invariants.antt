use Rattle.std.proofs.Common.{◌≡◌, take}
use Rattle.lifted_functions.proofs.copies.+copy_pattern.Given as goal

abbrev pub invariant-copied_patterns-loop-pattern : goal.invariant-copied_patterns-loop-pattern
invariant-copied_patterns-loop-pattern l = l.copies ≡ take l.pattern-index l.pattern-items
