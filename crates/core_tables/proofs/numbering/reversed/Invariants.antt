use Rattle.std.proofs.Common.{◌≡◌, ◌++◌, length, reverse}
use Rattle.core_tables.proofs.numbering.reversed.Given as goal

abbrev pub invariant-loop-names : goal.invariant-loop-names
invariant-loop-names l = l.left ++ reverse l.modules ≡ reverse l.fn.modules

abbrev pub decreases-loop-names : goal.decreases-loop-names
decreases-loop-names l = length l.modules
