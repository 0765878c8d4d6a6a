use Rattle.std.proofs.Common.{◌≡◌, ◌++◌, length, reverse}
use Rattle.renaming.proofs.program.reversed.Given as goal

abbrev pub invariant-loop-module : goal.invariant-loop-module
invariant-loop-module l = l.left ++ reverse l.modules ≡ reverse l.fn.modules

abbrev pub decreases-loop-module : goal.decreases-loop-module
decreases-loop-module l = length l.modules
