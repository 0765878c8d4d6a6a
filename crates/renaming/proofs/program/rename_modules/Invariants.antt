use Rattle.std.proofs.Common.{◌≡◌, ◌++◌, length, map, reverse}
use Rattle.renaming.specs.RenamedProgram.{renamed_module}
use Rattle.renaming.proofs.program.rename_modules.Given as goal

abbrev pub invariant-loop-module : goal.invariant-loop-module
invariant-loop-module l =
    l.renamed ++ map (renamed_module l.limit) (reverse l.left)
    ≡ map (renamed_module l.limit) l.fn.modules

abbrev pub decreases-loop-module : goal.decreases-loop-module
decreases-loop-module l = length l.left
