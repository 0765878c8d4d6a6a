use Rattle.std.proofs.Common.{◌≡◌, drop, take}
use Rattle.hy_core.specs.Nodes.{names_of}
use Rattle.core_lint.specs.code.FirstPlace.{first_where}
use Rattle.core_lint.specs.code.RepeatedFunctions.{first_again, repeats_earlier}
use Rattle.core_lint.proofs.repeated_functions.first_again.Given as goal

abbrev pub invariant-loop-j : goal.invariant-loop-j
invariant-loop-j l =
    (l.names ≡ names_of (take l.j l.functions))
    × (first_where (repeats_earlier l.functions) l.j (drop l.j l.functions) ≡ first_again l.functions)
