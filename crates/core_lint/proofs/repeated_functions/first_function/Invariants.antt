use Rattle.std.proofs.Common.{◌≡◌, drop}
use Rattle.core_lint.specs.code.RepeatedFunctions.{first_repeated_function}
use Rattle.core_lint.proofs.repeated_functions.first_function.Given as goal

abbrev pub invariant-loop-i : goal.invariant-loop-i
invariant-loop-i l = first_repeated_function l.i (drop l.i l.modules) ≡ first_repeated_function 0 l.modules
