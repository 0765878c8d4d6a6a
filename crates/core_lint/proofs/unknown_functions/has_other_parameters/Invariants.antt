use Rattle.std.proofs.Common.{◌≡◌, drop}
use Rattle.core_lint.specs.code.UnknownFunctions.{has_other_parameters}
use Rattle.core_lint.proofs.unknown_functions.has_other_parameters.Given as goal

abbrev pub invariant-loop-function : goal.invariant-loop-function
invariant-loop-function l = has_other_parameters (drop l.function-index l.functions) ≡ has_other_parameters l.functions
