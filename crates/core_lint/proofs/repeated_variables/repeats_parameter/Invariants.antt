use Rattle.std.proofs.Common.{◌≡◌, drop}
use Rattle.core_lint.specs.code.RepeatedVariables.{repeats_parameter}
use Rattle.core_lint.proofs.repeated_variables.repeats_parameter.Given as goal

abbrev pub invariant-loop-function : goal.invariant-loop-function
invariant-loop-function l = repeats_parameter (drop l.function-index l.functions) ≡ repeats_parameter l.functions
