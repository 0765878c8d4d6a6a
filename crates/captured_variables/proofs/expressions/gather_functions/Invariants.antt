use Rattle.std.proofs.Common.{◌≡◌, drop}
use Rattle.captured_variables.specs.code.Walked.{walked_functions}
use Rattle.captured_variables.proofs.expressions.gather_functions.Given as goal

abbrev pub invariant-loop-function : goal.invariant-loop-function
invariant-loop-function l =
    walked_functions l.counts l.walk (drop l.function-index l.functions)
    ≡ walked_functions l.counts l.fn.walk l.functions
