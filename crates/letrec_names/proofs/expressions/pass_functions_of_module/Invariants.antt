use Rattle.std.proofs.Common.{◌≡◌, drop}
use Rattle.letrec_names.specs.code.Passed.{passed_functions}
use Rattle.letrec_names.proofs.expressions.pass_functions_of_module.Given as goal

abbrev pub invariant-loop-function : goal.invariant-loop-function
invariant-loop-function l =
    passed_functions l.counts.items (drop l.function-index l.functions)
    ≡ passed_functions l.fn.counts.items l.functions
