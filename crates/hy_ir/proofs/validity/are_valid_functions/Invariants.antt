use Rattle.std.proofs.Common.{◌≡◌, drop, map}
use Rattle.hy_ir.specs.Checking.{functions_checked}
use Rattle.hy_ir.specs.View.{code_of, function_of}
use Rattle.hy_ir.proofs.validity.are_valid_functions.Given as goal

abbrev pub invariant-loop-function : goal.invariant-loop-function
invariant-loop-function l =
    functions_checked (code_of l.code) (map function_of (drop l.function-index l.functions))
    ≡ functions_checked (code_of l.code) (map function_of l.functions)
