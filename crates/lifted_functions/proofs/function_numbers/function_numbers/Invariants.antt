use Rattle.std.proofs.Common.{◌≡◌, ℕ, drop}
use Rattle.hy_core.specs.declared.tree.FunName.{FunName}
use Rattle.lifted_functions.specs.code.FunctionNumbers.{first_of, number_at, number_from}
use Rattle.lifted_functions.proofs.function_numbers.function_numbers.Given as goal

abbrev pub invariant-loop-function : goal.invariant-loop-function
invariant-loop-function l =
    ((m : ℕ) (f : FunName)
    → first_of (number_at l.numbers m f)
    (number_from l.function-index (drop l.function-index l.functions) m f)
    ≡ number_from 0 l.functions m f)
    × (l.number ≡ l.function-index)
