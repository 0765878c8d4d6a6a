use Rattle.std.proofs.Common.{◌≡◌, ◌+◌, ◌++◌, drop, length}
use Rattle.letrec_names.specs.Origins.{functions_origins}
use Rattle.letrec_names.proofs.origins.give_origins.Given as goal

abbrev pub invariant-loop-function : goal.invariant-loop-function
invariant-loop-function l =
    (l.origins.items ++ functions_origins l.number (drop l.function-index l.functions)
    ≡ l.fn.origins.items ++ functions_origins l.fn.number l.functions)
    × (l.number + length (drop l.function-index l.functions) ≡ l.fn.number + length l.functions)
