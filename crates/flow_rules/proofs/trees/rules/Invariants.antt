use Rattle.std.proofs.Common.{◌≡◌, ◌++◌, drop, map}
use Rattle.hy_ir.specs.Inclusions.{code_inclusions, functions_inclusions}
use Rattle.hy_ir.specs.View.{function_of}
use Rattle.flow_rules.proofs.trees.rules.Given as goal

abbrev pub invariant-loop-function : goal.invariant-loop-function
invariant-loop-function l =
    l.rules.items
    ++ functions_inclusions l.f (map function_of (drop l.function-index l.code.functions))
    ≡ code_inclusions (map function_of l.code.functions)
