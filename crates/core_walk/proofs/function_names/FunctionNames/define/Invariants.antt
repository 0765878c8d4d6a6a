use Rattle.std.proofs.Common.{◌≡◌, ◌++◌, drop}
use Rattle.hy_core.specs.Nodes.{names_of}
use Rattle.core_walk.proofs.function_names.FunctionNames.define.Given as goal

abbrev pub invariant-loop-function : goal.invariant-loop-function
invariant-loop-function l = l.self ++ names_of (drop l.function-index l.functions) ≡ l.fn.self ++ names_of l.functions
