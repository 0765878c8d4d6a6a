use Rattle.std.proofs.Common.{◌≡◌, map, take}
use Rattle.hy_core.specs.Syntax.{Var, syntax_of}
use Rattle.lifted_functions.proofs.calls.variable_args.Given as goal

abbrev pub invariant-loop-variable : goal.invariant-loop-variable
invariant-loop-variable l = map syntax_of l.args ≡ map Var (take l.variable-index l.variables)
