use Rattle.std.proofs.Common.{◌≡◌, drop}
use Rattle.hy_core.specs.Scopes.{with_variables}
use Rattle.captured_variables.proofs.scope.Scope.bind_all.Given as goal

abbrev pub invariant-loop-variable : goal.invariant-loop-variable
invariant-loop-variable l =
    with_variables l.self (drop l.variable-index l.variables)
    ≡ with_variables l.fn.self l.variables
