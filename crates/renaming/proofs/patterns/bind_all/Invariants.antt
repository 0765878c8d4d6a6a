use Rattle.std.proofs.Common.{◌≡◌, take}
use Rattle.hy_core.specs.Scopes.{with_variables}
use Rattle.lifted_program.specs.Renaming.{names_for}
use Rattle.renaming.proofs.patterns.bind_all.Given as goal

abbrev pub invariant-loop-variable : goal.invariant-loop-variable
invariant-loop-variable l =
    (l.names ≡ names_for l.limit l.fn.scope (take l.variable-index l.variable-items))
    × (l.scope ≡ with_variables l.fn.scope (take l.variable-index l.variable-items))
