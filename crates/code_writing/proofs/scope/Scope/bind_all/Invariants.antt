use Rattle.std.proofs.Common.{◌≡◌, drop}
use Rattle.lowered_code.specs.LoweredGuards.{bound_to}
use Rattle.code_writing.proofs.scope.Scope.bind_all.Given as goal

abbrev pub invariant-loop-variable : goal.invariant-loop-variable
invariant-loop-variable l = (l.place ≡ l.variable-index) × (bound_to (drop l.variable-index l.variables) (drop l.place l.registers) l.self ≡ bound_to l.variables l.registers l.fn.self)
