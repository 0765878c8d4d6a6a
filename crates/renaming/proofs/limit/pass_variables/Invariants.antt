use Rattle.std.proofs.Common.{◌≡◌, take}
use Rattle.renaming.specs.VariableLimit.{above_all}
use Rattle.renaming.proofs.limit.pass_variables.Given as goal

abbrev pub invariant-loop-variable : goal.invariant-loop-variable
invariant-loop-variable l = l.limit ≡ above_all l.fn.limit (take l.variable-index l.variables)
