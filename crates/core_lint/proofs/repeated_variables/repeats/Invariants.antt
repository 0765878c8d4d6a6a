use Rattle.std.proofs.Common.{◌≡◌, drop}
use Rattle.core_lint.specs.code.RepeatedVariables.{repeats, repeats_after}
use Rattle.core_lint.proofs.repeated_variables.repeats.Given as goal

abbrev pub invariant-loop-variable : goal.invariant-loop-variable
invariant-loop-variable l = repeats_after l.seen.keys (drop l.variable-index l.variables) ≡ repeats l.variables
