use Rattle.std.proofs.Common.{◌≡◌, ◌++◌, drop, map}
use Rattle.hy_core.specs.Canonical.{variable_text, variables_text, after_commas}
use Rattle.core_print.proofs.names.push_variables.Given as goal

abbrev pub invariant-loop-variable : goal.invariant-loop-variable
invariant-loop-variable l =
    l.out.items ++ after_commas (map (variable_text l.names) (drop l.variable-index l.rest)) ≡ l.fn.out.items ++ variables_text l.names l.fn.variables
