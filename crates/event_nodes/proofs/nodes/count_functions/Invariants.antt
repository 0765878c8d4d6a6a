use Rattle.std.proofs.Common.{◌≡◌, ◌+◌, drop}
use Rattle.hy_core.specs.Numbered.{function_count}
use Rattle.event_nodes.proofs.nodes.count_functions.Given as goal

abbrev pub invariant-loop-names : goal.invariant-loop-names
invariant-loop-names l =
    l.count + function_count (drop l.names-index l.modules) ≡ function_count l.modules
