use Rattle.std.proofs.Common.{◌≡◌, drop}
use Rattle.event_nodes.specs.code.Walked.{walked_functions}
use Rattle.event_nodes.proofs.expressions.walk_functions.Given as goal

abbrev pub invariant-loop-function : goal.invariant-loop-function
invariant-loop-function l =
    walked_functions l.atoms l.walk (drop l.function-index l.functions)
    ≡ walked_functions l.atoms l.fn.walk l.functions
