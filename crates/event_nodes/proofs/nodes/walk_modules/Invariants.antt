use Rattle.std.proofs.Common.{◌≡◌, drop}
use Rattle.event_nodes.specs.code.Walked.{walked_modules}
use Rattle.event_nodes.proofs.nodes.walk_modules.Given as goal

abbrev pub invariant-loop-names : goal.invariant-loop-names
invariant-loop-names l =
    walked_modules l.atoms l.walk (drop l.names-index l.modules)
    ≡ walked_modules l.atoms l.fn.walk l.modules
