use Rattle.std.proofs.Common.{◌≡◌, ◌++◌, drop, reverse}
use Rattle.lifting.specs.Assembled.{assembled}
use Rattle.lifting.proofs.assembly.assembled_functions.Given as goal

abbrev pub invariant-loop-origin : goal.invariant-loop-origin
invariant-loop-origin l =
    l.functions ++ assembled (drop l.origin-index l.origins) (reverse l.texts_left) (reverse l.nodes_left)
    ≡ assembled l.origins l.fn.texts l.fn.nodes.items
