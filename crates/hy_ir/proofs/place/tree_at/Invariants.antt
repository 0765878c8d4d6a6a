use Rattle.std.proofs.Common.{◌≡◌, Some, drop}
use Rattle.hy_ir.specs.Places.{tree_of_place, tree_on}
use Rattle.hy_ir.specs.View.{code_of, tree_of}
use Rattle.hy_ir.proofs.place.tree_at.Given as goal

abbrev pub invariant-loop-turn : goal.invariant-loop-turn
invariant-loop-turn l =
    tree_on (Some (tree_of l.tree)) (drop l.turn-index l.way)
    ≡ tree_of_place (code_of l.code) l.function l.way
