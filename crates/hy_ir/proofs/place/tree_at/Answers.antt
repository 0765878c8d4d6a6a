use Rattle.std.proofs.Common.{List, Option, Some, IsSome, ap, sym, subst, ◌+◌, ◌∙◌, drop}
use Rattle.std.proofs.Common.{slice_index_or}
use Rattle.std.proofs.lemmas.List.{drop_more}
use Rattle.std.specs.Option.{option_map}
use Rattle.std.specs.Prelude.{slice_get}
use Rattle.hy_ir.specs.Code as ghost_code
use Rattle.hy_ir.specs.Places.{tree_behind, tree_on}
use Rattle.hy_ir.specs.View.{tree_of}
use Rattle.hy_ir.specs.declared.code.CodeFunction.{CodeFunction}
use Rattle.hy_ir.specs.declared.place.Turn.{Turn}
use Rattle.hy_ir.specs.declared.place.Turn.TheVariants.{Part}
use Rattle.hy_ir.proofs.PlaceLemmas.{body_get, no_place}
use Rattle.hy_ir.proofs.place.tree_at.Goals as goal

pub unreachable-requires : goal.unreachable-requires
unreachable-requires c =
    let fs = c.args.code.now.functions in
    no_place c.args.way.now _ c.requires
    (body_get fs c.args.function
    ∙ ap (option_map (λ (f : CodeFunction). tree_of f.body))
    (ap (λ (xs : List CodeFunction). slice_get xs c.args.function) (sym c.as_slice.ensures)
    ∙ sym c.in-None.ensures))

pub loop-turn-init : goal.loop-turn-init
loop-turn-init c =
    let fs = c.args.code.now.functions in
    ap (λ (t : Option ghost_code.Tree). tree_on t c.args.way.now)
    (sym
    (body_get fs c.args.function
    ∙ ap (option_map (λ (f : CodeFunction). tree_of f.body))
    (ap (λ (xs : List CodeFunction). slice_get xs c.args.function) (sym c.as_slice.ensures)
    ∙ sym c.in-Some.ensures)))

pub unreachable-requires-in-None-tree_behind_turn :
    goal.unreachable-requires-in-None-tree_behind_turn
unreachable-requires-in-None-tree_behind_turn c =
    let way = c.args.way.now in
    let here = tree_of c.loop-turn.tree.now in
    no_place (drop (c.loop-turn.turn-index + 1) way)
    (tree_behind here (slice_index_or way c.loop-turn.turn-index (Part 0)))
    (subst IsSome
    (sym c.loop-turn.invariant
    ∙ ap (λ (ws : List Turn). tree_on (Some here) ws)
    (drop_more way c.loop-turn.turn-index (Part 0) c.loop-turn-test.true))
    c.requires)
    (sym c.in-None-tree_behind_turn.ensures)
