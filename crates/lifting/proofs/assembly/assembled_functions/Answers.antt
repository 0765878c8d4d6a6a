use Rattle.std.proofs.Common.{drop}
use Rattle.lifting.proofs.Assembling.{no_text_left, no_nodes_left}
use Rattle.lifting.proofs.assembly.assembled_functions.Goals as goal

pub returns-in_default : goal.returns-in_default
returns-in_default c =
    let l = c.loop-origin in
    no_text_left (drop l.origin-index c.args.origins.now) l.texts_left l.nodes_left l.functions _
    c.in_default.ensures.0 l.invariant

pub returns-in_default-pop : goal.returns-in_default-pop
returns-in_default-pop c =
    let l = c.loop-origin in
    no_nodes_left (drop l.origin-index c.args.origins.now) l.texts_left l.nodes_left l.functions _
    c.in_default-pop.ensures.0 l.invariant
