use Rattle.std.proofs.Common.{sym, subst, arith}
use Rattle.commons.specs.declared.view.View.{View}
use Rattle.commons.specs.Views.{KnowsCell}
use Rattle.commons.proofs.Readings.{shared_cell, may_read, known_still}
use Rattle.commons.proofs.tests.read_part.Goals as goal

pub get-requires-clause-place : goal.get-requires-clause-place
get-requires-clause-place g c =
    let v : View = g.C.Commons.view c.args.c.now c.args.pass.now in
    let w : View = g.C.Commons.view c.get-header.new.self c.get-header.new.pass in
    let kind = c.tag.ensures in
    let area = c.if-tag-ne-AREA.false in
    let at = c.payload-cell.ensures in
    let some = c.if-following-eq0.false in
    let count = c.following.ensures in
    let known : KnowsCell v c.payload-cell.result = subst (KnowsCell v) (sym at) (shared_cell (g.C.Commons.area_size c.args.c.now) v c.args.message c.requires.message (omega arith)).0 in
    may_read (g.C.Commons.area_size c.get-header.new.self) w c.payload-cell.result 1 c.get-header.result (known_still v w c.payload-cell.result c.get-header.ensures.word.0 known) c.get-header.ensures.word.1 c.get-header.ensures.word.2 (omega arith)

pub returns-clause-later : goal.returns-clause-later
returns-clause-later g c = g.met.C.Commons.later_later _ _ _ c.get-header.ensures.later c.get.ensures.later
