use Rattle.std.proofs.Common.{◌∙◌, refl, arith}
use Rattle.commons.specs.Steps.{bore, born_of}
use Rattle.commons_words.specs.Held.{or_zero}
use Rattle.commons_words.proofs.Births.{birth_allowed}
use Rattle.commons_words.proofs.Passing.{some_is, same_seat, pass_with, sound_bore, sound_born}
use Rattle.commons_words.proofs.word_link.WordLink.birth_child.Goals as goal

pub split_seat-seat-requires : goal.split_seat-seat-requires
split_seat-seat-requires c =
    let h = c.requires.pass in
    let link = c.args.self.now in
    let sized = link.sized in
    let x = c.args.pass.now.seat.me.0 in (
      h.table,
      omega arith,
      birth_allowed link.table.now.key.area link.table.now.key.log c.args.pass.now.seat.id (or_zero x.view.unborn) x h.process.role (some_is x.view.unborn c.requires.names),
    )

pub returns-clause-pass : goal.returns-clause-pass
returns-clause-pass c =
    let h = c.requires.pass in
    let e = c.split_seat-seat.ensures in
    let x = c.args.pass.now.seat.me.0 in
    let v = x.view in
    let w = bore v (or_zero v.unborn) in
    pass_with _ _ _ c.args.pass.now _ w h (e.0 ∙ h.table) (e.2 ∙ same_seat x w c.args.pass.now.seat.me.1 h.alone h.no_slot) h.known h.start h.stop (sound_bore c.args.self.now.area c.args.self.now.log v h.sound)

pub returns-clause-child : goal.returns-clause-child
returns-clause-child c =
    let h = c.requires.pass in
    let e = c.split_seat-seat.ensures in
    let v = c.args.pass.now.seat.me.0.view in
    pass_with _ _ _ c.args.pass.now _ (born_of v (or_zero v.unborn)) h (e.3 ∙ h.table) e.4 h.known refl refl (sound_born c.args.self.now.area c.args.self.now.log v (some_is v.unborn c.requires.names) h.sound)
