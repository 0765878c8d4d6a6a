use Rattle.std.proofs.Common.{◌∙◌, ℕ, ap, arith}
use Rattle.atomic_table.specs.Table.{Me}
use Rattle.commons_words.specs.declared.rule.SeatView.{SeatView}
use Rattle.commons_words.proofs.Joins.{note_allowed, tell_allowed, settle_allowed}
use Rattle.commons_words.proofs.Passing.{process_told, sizes_at}
use Rattle.commons_words.proofs.word_link.WordLink.tell_known.Goals as goal

pub split_seat-note-requires : goal.split_seat-note-requires
split_seat-note-requires c =
    let h = c.requires.from_pass in
    let link = c.args.self.now in
    let sized = link.sized in
    let x = c.args.from.now.seat.me.0 in (
      h.table,
      omega arith,
      note_allowed link.table.now.key.area link.table.now.key.log c.args.from.now.seat.id x h.process.role,
    )

pub join_seat-requires : goal.join_seat-requires
join_seat-requires c =
    let h = c.requires.to_pass in
    let link = c.args.self.now in
    let sized = link.sized in
    let e = c.split_seat-note.ensures in
    let x = c.args.to.now.seat.me.0 in (
      h.table,
      e.3 ∙ c.requires.from_pass.table,
      ap (λ (m : Me ℕ SeatView). m.1) e.4,
      omega arith,
      tell_allowed link.table.now.key.area link.table.now.key.log c.args.to.now.seat.id _ x _ h.process.role (ap (λ (m : Me ℕ SeatView). m.0.role) e.4),
    )

pub load-to-requires : goal.load-to-requires
load-to-requires c =
    let h = c.requires.to_pass in
    let link = c.args.self.now in
    let sized = link.sized in
    let e = c.join_seat.ensures in (
      e.0 ∙ h.table,
      omega arith,
      settle_allowed link.table.now.key.area link.table.now.key.log link.table.now.table_id.slots _ _ (process_told link.area link.log link.table.now.key.area link.table.now.key.log c.args.to.now.seat.me _ c.split_seat-note.result.me.0 sized.0 sized.1 h.process e.2) (sizes_at link.area link.log link.table.now.key.area link.table.now.key.log sized.0 sized.1 h.sound.sizes),
    )
