use Rattle.std.proofs.Common.{◌+◌, ℕ, sym, subst, arith, refl, ap, get_or-set_same}
use Rattle.atomic_table.specs.Table.{Me}
use Rattle.commons.specs.declared.view.View.{View}
use Rattle.commons_words.specs.declared.rule.SeatView.{SeatView}
use Rattle.commons.specs.Views.{MayPut}
use Rattle.commons.specs.Changes.{Puts}
use Rattle.commons_words.proofs.Puts.{put_allowed}
use Rattle.commons_words.proofs.Passing.{process_at, sound_for}
use Rattle.commons_words.proofs.word_link.WordLink.put_word.Goals as goal

pub store-requires : goal.store-requires
store-requires c =
    let h = c.requires.pass in
    let link = c.args.self.now in
    let sized = link.sized in
    let room = c.requires.room in
    let block = h.sound.inside in
    let start = h.start in
    let me = c.args.pass.now.seat.me in (
      h.table,
      omega arith,
      put_allowed link.table.now.key.area link.table.now.key.log link.table.now.table_id.slots c.args.pass.now.seat.id c.args.word (1 + link.log + c.args.pass.now.block_start) me (omega arith)
          (process_at link.area link.log link.table.now.key.area link.table.now.key.log me.0 sized.0 sized.1 h.process) (sound_for link.area link.log link.table.now.key.area link.table.now.key.log me.0.view sized.0 sized.1 h.sound) c.requires.room
          (subst (λ (a : ℕ). MayPut a me.0.view c.args.word) (sym sized.0) c.requires.word),
    )

pub returns-clause-put : goal.returns-clause-put
returns-clause-put c =
    let h = c.requires.pass in
    let t = c.store.ensures.2 in
    let room = c.requires.room in
    let block = h.sound.inside in
    let wide = h.sound.wide in
    let v = c.args.pass.now.seat.me.0.view in
    let P : View → Type 0 = λ w. Puts v c.args.word w in
    subst P (sym (ap (λ (m : Me ℕ SeatView). m.0.view) t.0)) ((refl, t.2), get_or-set_same v.seen v.block_start c.args.word 0 (omega arith))
