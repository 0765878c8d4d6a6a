use Rattle.std.proofs.Common.{◌+◌, ◌∙◌, ℕ, sym, subst, arith, refl, ap, get_or-set_same}
use Rattle.atomic_table.specs.Table.{Me}
use Rattle.commons.specs.declared.view.View.{View}
use Rattle.commons.specs.Steps.{read}
use Rattle.commons.specs.Views.{KnowsPlace}
use Rattle.commons.specs.Changes.{Reads}
use Rattle.commons_words.specs.declared.rule.SeatView.{SeatView}
use Rattle.commons_words.proofs.Puts.{get_allowed, known_inside}
use Rattle.commons_words.proofs.Passing.{process_at, sound_for, pass_takes}
use Rattle.commons_words.proofs.word_link.WordLink.get_word.Goals as goal

pub overflow_add-index-2 : goal.overflow_add-index-2
overflow_add-index-2 c = let limited = c.args.self.now.limited in let i = known_inside c.args.self.now.area c.args.self.now.log c.args.place c.args.pass.now.seat.me.0.view c.requires.pass.sound c.requires.place in omega arith

pub load-requires : goal.load-requires
load-requires c =
    let h = c.requires.pass in
    let link = c.args.self.now in
    let sized = link.sized in
    let me = c.args.pass.now.seat.me in
    let i = known_inside link.area link.log c.args.place me.0.view h.sound c.requires.place in (
      h.table,
      omega arith,
      get_allowed link.table.now.key.area link.table.now.key.log link.table.now.table_id.slots c.args.pass.now.seat.id c.args.place (1 + link.log + c.args.place) me (omega arith)
          (process_at link.area link.log link.table.now.key.area link.table.now.key.log me.0 sized.0 sized.1 h.process) (sound_for link.area link.log link.table.now.key.area link.table.now.key.log me.0.view sized.0 sized.1 h.sound)
          (subst (λ (a : ℕ). KnowsPlace a me.0.view c.args.place) (sym sized.0) c.requires.place),
    )

pub returns-clause-word : goal.returns-clause-word
returns-clause-word c =
    let h = c.requires.pass in
    let t = c.load.ensures.2 in
    let wide = h.sound.wide in
    let v = c.args.pass.now.seat.me.0.view in
    let i = known_inside c.args.self.now.area c.args.self.now.log c.args.place v h.sound c.requires.place in
    let long = h.process.log_is in
    let u = t.1 c.args.place (omega arith) in
    let P : View → Type 0 = λ w. Reads v c.args.place c.load.result w in
    subst P (sym (ap (λ (m : Me ℕ SeatView). m.0.view) u.0)) ((refl, u.2), get_or-set_same v.seen c.args.place c.load.result 0 (omega arith), t.0)

pub returns-clause-pass : goal.returns-clause-pass
returns-clause-pass c =
    let h = c.requires.pass in
    let t = c.load.ensures in
    let long = h.process.log_is in
    let v = c.args.pass.now.seat.me.0.view in
    let u = t.2.1 c.args.place (omega arith) in
    pass_takes _ _ _ c.args.pass.now _ (read v c.args.place c.load.result) h (t.0 ∙ h.table) u h.known h.start h.stop
