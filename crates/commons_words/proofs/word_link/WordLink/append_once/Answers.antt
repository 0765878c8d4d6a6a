use Rattle.std.proofs.Common.{◌≡◌, ◌+◌, ◌∙◌, ℕ, sym, subst, arith, ap, Bool, [], ◌∷◌, length-append, eq-eqb, ne_eqb}
use Rattle.std.specs.Prelude.{MatchBool}
use native.Mathlib.Decide.{ℕ_discrete}
use mathlib.Core.Logic.{dite}
use Rattle.atomic_table.specs.Table.{Me}
use Rattle.commons.specs.declared.view.View.{View}
use Rattle.commons.specs.Views.{MayAppend}
use Rattle.commons.specs.Steps.{learnt}
use Rattle.commons_words.specs.declared.rule.SeatView.{SeatView}
use Rattle.commons_words.specs.Held.{won}
use Rattle.commons_words.proofs.Appends.{append_allowed}
use Rattle.commons_words.proofs.Passing.{process_at, sound_for, pass_takes}
use Rattle.commons_words.proofs.word_link.WordLink.append_once.Goals as goal

pub compare_exchange-found-requires : goal.compare_exchange-found-requires
compare_exchange-found-requires c =
    let h = c.requires.pass in
    let link = c.args.self.now in
    let sized = link.sized in
    let known = h.known in
    let room = c.requires.room in
    let me = c.args.pass.now.seat.me in (
      h.table,
      omega arith,
      append_allowed link.table.now.key.area link.table.now.key.log link.table.now.table_id.slots c.args.pass.now.seat.id (1 + c.args.pass.now.known) c.args.entry me (omega arith)
          (process_at link.area link.log link.table.now.key.area link.table.now.key.log me.0 sized.0 sized.1 h.process) (sound_for link.area link.log link.table.now.key.area link.table.now.key.log me.0.view sized.0 sized.1 h.sound) (omega arith) c.requires.born
          (subst (λ (a : ℕ). MayAppend a me.0.view c.args.entry) (sym sized.0) c.requires.entry),
    )

pub returns-clause-pass : goal.returns-clause-pass
returns-clause-pass c =
    let h = c.requires.pass in
    let e = c.compare_exchange-found.ensures in
    let v : View = c.args.pass.now.seat.me.0.view in
    let found : ℕ = c.compare_exchange-found.result in
    let known = h.known in
    dite (ℕ_discrete found 0)
    (λ z. pass_takes _ _ _ c.args.pass.now _ (won v c.args.entry) h (e.0 ∙ h.table) (e.2.1 z) (omega (arith, length-append v.known (c.args.entry ∷ []))) h.start h.stop)
    (λ n. pass_takes _ _ _ c.args.pass.now _ (learnt v found) h (e.0 ∙ h.table) (e.2.0 n) (omega (arith, length-append v.known (found ∷ []))) h.start h.stop)

pub returns-clause-view : goal.returns-clause-view
returns-clause-view c =
    let e = c.compare_exchange-found.ensures in
    let v : View = c.args.pass.now.seat.me.0.view in
    let w : View = c.compare_exchange-found.new.seat.me.0.view in
    let found : ℕ = c.compare_exchange-found.result in
    let P : Bool → Type 0 = λ b. MatchBool b (w ≡ won v c.args.entry) ((x : ℕ) × (w ≡ learnt v x)) in
    dite (ℕ_discrete found 0)
    (λ z. subst P (sym (eq-eqb found 0 z)) (ap (λ (m : Me ℕ SeatView). m.0.view) (e.2.1 z).0))
    (λ n. subst P (sym (ne_eqb found 0 n)) (found, ap (λ (m : Me ℕ SeatView). m.0.view) (e.2.0 n).0))
