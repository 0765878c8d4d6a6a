use Rattle.std.proofs.Common.{◌≡◌, ◌∙◌, ℕ, sym, subst, refl, [], length}
use Rattle.atomic_table.specs.Table.{Me}
use Rattle.commons.specs.Views.{IsSound}
use Rattle.commons_words.specs.declared.rule.SeatView.{SeatView}
use Rattle.commons_words.specs.declared.rule.Role.TheVariants.{Process}
use Rattle.commons_words.proofs.Opening.{table_opens, sound_first}
use Rattle.commons_words.proofs.word_commons.WordCommons.new.Goals as goal

pub of_words-requires : goal.of_words-requires
of_words-requires c = table_opens c.args.area c.args.log c.as_slice.result.now (let a = c.as_slice.ensures.value in let b = c.in_ok-words.ensures.items_if_clones_equal (λ y e. e) in a ∙ b)

pub returns-clause-pass : goal.returns-clause-pass
returns-clause-pass c =
    let e = c.in-Ok.ensures in
    let a : ℕ = c.args.area in
    let l : ℕ = c.args.log in
    let s = sound_first a l c.requires.area c.requires.log in
    let P : Me ℕ SeatView → Type 0 = λ m. (m.1 ≡ []) × (m.0.role ≡ Process) × (m.0.area_size ≡ a) × (m.0.log_size ≡ l) × (m.0.joined ≡ []) × (0 ≡ length m.0.view.known) × (0 ≡ m.0.view.block_start) × (0 ≡ m.0.view.block_end) × IsSound a l m.0.view in
    let q : P c.in-Ok.seat.me = subst P (sym e.4) (refl, refl, refl, refl, refl, refl, refl, refl, s) in
    record { table = e.2; no_slot = q.0; process = record { role = q.1; area_is = q.2; log_is = q.3 }; alone = q.4; known = q.5; start = q.6; stop = q.7; sound = q.8 }
