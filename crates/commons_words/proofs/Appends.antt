-- A try of an append keeps the rule of the table.
use Rattle.std.proofs.Common.{◌≡◌, ◌≢◌, ℕ, ◌+◌, ◌<◌, List, [], ◌∷◌, ◌++◌, length, set, append-nil, lt_of_not-le, sym, refl, ap, ◌∙◌, subst, arith, Bool, ne_eqb, eq-eqb}
use Rattle.std.specs.Prelude.{slice_index, ◌==◌, if◌then◌else◌, Option, Some, None}
use mathlib.Core.Option.{none}
use mathlib.Core.Logic.{dite}
use native.Mathlib.Decide.{dec_le, ℕ_discrete}
use Rattle.atomic_table.specs.Table.{step, keeps, Allows}
use prog.Atomic.{either}
use Rattle.std.proofs.lemmas.List.{set-get_or}
use Rattle.hy_words.specs.Lists.{Grown}
use Rattle.hy_words.specs.Words.{tag_of, payload_of}
use Rattle.commons.specs.declared.view.View.{View}
use Rattle.commons.specs.Area.{IsEntryCell}
use Rattle.commons.specs.Log.{header_at}
use Rattle.commons.specs.Views.{MayAppend, IsSound}
use Rattle.commons.specs.Rule.{IsKept}
use Rattle.commons.specs.Steps.{learnt, appended}
use Rattle.commons.specs.Changes.{child_at}
use Rattle.commons.proofs.Cells.{header_not_zero, actor_grows, header_grows, text_grows}
use Rattle.commons.proofs.Grows.{known_length}
use Rattle.commons.proofs.Steps.{none_some, fits_at, learns_kept, appends_kept}
use Rattle.commons_words.specs.Held.{padded, IsHeld, Seated, append_tells, won, or_zero}
use Rattle.commons_words.specs.Passes.{IsProcess}
use Rattle.commons_words.proofs.Moves.{moves, seated, takes_view}
use Rattle.commons_words.proofs.Places.{set_next, log_at, log_end}
use Rattle.hy_words.specs.Words.{IsEntryHeader}
use Rattle.commons.proofs.Cells.{whole_grows}

entry_not_zero : (w : ℕ) → tag_of w ≡ 6 → w ≢ 0
entry_not_zero w h e = omega arith

-- only a spawn entry names a child, one above its place
child_place : (header place q : ℕ) → child_at header place ≡ Some q → (q ≡ place + 1) × (tag_of header ≡ 10)
child_place header place q e = dite (ℕ_discrete (tag_of header) 10)
    (λ spawn. (sym (ap or_zero (sym (ap (λ (b : Bool). if b then Some (place + 1) else None) (eq-eqb (tag_of header) 10 spawn)) ∙ e)), spawn))
    (λ other. absurd (none_some q (sym (ap (λ (b : Bool). if b then Some (place + 1) else None) (ne_eqb (tag_of header) 10 other)) ∙ e)))

-- an entry that the pass may append is whole in the area, and has the pid and the text
entry_grows : (seen area : List ℕ) (cell : ℕ) → Grown seen area → IsEntryCell seen cell → IsEntryCell area cell
entry_grows seen area cell g e = (whole_grows seen area cell g e.0, subst IsEntryHeader (sym (g cell (header_not_zero (slice_index seen cell) e.0.header))) e.1)

pub append_allowed : (a l slots id i entry : ℕ) (me : Seated) → i ≡ 1 + length me.0.view.known → IsProcess a l me.0 → IsSound a l me.0.view → length me.0.view.known < l → me.0.view.unborn ≡ None → MayAppend a me.0.view entry
    → Allows (IsHeld a l) slots id me i (λ n. either (n == 0) entry n) (append_tells (step slots i 0 entry none) me)
append_allowed a l slots id i entry me e p o room none_born may = subst (λ (j : ℕ). Allows (IsHeld a l) slots id me j (λ n. either (n == 0) entry n) (append_tells (step slots j 0 entry none) me)) (sym e)
    (λ s h homes at fine.
    let v : View = me.0.view in
    let j : ℕ = 1 + length v.known in
    let sits = seated a l s h id me.0 at p.role in
    let k : ℕ = sits.0.0 in
    let mine = h.kept.each k v sits.0.1 in
    let low = known_length h.log v.known mine.knows.begins in
    dite (dec_le (length h.log) (length v.known))
    (λ whole.
    let same : length v.known ≡ length h.log = omega arith in
    let w : View = won v entry in
    let child : Option ℕ = child_at (header_at v.seen entry) (length v.known) in
    let ww : appended v (length h.log) entry child ≡ w = ap (λ (q : ℕ). appended v q entry child) (sym same) in
    let log' : List ℕ = h.log ++ entry ∷ [] in
    let g = mine.knows.agrees in
    let fit = fits_at a l h.claim k h.log h.area h.views v h.kept sits.0.1 in
    let header : header_at h.area entry ≡ header_at v.seen entry = header_grows v.seen h.area entry g may.whole in
    let kept' = appends_kept a l h.claim k h.log h.area h.views v entry child h.kept sits.0.1 same (omega arith) may.names_cell
    (entry_grows v.seen h.area (payload_of entry) g may.whole) (actor_grows v.seen h.area entry g may.whole ∙ may.actor)
    (λ print. text_grows v.seen h.area entry g may.whole ∙ may.text (ap tag_of (sym header) ∙ print) h.area fit) none_born
    (λ q is. let t = child_place (header_at v.seen entry) (length v.known) q is in (t.0 ∙ ap (λ (x : ℕ). x + 1) same, ap tag_of header ∙ t.1)) in
    let kept = subst (λ (u : View). IsKept a l h.claim log' h.area (set h.views k u)) ww kept' in
    let found : slice_index s.words j ≡ 0 = ap (λ (ws : List ℕ). slice_index ws j) h.words ∙ (ap (λ (q : ℕ). slice_index (h.claim ∷ (padded l h.log ++ h.area)) (1 + q)) same ∙ log_end l h.claim h.log h.area (omega arith)) in
    let new : either (slice_index s.words j == 0) entry (slice_index s.words j) ≡ entry = ap (λ (q : ℕ). either (q == 0) entry q) found in
    let words : set s.words j (either (slice_index s.words j == 0) entry (slice_index s.words j)) ≡ h.claim ∷ (padded l log' ++ h.area) =
    ap (λ (q : ℕ). set s.words j q) new ∙ (ap (λ (ws : List ℕ). set ws j entry) h.words ∙ (ap (λ (q : ℕ). set (h.claim ∷ (padded l h.log ++ h.area)) (1 + q) entry) same ∙ set_next l h.claim entry h.log h.area (omega arith))) in (
      record me.0 { view = w },
      keeps,
      tt,
      moves a l s h id k j (either (slice_index s.words j == 0) entry (slice_index s.words j)) h.claim log' h.area me.1 me.0 w at p.role sits.0.1 sits.1 refl (entry ∷ [], refl) words kept,
      ((λ some_word. absurd (some_word found)), (λ _. takes_view a l h.claim k log' h.area h.views me w p o.sizes kept sits.0.1 o.settled (λ place n. refl))),
    ))
    (λ part.
    let more = lt_of_not-le part in
    let word : ℕ = slice_index h.log (length v.known) in
    let kept = learns_kept a l h.claim k h.log h.area h.views v h.kept sits.0.1 more in
    let found : slice_index s.words j ≡ word = ap (λ (ws : List ℕ). slice_index ws j) h.words ∙ log_at l h.claim (length v.known) h.log h.area more in
    let n = entry_not_zero word (h.kept.entries.entries (length v.known) more).0 in
    let w : View = learnt v word in
    let new : either (slice_index s.words j == 0) entry (slice_index s.words j) ≡ slice_index s.words j = ap (λ (b : Bool). either b entry (slice_index s.words j)) (ne_eqb (slice_index s.words j) 0 (λ z. n (sym found ∙ z))) in
    let words : set s.words j (either (slice_index s.words j == 0) entry (slice_index s.words j)) ≡ h.claim ∷ (padded l h.log ++ h.area) = ap (λ (q : ℕ). set s.words j q) new ∙ (set-get_or s.words j 0 ∙ h.words) in (
      record me.0 { view = w },
      keeps,
      tt,
      moves a l s h id k j (either (slice_index s.words j == 0) entry (slice_index s.words j)) h.claim h.log h.area me.1 me.0 w at p.role sits.0.1 sits.1 refl ([], sym (append-nil h.log)) words kept,
      subst (λ (z : ℕ). append_tells (step slots j 0 entry none) me z (record me.0 { view = w }, me.1)) (sym found)
          ((λ _. takes_view a l h.claim k h.log h.area h.views me w p o.sizes kept sits.0.1 o.settled (λ place q. refl)), (λ none_there. absurd (n none_there))),
    )))
