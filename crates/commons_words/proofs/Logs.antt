-- A look, and a load of a known log word, keep the rule of the table.
use Rattle.std.proofs.Common.{◌≡◌, ◌≢◌, ℕ, ◌+◌, ◌<◌, List, ◌∷◌, ◌++◌, length, set, lt_of_not-le, sym, refl, ap, ◌∙◌, subst, arith}
use Rattle.std.specs.Prelude.{slice_index}
use mathlib.Core.Option.{none}
use mathlib.Core.Logic.{dite}
use native.Mathlib.Decide.{dec_le}
use Rattle.atomic_table.specs.Table.{step, keeps, Allows}
use Rattle.hy_words.specs.Words.{tag_of}
use Rattle.commons.specs.declared.view.View.{View}
use Rattle.commons.specs.Views.{IsSound}
use Rattle.commons.specs.Rule.{IsKept}
use Rattle.commons.specs.Steps.{learnt, looked}
use Rattle.commons.proofs.Rows.{set_again}
use Rattle.commons.proofs.Grows.{known_in_log, known_length}
use Rattle.commons.proofs.Steps.{learns_kept, looks_kept}
use Rattle.commons_words.specs.Held.{padded, IsHeld, Seated, look_tells, full_tells, entry_tells}
use Rattle.commons_words.specs.Passes.{IsProcess}
use Rattle.commons_words.proofs.Moves.{seated, stays, takes_view}
use Rattle.commons_words.proofs.Places.{log_at, log_end}

entry_not_zero : (w : ℕ) → tag_of w ≡ 6 → w ≢ 0
entry_not_zero w h e = omega arith

pub look_allowed : (a l slots id i : ℕ) (me : Seated) → i ≡ 1 + length me.0.view.known → IsProcess a l me.0 → IsSound a l me.0.view → length me.0.view.known < l → Allows (IsHeld a l) slots id me i (λ n. n) (look_tells (step slots i 0 0 none) me)
look_allowed a l slots id i me e p o room = subst (λ (j : ℕ). Allows (IsHeld a l) slots id me j (λ n. n) (look_tells (step slots j 0 0 none) me)) (sym e)
    (λ s h homes at fine.
    let v : View = me.0.view in
    let j : ℕ = 1 + length v.known in
    let sits = seated a l s h id me.0 at p.role in
    let k : ℕ = sits.0.0 in
    let mine = h.kept.each k v sits.0.1 in
    let low = known_length h.log v.known mine.knows.begins in
    dite (dec_le (length h.log) (length v.known))
    (λ whole.
    let same : length v.known ≡ length h.log = omega arith in
    let w : View = looked v (v.looks + 1) in
    let kept = looks_kept a l h.claim k h.log h.area h.views v h.kept sits.0.1 (v.looks + 1) in
    let found : slice_index s.words j ≡ 0 = ap (λ (ws : List ℕ). slice_index ws j) h.words ∙ (ap (λ (q : ℕ). slice_index (h.claim ∷ (padded l h.log ++ h.area)) (1 + q)) same ∙ log_end l h.claim h.log h.area (omega arith)) in (
      record me.0 { view = w },
      keeps,
      tt,
      stays a l j id me s h k w at p.role sits.0.1 sits.1 refl kept,
      ((λ some_word. absurd (some_word found)), (λ _. takes_view a l h.claim k h.log h.area h.views me w p o.sizes kept sits.0.1 o.settled (λ place n. refl))),
    ))
    (λ part.
    let more = lt_of_not-le part in
    let word : ℕ = slice_index h.log (length v.known) in
    let w : View = learnt v word in
    let kept = learns_kept a l h.claim k h.log h.area h.views v h.kept sits.0.1 more in
    let found : slice_index s.words j ≡ word = ap (λ (ws : List ℕ). slice_index ws j) h.words ∙ log_at l h.claim (length v.known) h.log h.area more in
    let n = entry_not_zero word (h.kept.entries.entries (length v.known) more).0 in (
      record me.0 { view = w },
      keeps,
      tt,
      stays a l j id me s h k w at p.role sits.0.1 sits.1 refl kept,
      subst (λ (z : ℕ). look_tells (step slots j 0 0 none) me z (record me.0 { view = w }, me.1)) (sym found)
          ((λ _. takes_view a l h.claim k h.log h.area h.views me w p o.sizes kept sits.0.1 o.settled (λ place q. refl)), (λ none_there. absurd (n none_there))),
    )))

pub full_allowed : (a l slots id : ℕ) (me : Seated) → IsProcess a l me.0 → IsSound a l me.0.view → Allows (IsHeld a l) slots id me 0 (λ n. n) (full_tells (step slots 0 0 0 none) me)
full_allowed a l slots id me p o s h homes at fine =
    let v : View = me.0.view in
    let sits = seated a l s h id me.0 at p.role in
    let k : ℕ = sits.0.0 in
    let w : View = looked v (v.looks + 1) in
    let kept = looks_kept a l h.claim k h.log h.area h.views v h.kept sits.0.1 (v.looks + 1) in
    (record me.0 { view = w }, keeps, tt, stays a l 0 id me s h k w at p.role sits.0.1 sits.1 refl kept, λ whole. takes_view a l h.claim k h.log h.area h.views me w p o.sizes kept sits.0.1 o.settled (λ place n. refl))

-- a known log word is loaded
pub entry_allowed : (a l slots id place i : ℕ) (me : Seated) → i ≡ 1 + place → IsProcess a l me.0 → place < length me.0.view.known → Allows (IsHeld a l) slots id me i (λ n. n) (entry_tells (step slots i 0 0 none) me)
entry_allowed a l slots id place i me e p inside s h homes at fine =
    let v : View = me.0.view in
    let sits = seated a l s h id me.0 at p.role in
    let k : ℕ = sits.0.0 in
    let mine = h.kept.each k v sits.0.1 in
    let low = known_length h.log v.known mine.knows.begins in
    let word : slice_index s.words i ≡ slice_index v.known place =
    ap (λ (q : ℕ). slice_index s.words q) e ∙ (ap (λ (ws : List ℕ). slice_index ws (1 + place)) h.words ∙ (log_at l h.claim place h.log h.area (omega arith) ∙ known_in_log h.log v.known place mine.knows.begins inside)) in
    let same : set h.views k v ≡ h.views = set_again h.views k v sits.0.1 in
    let kept : IsKept a l h.claim h.log h.area (set h.views k v) = subst (λ (vs : List View). IsKept a l h.claim h.log h.area vs) (sym same) h.kept in (
      me.0,
      keeps,
      tt,
      stays a l i id me s h k v at p.role sits.0.1 sits.1 refl kept,
      (refl, λ q f. word ∙ ap (λ (z : ℕ). slice_index v.known z) (let z : place ≡ q = omega arith in z)),
    )
