-- A claim keeps the rule of the table.
use Rattle.std.proofs.Common.{◌≡◌, ℕ, ◌+◌, ◌^◌, ◌%◌, ◌<◌, ◌≤◌, List, [], ◌∷◌, ◌++◌, set, append-nil, mod-eq_of_lt, lt_of_not-le, sym, refl, ap, ◌∙◌, subst, arith}
use Rattle.std.specs.Prelude.{slice_index, None}
use mathlib.Core.Option.{none}
use mathlib.Core.Logic.{dite}
use native.Mathlib.Decide.{dec_le}
use Rattle.atomic_table.specs.Table.{step, keeps, Allows}
use Rattle.commons.specs.declared.view.View.{View}
use Rattle.commons.specs.Views.{IsSound}
use Rattle.commons.specs.Steps.{claimed, refused_claim}
use Rattle.commons.proofs.Counts.{claims_low}
use Rattle.commons.proofs.Steps.{claims_kept, refusals_kept}
use Rattle.commons_words.specs.declared.rule.SeatView.{SeatView}
use Rattle.commons_words.specs.Held.{padded, IsHeld, Seated, claim_tells}
use Rattle.commons_words.specs.Passes.{IsProcess}
use Rattle.commons_words.proofs.Moves.{moves, seated, takes_view}

-- the sum doesn't wrap
small_mod : (x : ℕ) → x < 2 ^ 64 → x % 2 ^ 64 ≡ x
small_mod x h = mod-eq_of_lt h

pub claim_allowed : (a l slots id n : ℕ) (me : Seated) → IsProcess a l me.0 → IsSound a l me.0.view → me.0.view.refused ≡ None → n ≤ a + 1 → Allows (IsHeld a l) slots id me 0 (λ x. (x + n) % 2 ^ 64) (claim_tells (step slots 0 n 0 none) me)
claim_allowed a l slots id n me p o first most s h homes at word =
    let x : SeatView = me.0 in
    let v : View = x.view in
    let sits = seated a l s h id x at p.role in
    let k : ℕ = sits.0.0 in
    let c : ℕ = h.claim in
    let size = p.area_is in
    let small = o.sizes.0.1 in
    let short = o.sizes.1.1 in
    let below = (h.kept.each k v sits.0.1).block.below in
    let found : slice_index s.words 0 ≡ c = ap (λ (ws : List ℕ). slice_index ws 0) h.words in
    let low = claims_low a l c h.log h.area h.views h.kept small short in
    let plain : (slice_index s.words 0 + n) % 2 ^ 64 ≡ c + n = ap (λ (z : ℕ). (z + n) % 2 ^ 64) found ∙ small_mod (c + n) (let b : c + n < 18446744073709551616 = omega arith in b) in
    let words : set s.words 0 ((slice_index s.words 0 + n) % 2 ^ 64) ≡ (c + n) ∷ (padded l h.log ++ h.area) = ap (λ (ws : List ℕ). set ws 0 ((slice_index s.words 0 + n) % 2 ^ 64)) h.words ∙ ap (λ (z : ℕ). z ∷ (padded l h.log ++ h.area)) plain in
    dite (dec_le (c + n) a)
    (λ yes.
    let w : View = claimed v c n in
    let kept = claims_kept a l c k h.log h.area h.views v h.kept sits.0.1 n yes in (
      record x { view = w },
      keeps,
      tt,
      moves a l s h id k 0 ((slice_index s.words 0 + n) % 2 ^ 64) (c + n) h.log h.area me.1 x w at p.role sits.0.1 sits.1 refl ([], sym (append-nil h.log)) words kept,
      subst (λ (z : ℕ). claim_tells (step slots 0 n 0 none) me z (record x { view = w }, me.1)) (sym found)
          ((λ _. (below, takes_view a l (c + n) k h.log h.area h.views me w p o.sizes kept sits.0.1 o.settled (λ place q. refl))), λ over. absurd (omega arith)),
    ))
    (λ no.
    let w : View = refused_claim v c n in
    let kept = refusals_kept a l c k h.log h.area h.views v h.kept sits.0.1 n first most in
    let over = lt_of_not-le no in (
      record x { view = w },
      keeps,
      tt,
      moves a l s h id k 0 ((slice_index s.words 0 + n) % 2 ^ 64) (c + n) h.log h.area me.1 x w at p.role sits.0.1 sits.1 refl ([], sym (append-nil h.log)) words kept,
      subst (λ (z : ℕ). claim_tells (step slots 0 n 0 none) me z (record x { view = w }, me.1)) (sym found)
          ((λ within. absurd (omega arith)), λ _. takes_view a l (c + n) k h.log h.area h.views me w p o.sizes kept sits.0.1 o.settled (λ place q. refl)),
    ))
