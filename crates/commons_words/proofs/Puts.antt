-- A put and a get keep the rule of the table.
use Rattle.std.proofs.Common.{◌≡◌, ◌≢◌, ℕ, ◌+◌, ◌-◌, ◌<◌, List, [], ◌∷◌, ◌++◌, set, get_or-set_same, get_or-set_other, append-nil, le_refl, sym, refl, ap, ◌∙◌, subst, arith}
use Rattle.std.specs.Prelude.{slice_index}
use mathlib.Core.Option.{none}
use mathlib.Core.Logic.{dite}
use native.Mathlib.Decide.{ℕ_discrete}
use Rattle.atomic_table.specs.Table.{step, keeps, Allows}
use Rattle.hy_words.specs.Lists.{Grown}
use Rattle.commons.specs.declared.view.View.{View}
use Rattle.commons.specs.Views.{Fits, MayPut, KnowsPlace, IsSound}
use Rattle.commons.specs.Steps.{wrote, read}
use Rattle.commons.proofs.Cells.{header_not_zero, value_not_zero, inside_of}
use Rattle.commons.proofs.Steps.{fits_at, puts_kept, reads_kept}
use Rattle.commons_words.specs.declared.rule.SeatView.{SeatView}
use Rattle.commons_words.specs.Held.{padded, IsHeld, Seated, TakesView, put_tells, get_tells}
use Rattle.commons_words.specs.Passes.{IsProcess}
use Rattle.commons_words.proofs.Moves.{moves, seated, stays, takes_view}
use Rattle.commons_words.proofs.Places.{set_area, area_at}

grown_fresh : (seen area : List ℕ) (p word : ℕ) → Grown seen area → slice_index area p ≡ 0 → Grown seen (set seen p word)
grown_fresh seen area p word g free place n = get_or-set_other seen p place word 0 (λ e. n (sym (g place n) ∙ (ap (λ (q : ℕ). slice_index area q) e ∙ free)))

grown_read : (seen area : List ℕ) (p : ℕ) → Grown seen area → Grown seen (set seen p (slice_index area p))
grown_read seen area p g place n = dite (ℕ_discrete place p)
    (λ e. let m : slice_index seen p ≢ 0 = subst (λ (q : ℕ). slice_index seen q ≢ 0) e n in
    subst (λ (q : ℕ). slice_index (set seen p (slice_index area p)) q ≡ slice_index seen q) (sym e) (get_or-set_same seen p (slice_index area p) 0 (inside_of seen p m) ∙ g p m))
    (λ o. get_or-set_other seen p place (slice_index area p) 0 o)

put_at_start : (a l slots id word : ℕ) (me : Seated) → IsProcess a l me.0 → IsSound a l me.0.view → me.0.view.block_start < me.0.view.block_end → MayPut a me.0.view word
    → Allows (IsHeld a l) slots id me (1 + l + me.0.view.block_start) (λ _. word) (λ _. put_tells (step slots (1 + l + me.0.view.block_start) word 0 none) me word)
put_at_start a l slots id word me p o room may s h homes at fine =
    let x : SeatView = me.0 in
    let v : View = x.view in
    let sits = seated a l s h id x at p.role in
    let k : ℕ = sits.0.0 in
    let w : View = wrote v word in
    let start : ℕ = v.block_start in
    let short = h.kept.entries.short in
    let words : set s.words (1 + l + start) word ≡ h.claim ∷ (padded l h.log ++ set h.area start word) = ap (λ (ws : List ℕ). set ws (1 + l + start) word) h.words ∙ set_area l h.claim start word h.log h.area short in
    let mine = h.kept.each k v sits.0.1 in
    let kept = puts_kept a l h.claim k h.log h.area h.views v word h.kept sits.0.1 room may in (
      record x { view = w },
      keeps,
      tt,
      moves a l s h id k (1 + l + start) word h.claim h.log (set h.area start word) me.1 x w at p.role sits.0.1 sits.1 refl ([], sym (append-nil h.log)) words kept,
      takes_view a l h.claim k h.log (set h.area start word) h.views me w p o.sizes kept sits.0.1 o.settled (grown_fresh v.seen h.area start word mine.knows.agrees (mine.block.fresh start (le_refl start) room)),
    )

-- a place in a known cell is written
pub known_written : (a place : ℕ) (v : View) (area : List ℕ) → Fits a v area → KnowsPlace a v place → slice_index area place ≢ 0
known_written a place v area f h =
    let cell : ℕ = h.0 in
    let whole = f.whole cell h.1 in
    let range = h.2 area f in
    dite (ℕ_discrete place cell)
    (λ e. subst (λ (q : ℕ). slice_index area q ≢ 0) (sym e) (header_not_zero (slice_index area cell) whole.header))
    (λ n. let r0 = range.0 in let r1 = range.1 in
    let j : ℕ = place - (cell + 1) in
    let e : cell + 1 + j ≡ place = omega arith in
    let i = whole.values j (omega arith) in
    subst (λ (q : ℕ). slice_index area q ≢ 0) e (value_not_zero (slice_index area (cell + 1 + j)) i))

get_at_place : (a l slots id place : ℕ) (me : Seated) → IsProcess a l me.0 → IsSound a l me.0.view → KnowsPlace a me.0.view place → Allows (IsHeld a l) slots id me (1 + l + place) (λ n. n) (get_tells (step slots (1 + l + place) 0 0 none) me)
get_at_place a l slots id place me p o knows s h homes at fine =
    let x : SeatView = me.0 in
    let v : View = x.view in
    let long = p.log_is in
    let sits = seated a l s h id x at p.role in
    let k : ℕ = sits.0.0 in
    let short = h.kept.entries.short in
    let f = fits_at a l h.claim k h.log h.area h.views v h.kept sits.0.1 in
    let some_word = known_written a place v h.area f knows in
    let sized = f.sized in
    let inside : place < a = subst (λ (q : ℕ). place < q) f.sized (inside_of h.area place some_word) in
    let word : ℕ = slice_index h.area place in
    let w : View = read v place word in
    let found : slice_index s.words (1 + l + place) ≡ word = ap (λ (ws : List ℕ). slice_index ws (1 + l + place)) h.words ∙ area_at l h.claim place h.log h.area short in
    let mine = h.kept.each k v sits.0.1 in
    let kept = reads_kept a l h.claim k h.log h.area h.views v h.kept sits.0.1 place inside in (
      record x { view = w },
      keeps,
      tt,
      stays a l (1 + l + place) id me s h k w at p.role sits.0.1 sits.1 refl kept,
      subst (λ (z : ℕ). get_tells (step slots (1 + l + place) 0 0 none) me z (record x { view = w }, me.1)) (sym found) (
        some_word,
        λ q e.
            let same : place ≡ q = omega arith in
            subst (λ (y : ℕ). TakesView me (read v y word) (record x { view = w }, me.1)) same (takes_view a l h.claim k h.log h.area h.views me w p o.sizes kept sits.0.1 o.settled (grown_read v.seen h.area place mine.knows.agrees)),
      ),
    )

pub put_allowed : (a l slots id word i : ℕ) (me : Seated) → i ≡ 1 + l + me.0.view.block_start → IsProcess a l me.0 → IsSound a l me.0.view → me.0.view.block_start < me.0.view.block_end → MayPut a me.0.view word
    → Allows (IsHeld a l) slots id me i (λ _. word) (λ _. put_tells (step slots i word 0 none) me word)
put_allowed a l slots id word i me e p o room may = subst (λ (j : ℕ). Allows (IsHeld a l) slots id me j (λ _. word) (λ _. put_tells (step slots j word 0 none) me word)) (sym e) (put_at_start a l slots id word me p o room may)

pub get_allowed : (a l slots id place i : ℕ) (me : Seated) → i ≡ 1 + l + place → IsProcess a l me.0 → IsSound a l me.0.view → KnowsPlace a me.0.view place → Allows (IsHeld a l) slots id me i (λ n. n) (get_tells (step slots i 0 0 none) me)
get_allowed a l slots id place i me e p o knows = subst (λ (j : ℕ). Allows (IsHeld a l) slots id me j (λ n. n) (get_tells (step slots j 0 0 none) me)) (sym e) (get_at_place a l slots id place me p o knows)

-- a place that is known is in the area
pub known_inside : (a l place : ℕ) (v : View) → IsSound a l v → KnowsPlace a v place → place < a
known_inside a l place v o knows = let f = o.fits.1 in subst (λ (q : ℕ). place < q) f.sized (inside_of o.fits.0 place (known_written a place v o.fits.0 f knows))
