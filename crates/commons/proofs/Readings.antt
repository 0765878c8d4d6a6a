-- What a pass may read of a known cell, one word after the other.
use Rattle.std.proofs.Common.{◌≡◌, ◌≢◌, ℕ, ◌+◌, ◌<◌, ◌≤◌, List, [], ap, ◌∙◌, sym, refl, inl, inr, ⊎_elim, subst, append-nil, arith}
use Rattle.std.specs.Prelude.{slice_index, length}
use Rattle.hy_words.specs.Words.{tag_of, payload_of, area_word_of, following, IsTermHeader, IsEntryHeader, IsScalar, IsValue}
use Rattle.commons.specs.declared.view.View.{View}
use Rattle.commons.specs.Log.{header_at}
use Rattle.commons.specs.Views.{Fits, KnowsCell, KnowsPlace, KnowsTerm, MayShare, IsSound}
use Rattle.commons.specs.Changes.{IsSameButSeen, KeepsOthers}
use Rattle.commons.proofs.Cells.{grown_same, grown_on, value_at, value_not_zero, inside_of, following_entry}
use Rattle.commons.proofs.Grows.{area_word_place}
use Rattle.commons.proofs.Later.{knows_on}

-- the cell of a known log word is known
pub entry_known : (v : View) (cell place : ℕ) → place < length v.known → area_word_of cell ≡ slice_index v.known place → KnowsCell v cell
entry_known v cell place low e = inr (inl (place, low, sym e))

-- where a pass read the header of a known cell, it may read each word behind it
pub may_read : (capacity : ℕ) (v : View) (cell k header : ℕ) → KnowsCell v cell → slice_index v.seen cell ≡ header → header ≢ 0 → k ≤ following header → KnowsPlace capacity v (cell + k)
may_read capacity v cell k header known read some low = (cell, known, λ area fit. let e : slice_index area cell ≡ header = fit.agrees cell (λ z. some (sym read ∙ z)) ∙ read in (omega arith, subst (λ (h : ℕ). cell + k ≤ cell + following h) (sym e) (omega arith)))

pub header_may_be_read : (capacity : ℕ) (v : View) (cell : ℕ) → KnowsCell v cell → KnowsPlace capacity v cell
header_may_be_read capacity v cell known = (cell, known, λ area fit. (omega arith, omega arith))

-- the words of a known cell lie in the area
pub inside : (capacity log_size : ℕ) (v : View) (cell k header : ℕ) → IsSound capacity log_size v → KnowsCell v cell → slice_index v.seen cell ≡ header → header ≢ 0 → k < following header → cell + 1 + k < capacity
inside capacity log_size v cell k header sound known read some low =
    let area : List ℕ = sound.fits.0 in
    let fit = sound.fits.1 in
    let e : slice_index area cell ≡ header = fit.agrees cell (λ z. some (sym read ∙ z)) ∙ read in
    let i = inside_of area (cell + 1 + k) (value_not_zero (slice_index area (cell + 1 + k)) (value_at area cell k (cell + 1 + k) (fit.whole cell known) (subst (λ (h : ℕ). k < following h) (sym e) low) refl)) in
    let s = fit.sized in omega arith

-- the header of the entry at a known place, in each area that fits
pub known_header : (capacity : ℕ) (v : View) (cell place header : ℕ) (area : List ℕ) → place < length v.known → area_word_of cell ≡ slice_index v.known place → slice_index v.seen cell ≡ header → header ≢ 0 → Fits capacity v area
    → (header_at area (slice_index v.known place) ≡ header) × IsEntryHeader header
known_header capacity v cell place header area low named read some fit =
    let at : payload_of (slice_index v.known place) ≡ cell = ap payload_of (sym named) ∙ area_word_place cell in
    let here : header_at area (slice_index v.known place) ≡ header = ap (slice_index area) at ∙ (fit.agrees cell (λ z. some (sym read ∙ z)) ∙ read) in
    (here, subst IsEntryHeader here (fit.log.entries place low).1.1)

-- a send entry has three words behind its header
pub send_follows : (capacity log_size : ℕ) (v : View) (cell header : ℕ) → IsSound capacity log_size v → KnowsCell v cell → slice_index v.seen cell ≡ header → header ≢ 0 → tag_of header ≡ 9 → following header ≡ 3
send_follows capacity log_size v cell header sound known read some nine =
    let fit = sound.fits.1 in
    let e : slice_index sound.fits.0 cell ≡ header = fit.agrees cell (λ z. some (sym read ∙ z)) ∙ read in
    let three : payload_of header ≡ 3 = ap payload_of (sym e) ∙ ((fit.whole cell known).shape.0 (ap tag_of e ∙ nine)).0 in
    following_entry header (omega arith, omega arith) ∙ three

-- what was read behind the header of a known cell may be put
pub read_may_share : (capacity log_size : ℕ) (v : View) (cell k header word : ℕ) → IsSound capacity log_size v → KnowsCell v cell → slice_index v.seen cell ≡ header → header ≢ 0 → k < following header → slice_index v.seen (cell + 1 + k) ≡ word → word ≢ 0 → MayShare capacity v word
read_may_share capacity log_size v cell k header word sound known read some low here is =
    let fit = sound.fits.1 in
    let place : ℕ = cell + 1 + k in
    let there : slice_index v.seen place ≢ 0 = λ z. is (sym here ∙ z) in
    let e : slice_index sound.fits.0 cell ≡ header = fit.agrees cell (λ z. some (sym read ∙ z)) ∙ read in
    let w : slice_index sound.fits.0 place ≡ word = fit.agrees place there ∙ here in
    let value : IsValue word = subst IsValue w ((fit.whole cell known).values k (subst (λ (h : ℕ). k < following h) (sym e) low)) in
    ⊎_elim (λ (x : IsScalar word). inl x)
    (λ (six : tag_of word ≡ 6).
    let at : word ≡ area_word_of (payload_of word) = omega arith in
    inr (
      payload_of word,
      at,
      (
        inr (inr (place, inside_of v.seen place there, here ∙ at)),
        λ area f. let z : slice_index area place ≡ word = f.agrees place there ∙ here in
            let term = f.closed.parts place (ap tag_of z ∙ six) in
            subst (λ (x : ℕ). IsTermHeader (slice_index area (payload_of x))) z term.1,
      ),
    ))
    value

-- an area word that may be put names a tuple or cons that the pass knows
pub shared_cell : (capacity : ℕ) (v : View) (word : ℕ) → MayShare capacity v word → tag_of word ≡ 6 → KnowsTerm capacity v (payload_of word)
shared_cell capacity v word h six = ⊎_elim (λ (x : IsScalar word). let low = x.1 in absurd (omega arith))
    (λ (x : (cell : ℕ) × (word ≡ area_word_of cell) × KnowsTerm capacity v cell). let at : x.0 ≡ payload_of word = sym (ap payload_of x.1 ∙ area_word_place x.0) in subst (KnowsTerm capacity v) at x.2) h

-- nothing changes in two steps where nothing changes in each
pub still : (v : View) → IsSameButSeen v v
still v = (refl, grown_same v.seen)

pub same_still : (v w : View) → w ≡ v → IsSameButSeen v w
same_still v w e = subst (IsSameButSeen v) (sym e) (still v)

pub still_on : (u v w : View) → IsSameButSeen u v → IsSameButSeen v w → IsSameButSeen u w
still_on u v w f g = (g.0 ∙ ap (λ (x : View). record x { seen = w.seen }) f.0, grown_on u.seen v.seen w.seen f.1 g.1)

pub keeps_same : {C P : Type 0} (is_pass : C → P → Type 0) (apart : P → P → Type 0) (view : C → P → View) (c : C) (p : P) → is_pass c p → KeepsOthers is_pass apart view c p c p
keeps_same is_pass apart view c p h = (h, λ r here far. (here, far, still (view c r)))

pub keeps_on : {C P : Type 0} (is_pass : C → P → Type 0) (apart : P → P → Type 0) (view : C → P → View) (c d e : C) (p q r : P) → KeepsOthers is_pass apart view c p d q → KeepsOthers is_pass apart view d q e r → KeepsOthers is_pass apart view c p e r
keeps_on is_pass apart view c d e p q r f g = (g.0, λ s here far. let a = f.1 s here far in let b = g.1 s a.0 a.1 in (b.0, b.1, still_on (view c s) (view d s) (view e s) a.2 b.2))

pub known_still : (v w : View) (cell : ℕ) → IsSameButSeen v w → KnowsCell v cell → KnowsCell w cell
known_still v w cell same = knows_on 0 v w ([], ap (λ (u : View). u.known) same.0 ∙ sym (append-nil v.known)) same.1 cell
