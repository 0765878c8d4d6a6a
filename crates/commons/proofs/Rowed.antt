-- Words in a row, and the whole entry that a header and a row make.
use Rattle.std.proofs.Common.{◌≡◌, ◌≢◌, ℕ, zero, suc, ◌+◌, ◌-◌, ◌<◌, ◌≤◌, List, [], ◌∷◌, ◌++◌, length, length-append, sym, ap, ◌∙◌, inl, inr, ⊎_elim, subst, arith, lt_of_not-le}
use Rattle.std.specs.Prelude.{slice_index}
use Rattle.std.proofs.lemmas.List.{get_or_append_left, get_or-append-add}
use native.Mathlib.Decide.{ℕ_discrete, dec_le}
use mathlib.Core.Logic.{dite}
use Rattle.hy_words.specs.Lists.{Grown}
use Rattle.hy_words.specs.Words.{tag_of, payload_of, area_word_of, IsHeader, IsEntryHeader, IsTermHeader, IsScalar, IsValue, following}
use Rattle.commons.specs.declared.view.View.{View}
use Rattle.commons.specs.Area.{IsWhole, IsEntryCell, HasShape}
use Rattle.commons.specs.Log.{HasWords, prints_at}
use Rattle.commons.specs.Views.{Fits, KnowsTerm, MayShare, MayAppend}
use Rattle.commons.specs.Changes.{PutsWords}
use Rattle.commons.proofs.Cells.{header_not_zero, following_entry, grown_same, grown_on}
use Rattle.commons.proofs.Grows.{area_word_tag, area_word_place}

-- the first k words of a row stand
abbrev pub HasFirst : List ℕ → (place : ℕ) → List ℕ → ℕ → Type 0
HasFirst area place words k = (j : ℕ) → j < k → slice_index area (place + j) ≡ slice_index words j

pub none_first : (area : List ℕ) (place : ℕ) (words : List ℕ) → HasFirst area place words 0
none_first area place words j h = absurd (omega arith)

pub one_more : (a b : List ℕ) (place k : ℕ) (words : List ℕ) → Grown a b → ((j : ℕ) → j < k → slice_index words j ≢ 0) → slice_index b (place + k) ≡ slice_index words k → HasFirst a place words k → HasFirst b place words (k + 1)
one_more a b place k words grown some here row j h = dite (ℕ_discrete j k)
    (λ e. subst (λ (i : ℕ). slice_index b (place + i) ≡ slice_index words i) (sym e) here)
    (λ o. let low : j < k = omega arith in let is = row j low in grown (place + j) (λ z. some j low (sym is ∙ z)) ∙ is)

-- a row stays where words are added
pub words_grow : (a b : List ℕ) (place : ℕ) (words : List ℕ) → Grown a b → ((k : ℕ) → k < length words → slice_index words k ≢ 0) → HasWords a place words → HasWords b place words
words_grow a b place words grown some row k h = let is = row k h in grown (place + k) (λ z. some k h (sym is ∙ z)) ∙ is

-- a row behind a row
pub words_behind : (area : List ℕ) (place : ℕ) (xs ys : List ℕ) → HasWords area place xs → HasWords area (place + length xs) ys → HasWords area place (xs ++ ys)
words_behind area place xs ys f g k h = dite (dec_le (length xs) k)
    (λ past.
    let j : ℕ = k - length xs in
    let at : k ≡ length xs + j = omega arith in
    let place_at : place + length xs + j ≡ place + k = omega arith in
    ap (slice_index area) (sym place_at) ∙ (g j (omega (arith, length-append xs ys)) ∙ sym (ap (slice_index (xs ++ ys)) at ∙ get_or-append-add xs ys j 0)))
    (λ before. let low = lt_of_not-le before in f k low ∙ sym (get_or_append_left xs ys 0 k low))

pub puts_none : (v : View) → PutsWords v 0 v
puts_none v = (ap (λ (t : ℕ × ℕ). record v { block_start = t.0; puts = t.1 }) (λ i. ((let z : v.block_start ≡ v.block_start + 0 = omega arith in z) i, (let z : v.puts ≡ v.puts + 0 = omega arith in z) i)), grown_same v.seen)

-- words were put, and then more
pub puts_on : (u v w : View) (k n : ℕ) → PutsWords u k v → PutsWords v n w → PutsWords u (k + n) w
puts_on u v w k n f g =
    let start : u.block_start + k + n ≡ u.block_start + (k + n) = omega arith in
    let count : u.puts + k + n ≡ u.puts + (k + n) = omega arith in
    let e : w ≡ record u { block_start = u.block_start + k + n; puts = u.puts + k + n; seen = w.seen } = g.0 ∙ ap (λ (x : View). record x { block_start = x.block_start + n; puts = x.puts + n; seen = w.seen }) f.0 in
    (e ∙ ap (λ (t : ℕ × ℕ). record u { block_start = t.0; puts = t.1; seen = w.seen }) (λ i. (start i, count i)), grown_on u.seen v.seen w.seen f.1 g.1)

pub share_value : (capacity : ℕ) (v : View) (word : ℕ) → MayShare capacity v word → IsValue word
share_value capacity v word h = ⊎_elim (λ (x : IsScalar word). inl x) (λ (x : (cell : ℕ) × (word ≡ area_word_of cell) × KnowsTerm capacity v cell). inr (ap tag_of x.1 ∙ area_word_tag x.0)) h

-- the first three words of a row
pub row_heads : (area : List ℕ) (place h a b : ℕ) (rest : List ℕ) → HasWords area place (h ∷ a ∷ b ∷ rest) → (slice_index area place ≡ h) × (slice_index area (place + 1) ≡ a) × (slice_index area (place + 2) ≡ b)
row_heads area place h a b rest row = (ap (slice_index area) (let z : place ≡ place + 0 = omega arith in z) ∙ row 0 (omega arith), row 1 (omega arith), row 2 (omega arith))

pub three_some : (h a b : ℕ) → h ≢ 0 → a ≢ 0 → b ≢ 0 → (k : ℕ) → k < 3 → slice_index (h ∷ a ∷ b ∷ []) k ≢ 0
three_some h a b x y z zero low = x
three_some h a b x y z (suc zero) low = y
three_some h a b x y z (suc (suc zero)) low = z
three_some h a b x y z (suc (suc (suc k))) low = absurd (omega arith)

pub one_value : (word : ℕ) → IsValue word → (k : ℕ) → k < 1 → IsValue (slice_index (word ∷ []) k)
one_value word v zero low = v
one_value word v (suc k) low = absurd (omega arith)

pub no_value : (k : ℕ) → k < 0 → IsValue (slice_index [] k)
no_value k low = absurd (omega arith)

-- a header and values behind it make a tuple or cons that the pass knows
pub row_term : (capacity : ℕ) (v : View) (place header : ℕ) (parts : List ℕ) → HasWords v.seen place (header ∷ parts) → IsHeader header → IsTermHeader header → following header ≡ length parts → ((k : ℕ) → k < length parts → IsValue (slice_index parts k)) → KnowsTerm capacity v place
row_term capacity v place header parts row is kind count values =
    let here : slice_index v.seen place ≡ header = ap (slice_index v.seen) (let z : place ≡ place + 0 = omega arith in z) ∙ row 0 (omega arith) in
    let low : tag_of header ≤ 8 = kind.1 in
    let tag : tag_of (slice_index v.seen place) ≡ tag_of header = ap tag_of here in
    let long : following (slice_index v.seen place) ≡ length parts = ap following here ∙ count in
    let whole : IsWhole v.seen place = record {
      header = subst IsHeader (sym here) is;
      values = λ k h.
          let same : slice_index v.seen (place + 1 + k) ≡ slice_index parts k = ap (slice_index v.seen) (let z : place + 1 + k ≡ place + suc k = omega arith in z) ∙ row (suc k) (omega arith) in
          subst IsValue (sym same) (values k (omega arith));
      shape = ((λ e. let t : tag_of (slice_index v.seen place) ≡ 9 = e in absurd (omega arith)), (λ e. let t : tag_of (slice_index v.seen place) ≡ 10 = e in absurd (omega arith)), (λ e. let t : tag_of (slice_index v.seen place) ≡ 11 = e in absurd (omega arith)));
    } in
    (inl whole, λ area f. subst IsTermHeader (sym (f.agrees place (λ z. header_not_zero header is (sym here ∙ z)) ∙ here)) kind)

-- a header, and a pid, a second word and values behind it, make a whole entry that may be appended
pub row_entry : (capacity : ℕ) (v : View) (place header first second entry : ℕ) (rest : List ℕ) → HasWords v.seen place (header ∷ first ∷ second ∷ rest) → IsHeader header → IsEntryHeader header → payload_of header ≡ 2 + length rest → HasShape header first second
    → IsScalar first → IsScalar second → ((k : ℕ) → k < length rest → IsValue (slice_index rest k)) → payload_of first ≡ v.pid → entry ≡ area_word_of place
    → (tag_of header ≡ 11 → (area : List ℕ) → Fits capacity v area → payload_of second ≡ prints_at area v.known v.own) → MayAppend capacity v entry
row_entry capacity v place header first second entry rest row is kind long shape one two values me at text =
    let heads = row_heads v.seen place header first second rest row in
    let h0 : slice_index v.seen place ≡ header = heads.0 in
    let h1 : slice_index v.seen (place + 1) ≡ first = heads.1 in
    let h2 : slice_index v.seen (place + 2) ≡ second = heads.2 in
    let there : payload_of entry ≡ place = ap payload_of at ∙ area_word_place place in
    let count : following (slice_index v.seen place) ≡ 2 + length rest = ap following h0 ∙ (following_entry header kind ∙ long) in
    let part : (k : ℕ) → k < 2 + length rest → IsValue (slice_index (first ∷ second ∷ rest) k) = λ k h. each k h in
    let whole : IsWhole v.seen place = record {
      header = subst IsHeader (sym h0) is;
      values = λ k h.
          let low : k < 2 + length rest = omega arith in
          let same : slice_index v.seen (place + 1 + k) ≡ slice_index (first ∷ second ∷ rest) k = ap (slice_index v.seen) (let z : place + 1 + k ≡ place + suc k = omega arith in z) ∙ row (suc k) (omega arith) in
          subst IsValue (sym same) (part k low);
      shape = subst (λ (t : ℕ × (ℕ × ℕ)). HasShape t.0 t.1.0 t.1.1) (λ i. (sym h0 i, (sym h1 i, sym h2 i))) shape;
    } in
    let cell : IsEntryCell v.seen place = (whole, subst IsEntryHeader (sym h0) kind) in record {
      names_cell = ap tag_of at ∙ area_word_tag place;
      whole = subst (IsEntryCell v.seen) (sym there) cell;
      actor = ap (λ (k : ℕ). payload_of (slice_index v.seen (k + 1))) there ∙ (ap payload_of h1 ∙ me);
      text = λ print area fit. ap (λ (k : ℕ). payload_of (slice_index v.seen (k + 2))) there ∙ (ap payload_of h2 ∙ text (sym (ap (λ (k : ℕ). tag_of (slice_index v.seen k)) there ∙ ap tag_of h0) ∙ print) area fit);
    }
  where
    each : (k : ℕ) → k < 2 + length rest → IsValue (slice_index (first ∷ second ∷ rest) k)
    each zero h = inl one
    each (suc zero) h = inl two
    each (suc (suc k)) h = values k (omega arith)
