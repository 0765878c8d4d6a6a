-- The area, the log and what a pass knows, after a word was put and after an entry was appended.
use Rattle.std.proofs.Common.{◌≡◌, ◌≢◌, ◌⊎◌, ℕ, zero, suc, ◌+◌, ◌*◌, ◌<◌, ◌≤◌, List, [], ◌∷◌, ◌++◌, length, set, take, length-append, lt_of_not-le, get_or-set_other, get_or-set_same, sym, refl, ap, ◌∙◌, inl, inr, ⊎_elim, subst, arith, Bool, lit<, ne_eqb, le_refl}
use Rattle.std.proofs.Math.Seq.{take-append_seam}
use Rattle.std.proofs.lemmas.List.{get_or_append_left, get_or-take, take-append-le, length-take-le}
use Rattle.std.specs.Prelude.{slice_index, if◌then◌else◌, ◌==◌, ◌&&◌}
use native.Mathlib.Decide.{ℕ_discrete, dec_le}
use mathlib.Core.Logic.{dite}
use Rattle.hy_words.specs.Lists.{Grown, StartsWith, Has}
use Rattle.hy_words.specs.Words.{tag_of, payload_of, area_word_of, IsHeader, IsScalar, IsValue}
use Rattle.commons.specs.declared.view.View.{View}
use Rattle.commons.specs.Area.{IsWhole, IsTermCell, IsEntryCell, IsClosed, StandsInArea}
use Rattle.commons.specs.Log.{header_at, actor_of, text_of, own_places, is_print_of, prints, LogEvent, Tells, IsLog}
use Rattle.commons.specs.Views.{KnowsCellBy, FitsBy, Fits, MayPut}
use Rattle.commons.specs.Rule.{written}
use Rattle.commons.proofs.Begins.{last_of}
use Rattle.commons.proofs.Cells.{header_not_zero, value_not_zero, grown_set, whole_grows, term_grows, entry_grows, header_grows, actor_grows, text_grows}
use Rattle.commons.proofs.Terms.{value_stands, in_grown, cell_stands, closed_by, entry_tells}

tag_made : (n t : ℕ) → t < 16 → tag_of (n * 16 + t) ≡ t
tag_made n t h = omega arith

payload_made : (n t : ℕ) → t < 16 → payload_of (n * 16 + t) ≡ n
payload_made n t h = omega arith

pub area_word_tag : (n : ℕ) → tag_of (area_word_of n) ≡ 6
area_word_tag n = tag_made n 6 (lit< tt)

pub area_word_place : (n : ℕ) → payload_of (area_word_of n) ≡ n
area_word_place n = payload_made n 6 (lit< tt)

-- the own places and the prints of an actor stay while the entries tell the same of actors and kinds
pub own_grows : (a b : List ℕ) (pid n : ℕ) (log : List ℕ) → ((k : ℕ) → k < length log → actor_of b (slice_index log k) ≡ actor_of a (slice_index log k)) → own_places b pid n log ≡ own_places a pid n log
own_grows a b pid n [] h = refl
own_grows a b pid n (w ∷ ws) h =
    let e : actor_of b w ≡ actor_of a w = h 0 (omega arith) in
    let r = own_grows a b pid (suc n) ws (λ k i. h (suc k) (omega arith)) in
    ap (λ (x : ℕ). if x == pid then n ∷ own_places b pid (suc n) ws else own_places b pid (suc n) ws) e ∙ ap (λ (ys : List ℕ). if actor_of a w == pid then n ∷ ys else ys) r

prints_grows : (a b : List ℕ) (pid : ℕ) (log : List ℕ) → ((k : ℕ) → k < length log → (actor_of b (slice_index log k) ≡ actor_of a (slice_index log k)) × (header_at b (slice_index log k) ≡ header_at a (slice_index log k))) → prints b pid log ≡ prints a pid log
prints_grows a b pid [] h = refl
prints_grows a b pid (w ∷ ws) h =
    let e = h 0 (omega arith) in
    let r = prints_grows a b pid ws (λ k i. h (suc k) (omega arith)) in
    ap (λ (x : ℕ). (if (x == pid) && (tag_of (header_at b w) == 11) then 1 else 0) + prints b pid ws) e.0
    ∙ (ap (λ (x : ℕ). (if (actor_of a w == pid) && (tag_of x == 11) then 1 else 0) + prints b pid ws) e.1 ∙ ap (λ (n : ℕ). (if is_print_of a pid w then 1 else 0) + n) r)

pub written_set : (area : List ℕ) (p w : ℕ) → p < length area → slice_index area p ≡ 0 → w ≢ 0 → written (set area p w) ≡ written area + 1
written_set [] p w h z n = absurd (omega arith)
written_set (x ∷ xs) zero w h z n =
    let t : ℕ = written xs in
    let c : ℕ = (if w == 0 then 0 else 1) in
    let d : ℕ = (if x == 0 then 0 else 1) in
    let a : c ≡ 1 = ap (λ (b : Bool). if b then 0 else 1) (ne_eqb w 0 n) in
    let b : d ≡ 0 = ap (λ (y : ℕ). if y == 0 then 0 else 1) z in
    let g : c + t ≡ d + t + 1 = omega arith in g
written_set (x ∷ xs) (suc p) w h z n =
    let r = written_set xs p w (omega arith) z n in
    let t : ℕ = written xs in
    let u : ℕ = written (set xs p w) in
    let d : ℕ = (if x == 0 then 0 else 1) in
    let r' : u ≡ t + 1 = r in
    let g : d + u ≡ d + t + 1 = omega arith in g

pub known_in_log : (log known : List ℕ) (k : ℕ) → StartsWith log known → k < length known → slice_index log k ≡ slice_index known k
known_in_log log known k s h = ap (λ (xs : List ℕ). slice_index xs k) s.1 ∙ get_or_append_left known s.0 0 k h

pub known_length : (log known : List ℕ) → StartsWith log known → length known ≤ length log
known_length log known s = let e = ap length s.1 in omega (arith, length-append known s.0)

-- the cells that a pass knows are whole
pub knows_whole : (l : ℕ) (log area known seen : List ℕ) (cell : ℕ) → IsClosed area → IsLog l log area → StartsWith log known → Grown seen area → KnowsCellBy known seen cell → IsWhole area cell
knows_whole l log area known seen cell closed entries begins agrees h = ⊎_elim
    (λ (w : IsWhole seen cell). whole_grows seen area cell agrees w)
    (λ (t : Has known (area_word_of cell) ⊎ Has seen (area_word_of cell)). ⊎_elim
    (λ (u : Has known (area_word_of cell)).
    let long = known_length log known begins in
    let inside = u.1 in
    let e = entries.entries u.0 (omega arith) in
    let w : slice_index log u.0 ≡ area_word_of cell = known_in_log log known u.0 begins u.1 ∙ u.2 in
    let at : payload_of (slice_index log u.0) ≡ cell = ap payload_of w ∙ area_word_place cell in
    subst (λ (x : ℕ). IsWhole area x) at e.1.0)
    (λ (u : Has seen (area_word_of cell)).
    let six : tag_of (slice_index seen u.0) ≡ 6 = ap tag_of u.2 ∙ area_word_tag cell in
    let e : slice_index area u.0 ≡ slice_index seen u.0 = agrees u.0 (value_not_zero (slice_index seen u.0) (inr six)) in
    let p = closed.parts u.0 (ap tag_of e ∙ six) in
    let at : payload_of (slice_index area u.0) ≡ cell = ap payload_of (e ∙ u.2) ∙ area_word_place cell in
    subst (λ (x : ℕ). IsWhole area x) at p.0)
    t)
    h

-- what begins a log is a log
pub log_begins : (l : ℕ) (log area known : List ℕ) → IsLog l log area → StartsWith log known → IsLog (length known) known area
log_begins l log area known r begins =
    let long = known_length log known begins in
    let in_log : (k : ℕ) → k < length known → k < length log = λ k h. omega arith in
    let same : (k : ℕ) → k < length known → slice_index log k ≡ slice_index known k = λ k h. known_in_log log known k begins h in record {
      short = le_refl (length known);
      entries = λ k h. subst (λ (w : ℕ). (tag_of w ≡ 6) × IsEntryCell area (payload_of w)) (same k h) (r.entries k (in_log k h));
      events = λ k h. subst (λ (w : ℕ). (e : LogEvent) × Tells area (payload_of w) e) (same k h) (r.events k (in_log k h));
      numbered = λ k h.
          let before : take k log ≡ take k known = ap (take k) begins.1 ∙ take-append-le k known begins.0 (let z : k ≤ length known = omega arith in z) in
          subst (λ (t : ℕ × List ℕ). tag_of (header_at area t.0) ≡ 11 → text_of area t.0 ≡ prints area (actor_of area t.0) t.1) (λ i. (same k h i, before i)) (r.numbered k (in_log k h));
    }

-- the area fits a pass that knows a beginning of the log and words of the area
pub fits_by : (a l : ℕ) (log area known seen : List ℕ) → length area ≡ a → IsClosed area → IsLog l log area → StartsWith log known → Grown seen area → FitsBy a known seen area
fits_by a l log area known seen sized closed entries begins agrees = record {
  sized = sized;
  closed = closed;
  agrees = agrees;
  whole = λ cell h. knows_whole l log area known seen cell closed entries begins agrees h;
  log = log_begins l log area known entries begins;
}

pub put_not_zero : (a : ℕ) (v : View) (word : ℕ) → MayPut a v word → word ≢ 0
put_not_zero a v word h = ⊎_elim (λ (x : IsHeader word). header_not_zero word x) (λ t. ⊎_elim (λ (x : IsScalar word). value_not_zero word (inl x)) (λ u e. let f = u.1 in omega arith) t) h

pub put_shape : (a : ℕ) (v : View) (word : ℕ) → MayPut a v word → IsHeader word ⊎ IsValue word
put_shape a v word h = ⊎_elim (λ (x : IsHeader word). inl x) (λ t. ⊎_elim (λ (x : IsScalar word). inr (inl x)) (λ u. inr (inr (ap tag_of u.1 ∙ area_word_tag u.0))) t) h

-- the cell of an area word that may be put
pub put_names : (a : ℕ) (v : View) (word : ℕ) (area : List ℕ) → Fits a v area → MayPut a v word → tag_of word ≡ 6 → IsTermCell area (payload_of word)
put_names a v word area f h six = ⊎_elim (λ (x : IsHeader word). let t = x.0 in absurd (omega arith))
    (λ t. ⊎_elim (λ (x : IsScalar word). let y = x.1 in absurd (omega arith)) (λ u. let at : u.0 ≡ payload_of word = sym (ap payload_of u.1 ∙ area_word_place u.0) in subst (λ (x : ℕ). IsTermCell area x) at (f.whole u.0 u.2.0, u.2.1 area f)) t) h

-- a word is put into a closed area
module _ (area : List ℕ) (p word : ℕ) (closed : IsClosed area) (shape : IsHeader word ⊎ IsValue word) (names : tag_of word ≡ 6 → IsTermCell area (payload_of word)) (inside : p < length area) (free : slice_index area p ≡ 0) where
  abbrev area' : List ℕ
  area' = set area p word

  grown : Grown area area'
  grown = grown_set area p word free

  here : slice_index area' p ≡ word
  here = get_or-set_same area p word 0 inside

  words : (place : ℕ) → slice_index area' place ≢ 0 → IsHeader (slice_index area' place) ⊎ IsValue (slice_index area' place)
  words place n = dite (ℕ_discrete place p)
      (λ e. subst (λ (k : ℕ). IsHeader (slice_index area' k) ⊎ IsValue (slice_index area' k)) (sym e) (subst (λ (x : ℕ). IsHeader x ⊎ IsValue x) (sym here) shape))
      (λ o. let same = get_or-set_other area p place word 0 o in subst (λ (x : ℕ). IsHeader x ⊎ IsValue x) (sym same) (closed.words place (λ z. n (same ∙ z))))

  -- each area word of the new area names a cell of the old one
  old_parts : (place : ℕ) → tag_of (slice_index area' place) ≡ 6 → IsTermCell area (payload_of (slice_index area' place))
  old_parts place six = dite (ℕ_discrete place p)
      (λ e. let at : slice_index area' place ≡ word = ap (λ (k : ℕ). slice_index area' k) e ∙ here in subst (λ (x : ℕ). IsTermCell area (payload_of x)) (sym at) (names (sym (ap tag_of at) ∙ six)))
      (λ o. let same : slice_index area' place ≡ slice_index area place = get_or-set_other area p place word 0 o in subst (λ (x : ℕ). IsTermCell area (payload_of x)) (sym same) (closed.parts place (sym (ap tag_of same) ∙ six)))

  cells : (cell : ℕ) → IsTermCell area' cell → StandsInArea area' (area_word_of cell)
  cells cell h = cell_stands area' cell h (λ k i.
      let x : ℕ = slice_index area' (cell + 1 + k) in
      in_grown area area' x grown (value_stands area x (λ six. closed.cells (payload_of x) (old_parts (cell + 1 + k) six)) (h.0.values k i)))

  pub closed_put : IsClosed area'
  closed_put = closed_by area' words (λ place six. term_grows area area' (payload_of (slice_index area' place)) grown (old_parts place six)) cells

-- the log over an area to which words were added
pub log_grows : (l : ℕ) (log area area' : List ℕ) → IsLog l log area → Grown area area' → IsClosed area' → IsLog l log area'
log_grows l log area area' r g closed =
    let same : (k : ℕ) → k < length log → (actor_of area' (slice_index log k) ≡ actor_of area (slice_index log k)) × (header_at area' (slice_index log k) ≡ header_at area (slice_index log k)) =
    λ k h. (actor_grows area area' (slice_index log k) g (r.entries k h).1, header_grows area area' (slice_index log k) g (r.entries k h).1) in
    let entries : (k : ℕ) → k < length log → (tag_of (slice_index log k) ≡ 6) × IsEntryCell area' (payload_of (slice_index log k)) = λ k h. let e = r.entries k h in (e.0, entry_grows area area' (payload_of (slice_index log k)) g e.1) in record {
      short = r.short;
      entries = entries;
      events = λ k h. entry_tells area' (payload_of (slice_index log k)) closed (entries k h).1;
      numbered = λ k h print.
          let w : ℕ = slice_index log k in
          let s = same k h in
          let pid : ℕ = actor_of area w in
          let long : length (take k log) ≡ k = length-take-le k log (let z : k ≤ length log = omega arith in z) in
          let before : prints area' pid (take k log) ≡ prints area pid (take k log) = prints_grows area area' pid (take k log) (λ j i.
          let j' : j < k = subst (λ (n : ℕ). j < n) long i in
          let at : slice_index (take k log) j ≡ slice_index log j = get_or-take k log j 0 j' in
          subst (λ (x : ℕ). (actor_of area' x ≡ actor_of area x) × (header_at area' x ≡ header_at area x)) (sym at) (same j (omega arith))) in
          text_grows area area' w g (r.entries k h).1 ∙ (r.numbered k h (sym (ap tag_of s.1) ∙ print) ∙ (sym before ∙ ap (λ (q : ℕ). prints area' q (take k log)) (sym s.0)));
    }

-- what holds of each entry holds with one more at the end
each_entry : (P : ℕ → ℕ → Type 0) (log : List ℕ) (e : ℕ) → ((k : ℕ) → k < length log → P k (slice_index log k)) → P (length log) e → (k : ℕ) → k < length (log ++ e ∷ []) → P k (slice_index (log ++ e ∷ []) k)
each_entry P log e old new k h = dite (dec_le (length log) k)
    (λ past. let same : k ≡ length log = omega (arith, length-append log (e ∷ [])) in subst (λ (q : ℕ). P q (slice_index (log ++ e ∷ []) q)) (sym same) (subst (P (length log)) (sym (last_of log e)) new))
    (λ before. let b = lt_of_not-le before in subst (P k) (sym (get_or_append_left log (e ∷ []) 0 k b)) (old k b))

-- the log with one more entry
pub log_appends : (l : ℕ) (log area : List ℕ) (entry : ℕ) → IsLog l log area → IsClosed area → length log < l → tag_of entry ≡ 6 → IsEntryCell area (payload_of entry)
    → (tag_of (header_at area entry) ≡ 11 → text_of area entry ≡ prints area (actor_of area entry) log) → IsLog l (log ++ entry ∷ []) area
log_appends l log area entry r closed room six cell text =
    let entries = each_entry (λ k w. (tag_of w ≡ 6) × IsEntryCell area (payload_of w)) log entry r.entries (six, cell) in record {
      short = omega (arith, length-append log (entry ∷ []));
      entries = entries;
      events = λ k h. entry_tells area (payload_of (slice_index (log ++ entry ∷ []) k)) closed (entries k h).1;
      numbered = each_entry (λ k w. tag_of (header_at area w) ≡ 11 → text_of area w ≡ prints area (actor_of area w) (take k (log ++ entry ∷ []))) log entry
          (λ k h print. r.numbered k h print ∙ ap (λ (xs : List ℕ). prints area (actor_of area (slice_index log k)) xs) (sym (take-append-le k log (entry ∷ []) (let z : k ≤ length log = omega arith in z))))
          (λ print. text print ∙ ap (λ (xs : List ℕ). prints area (actor_of area entry) xs) (sym (take-append_seam log (entry ∷ []))));
    }
