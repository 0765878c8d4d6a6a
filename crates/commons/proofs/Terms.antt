-- In a closed area each value stands for a term, and each whole entry tells an event.
use Rattle.std.proofs.Common.{◌≡◌, ◌≢◌, ◌⊎◌, ℕ, zero, suc, ◌+◌, ◌-◌, ◌^◌, ◌<◌, ◌≤◌, List, [], ◌∷◌, length, sym, refl, ap, ⊎_elim, subst, arith}
use Rattle.std.specs.Prelude.{slice_index}
use native.Mathlib.Decide.{ℕ_discrete}
use mathlib.Core.Logic.{dite}
use Rattle.hy_terms.specs.declared.term.Colour.TheVariants.{Shared}
use Rattle.hy_terms.specs.Labelled.{Labelled, labels_of}
use Rattle.hy_terms.specs.Labelled as l
use Rattle.hy_words.specs.Lists.{Grown}
use Rattle.hy_words.specs.Words.{tag_of, payload_of, size_of, site_of, area_word_of, IsHeader, IsScalar, IsValue, following, tuple_header_of, cons_header_of}
use Rattle.hy_words.specs.Stands.{PartsStand, of_cons, of_tuple, no_parts, more_parts}
use Rattle.hy_words.proofs.Scalars.{scalar_stands}
use Rattle.hy_words.proofs.Standing.{stands_grows}
use Rattle.commons.specs.Area.{IsTermCell, IsEntryCell, StandsInArea, IsClosed}
use Rattle.commons.specs.Log.{LogEvent, LoggedSend, LoggedSpawn, LoggedPrint, Tells}
use Rattle.commons.proofs.Cells.{value_not_private, following_tuple, following_cons, following_entry, value_at, grown_same}

-- a value whose cell stands for a term, if it has one, stands for a term
pub value_stands : (area : List ℕ) (w : ℕ) → (tag_of w ≡ 6 → StandsInArea area (area_word_of (payload_of w))) → IsValue w → StandsInArea area w
value_stands area w named v = ⊎_elim (λ (s : IsScalar w). scalar_stands [] area w s)
    (λ (six : tag_of w ≡ 6). let same : area_word_of (payload_of w) ≡ w = omega arith in subst (StandsInArea area) same (named six)) v

pub in_grown : (a b : List ℕ) (w : ℕ) → Grown a b → StandsInArea a w → StandsInArea b w
in_grown a b w g s = (s.0, stands_grows [] a [] b s.0 w (grown_same []) g s.1)

-- words in a row that stand for terms are the parts of a shared cell
pub parts_of : (area : List ℕ) (n place : ℕ) → ((k : ℕ) → k < n → StandsInArea area (slice_index area (place + k)) × (tag_of (slice_index area (place + k)) ≢ 5)) → (ts : List Labelled) × (length ts ≡ n) × PartsStand [] area Shared place ts
parts_of area zero place each = ([], refl, no_parts Shared place)
parts_of area (suc n) place each =
    let here : StandsInArea area (slice_index area place) × (tag_of (slice_index area place) ≢ 5) = subst (λ (q : ℕ). StandsInArea area (slice_index area q) × (tag_of (slice_index area q) ≢ 5)) (let z : place + 0 ≡ place = omega arith in z) (each 0 (omega arith)) in
    let rest = parts_of area n (place + 1) (λ k h. subst (λ (q : ℕ). StandsInArea area (slice_index area q) × (tag_of (slice_index area q) ≢ 5)) (let z : place + suc k ≡ place + 1 + k = omega arith in z) (each (suc k) (omega arith))) in
    let t : Labelled = here.0.0 in
    (t ∷ rest.0, ap suc rest.1, more_parts Shared place t rest.0 here.1 here.0.1 rest.2)

-- a whole tuple or cons whose parts stand for terms stands for one
pub cell_stands : (area : List ℕ) (cell : ℕ) → IsTermCell area cell → ((k : ℕ) → k < following (slice_index area cell) → StandsInArea area (slice_index area (cell + 1 + k))) → StandsInArea area (area_word_of cell)
cell_stands area cell h each =
    let w : ℕ = slice_index area cell in
    let low : 7 ≤ tag_of w = h.0.header.0 in
    let high : tag_of w ≤ 8 = h.1.1 in
    let both : (k : ℕ) → k < following w → StandsInArea area (slice_index area (cell + 1 + k)) × (tag_of (slice_index area (cell + 1 + k)) ≢ 5) = λ k i. (each k i, value_not_private (slice_index area (cell + 1 + k)) (h.0.values k i)) in
    let site : ℕ = site_of w in
    let site_low : site < 2 ^ 28 = h.0.header.3 h.1 in
    dite (ℕ_discrete (tag_of w) 7)
    (λ e. let n : ℕ = size_of w in
    let n_low : n < 2 ^ 28 = h.0.header.2 h.1 in
    let f : following w ≡ n = following_tuple w e in
    let r = parts_of area n (cell + 1) (λ k i. both k (subst (λ (m : ℕ). k < m) (sym f) i)) in
    let made : w ≡ tuple_header_of n site = omega arith in
    (l.Tuple site Shared (labels_of r.0), of_tuple Shared site cell r.0 site_low (subst (λ (m : ℕ). m < 2 ^ 28) (sym r.1) n_low) (subst (λ (m : ℕ). w ≡ tuple_header_of m site) (sym r.1) made) r.2))
    (λ n. let e : tag_of w ≡ 8 = omega arith in
    let none : size_of w ≡ 0 = h.0.header.4 e in
    let f : following w ≡ 2 = following_cons w e in
    let made : w ≡ cons_header_of site = omega arith in
    let a = both 0 (omega arith) in
    let b = both 1 (omega arith) in
    let at : (k place : ℕ) → cell + 1 + k ≡ place → StandsInArea area (slice_index area (cell + 1 + k)) × (tag_of (slice_index area (cell + 1 + k)) ≢ 5) → StandsInArea area (slice_index area place) × (tag_of (slice_index area place) ≢ 5) =
    λ k place z x. subst (λ (q : ℕ). StandsInArea area (slice_index area q) × (tag_of (slice_index area q) ≢ 5)) z x in
    let a' = at 0 (cell + 1) (omega arith) a in
    let b' = at 1 (cell + 1 + 1) refl b in
    (l.Cons site Shared a'.0.0 b'.0.0, of_cons Shared site cell a'.0.0 b'.0.0 site_low made (more_parts Shared (cell + 1) a'.0.0 (b'.0.0 ∷ []) a'.1 a'.0.1 (more_parts Shared (cell + 1 + 1) b'.0.0 [] b'.1 b'.0.1 (no_parts Shared (cell + 1 + 1 + 1))))))

-- an area is closed where its words are, and its cells stand for terms
pub closed_by : (area : List ℕ) → ((place : ℕ) → slice_index area place ≢ 0 → IsHeader (slice_index area place) ⊎ IsValue (slice_index area place))
    → ((place : ℕ) → tag_of (slice_index area place) ≡ 6 → IsTermCell area (payload_of (slice_index area place))) → ((cell : ℕ) → IsTermCell area cell → StandsInArea area (area_word_of cell)) → IsClosed area
closed_by area words parts cells =
    let at : (place : ℕ) → IsValue (slice_index area place) → StandsInArea area (slice_index area place) = λ place v. value_stands area (slice_index area place) (λ six. cells (payload_of (slice_index area place)) (parts place six)) v in record {
      words = words;
      parts = parts;
      cells = cells;
      messages = λ cell h e. let three = (h.0.shape.0 e).0 in let f = following_entry (slice_index area cell) h.1 in at (cell + 3) (value_at area cell 2 (cell + 3) h.0 (omega arith) (omega arith));
      arguments = λ cell k h e i. at (cell + 3 + k) (value_at area cell (2 + k) (cell + 3 + k) h.0 i (omega arith));
    }

-- a whole entry tells an event
pub entry_tells : (area : List ℕ) (cell : ℕ) → IsClosed area → IsEntryCell area cell → (e : LogEvent) × Tells area cell e
entry_tells area cell closed h =
    let w : ℕ = slice_index area cell in
    let low : 9 ≤ tag_of w = h.1.0 in
    let high : tag_of w ≤ 11 = h.1.1 in
    let f : following w ≡ payload_of w = following_entry w h.1 in
    let first : ℕ = slice_index area (cell + 1) in
    let second : ℕ = slice_index area (cell + 2) in
    dite (ℕ_discrete (tag_of w) 9)
    (λ e. let s = h.0.shape.0 e in
    let three : payload_of w ≡ 3 = s.0 in
    let one : tag_of first ≡ 3 = s.1 in
    let two : tag_of second ≡ 3 = s.2 in
    let m = closed.messages cell h e in
    (LoggedSend (payload_of first) (payload_of second) m.0, ((omega arith, omega arith, omega arith), m.1)))
    (λ n. dite (ℕ_discrete (tag_of w) 10)
    (λ e. let s = h.0.shape.1 e in
    let more : 2 ≤ payload_of w = s.0 in
    let one : tag_of first ≡ 3 = s.1 in
    let two : tag_of second ≡ 1 = s.2.0 in
    let count : payload_of second < 2 ^ 59 = s.2.1 in
    let n : ℕ = payload_of w - 2 in
    let r = parts_of area n (cell + 3) (λ k i. (closed.arguments cell k h e (omega arith), value_not_private (slice_index area (cell + 3 + k)) (value_at area cell (2 + k) (cell + 3 + k) h.0 (omega arith) (omega arith)))) in
    let long : length r.0 ≡ n = r.1 in
    (LoggedSpawn (payload_of first) (payload_of second) r.0, ((omega arith, omega arith, omega arith), count, r.2)))
    (λ o. let e : tag_of w ≡ 11 = omega arith in
    let s = h.0.shape.2 e in
    let two_follow : payload_of w ≡ 2 = s.0 in
    let one : tag_of first ≡ 3 = s.1 in
    let two : tag_of second ≡ 1 = s.2.0 in
    let count : payload_of second < 2 ^ 59 = s.2.1 in
    (LoggedPrint (payload_of first) (payload_of second), ((omega arith, omega arith, omega arith), count))))
