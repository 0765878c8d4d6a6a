-- Cells of an area to which words are added.
use Rattle.std.proofs.Common.{◌≡◌, ◌≢◌, ℕ, zero, suc, ◌+◌, ◌<◌, ◌≤◌, List, [], ◌∷◌, length, set, get_or-set_other, get_or-set_same, sym, refl, ap, ◌∙◌, ⊎_elim, subst, arith, Bool, eq-eqb, ne_eqb}
use Rattle.std.specs.Prelude.{slice_index, if◌then◌else◌, ◌==◌}
use native.Mathlib.Decide.{ℕ_discrete}
use mathlib.Core.Logic.{dite}
use Rattle.hy_words.specs.Lists.{Grown}
use Rattle.hy_words.specs.Words.{tag_of, payload_of, size_of, IsHeader, IsScalar, IsValue, IsTermHeader, IsEntryHeader, IsPidWord, IsCountWord, following}
use Rattle.commons.specs.Area.{HasShape, IsWhole, IsTermCell, IsEntryCell}
use Rattle.commons.specs.Log.{header_at, actor_of, text_of}

pub header_not_zero : (w : ℕ) → IsHeader w → w ≢ 0
header_not_zero w h e = let t = h.0 in omega arith

pub value_not_zero : (w : ℕ) → IsValue w → w ≢ 0
value_not_zero w h = ⊎_elim (λ (s : IsScalar w) (e : w ≡ 0). let t = s.0 in omega arith) (λ (s : tag_of w ≡ 6) (e : w ≡ 0). omega arith) h

pub value_not_private : (w : ℕ) → IsValue w → tag_of w ≢ 5
value_not_private w h = ⊎_elim (λ (s : IsScalar w) (e : tag_of w ≡ 5). let t = s.1 in omega arith) (λ (s : tag_of w ≡ 6) (e : tag_of w ≡ 5). omega arith) h

pub grown_same : (a : List ℕ) → Grown a a
grown_same a place n = refl

pub grown_on : (a b c : List ℕ) → Grown a b → Grown b c → Grown a c
grown_on a b c f g place n = let e = f place n in g place (λ z. n (sym e ∙ z)) ∙ e

pub grown_set : (area : List ℕ) (p w : ℕ) → slice_index area p ≡ 0 → Grown area (set area p w)
grown_set area p w free place n = get_or-set_other area p place w 0 (λ e. n (ap (λ (k : ℕ). slice_index area k) e ∙ free))

pub grown_both : (a b : List ℕ) (p w : ℕ) → p < length a → p < length b → Grown a b → Grown (set a p w) (set b p w)
grown_both a b p w ha hb g place n = dite (ℕ_discrete place p)
    (λ e. subst (λ (k : ℕ). slice_index (set b p w) k ≡ slice_index (set a p w) k) (sym e) (get_or-set_same b p w 0 hb ∙ sym (get_or-set_same a p w 0 ha)))
    (λ o. get_or-set_other b p place w 0 o ∙ (g place (λ z. n (get_or-set_other a p place w 0 o ∙ z)) ∙ sym (get_or-set_other a p place w 0 o)))

pub inside_of : (area : List ℕ) (p : ℕ) → slice_index area p ≢ 0 → p < length area
inside_of [] p n = absurd (n refl)
inside_of (x ∷ xs) zero n = omega arith
inside_of (x ∷ xs) (suc p) n = let h = inside_of xs p n in omega arith

-- the words that follow a header, by its tag
pub following_tuple : (w : ℕ) → tag_of w ≡ 7 → following w ≡ size_of w
following_tuple w e = ap (λ (b : Bool). if b then size_of w else if tag_of w == 8 then 2 else payload_of w) (eq-eqb (tag_of w) 7 e)

pub following_cons : (w : ℕ) → tag_of w ≡ 8 → following w ≡ 2
following_cons w e = ap (λ (b : Bool). if b then size_of w else if tag_of w == 8 then 2 else payload_of w) (ne_eqb (tag_of w) 7 (λ z. omega arith)) ∙ ap (λ (b : Bool). if b then 2 else payload_of w) (eq-eqb (tag_of w) 8 e)

pub following_entry : (w : ℕ) → IsEntryHeader w → following w ≡ payload_of w
following_entry w h = let low : 9 ≤ tag_of w = h.0 in ap (λ (b : Bool). if b then size_of w else if tag_of w == 8 then 2 else payload_of w) (ne_eqb (tag_of w) 7 (λ z. omega arith)) ∙ ap (λ (b : Bool). if b then 2 else payload_of w) (ne_eqb (tag_of w) 8 (λ z. omega arith))

-- an entry has two words behind its header
pub entry_two : (area : List ℕ) (cell : ℕ) → IsEntryCell area cell → 2 ≤ following (slice_index area cell)
entry_two area cell h =
    let w : ℕ = slice_index area cell in
    let f : following w ≡ payload_of w = following_entry w h.1 in
    let low : 9 ≤ tag_of w = h.1.0 in
    let high : tag_of w ≤ 11 = h.1.1 in
    dite (ℕ_discrete (tag_of w) 9)
    (λ e. let s = (h.0.shape.0 e).0 in omega arith)
    (λ n. dite (ℕ_discrete (tag_of w) 10) (λ e. let s = (h.0.shape.1 e).0 in omega arith) (λ o. let e : tag_of w ≡ 11 = omega arith in let s = (h.0.shape.2 e).0 in omega arith))

pub value_at : (area : List ℕ) (cell k place : ℕ) → IsWhole area cell → k < following (slice_index area cell) → cell + 1 + k ≡ place → IsValue (slice_index area place)
value_at area cell k place h i e = subst (λ (q : ℕ). IsValue (slice_index area q)) e (h.values k i)

module _ (a b : List ℕ) (cell : ℕ) (g : Grown a b) where
  header_same : IsWhole a cell → slice_index b cell ≡ slice_index a cell
  header_same h = g cell (header_not_zero (slice_index a cell) h.header)

  part_same : (k place : ℕ) → IsWhole a cell → k < following (slice_index a cell) → cell + 1 + k ≡ place → slice_index b place ≡ slice_index a place
  part_same k place h i e = g place (value_not_zero (slice_index a place) (value_at a cell k place h i e))

  pub first_same : IsEntryCell a cell → slice_index b (cell + 1) ≡ slice_index a (cell + 1)
  first_same h = let t = entry_two a cell h in part_same 0 (cell + 1) h.0 (omega arith) (omega arith)

  pub second_same : IsEntryCell a cell → slice_index b (cell + 2) ≡ slice_index a (cell + 2)
  second_same h = let t = entry_two a cell h in part_same 1 (cell + 2) h.0 (omega arith) (omega arith)

  shape_grows : IsWhole a cell → HasShape (slice_index b cell) (slice_index b (cell + 1)) (slice_index b (cell + 2))
  shape_grows h =
      let e = header_same h in
      let tag : tag_of (slice_index b cell) ≡ tag_of (slice_index a cell) = ap tag_of e in
      let load : payload_of (slice_index b cell) ≡ payload_of (slice_index a cell) = ap payload_of e in (
        (λ t. let u : tag_of (slice_index a cell) ≡ 9 = sym tag ∙ t in let s = h.shape.0 u in let entry : IsEntryCell a cell = (h, (omega arith, omega arith)) in (load ∙ s.0, subst IsPidWord (sym (first_same entry)) s.1, subst IsPidWord (sym (second_same entry)) s.2)),
        (λ t. let u : tag_of (slice_index a cell) ≡ 10 = sym tag ∙ t in let s = h.shape.1 u in let entry : IsEntryCell a cell = (h, (omega arith, omega arith)) in (subst (λ (n : ℕ). 2 ≤ n) (sym load) s.0, subst IsPidWord (sym (first_same entry)) s.1, subst IsCountWord (sym (second_same entry)) s.2)),
        (λ t. let u : tag_of (slice_index a cell) ≡ 11 = sym tag ∙ t in let s = h.shape.2 u in let entry : IsEntryCell a cell = (h, (omega arith, omega arith)) in (load ∙ s.0, subst IsPidWord (sym (first_same entry)) s.1, subst IsCountWord (sym (second_same entry)) s.2)),
      )

  pub whole_grows : IsWhole a cell → IsWhole b cell
  whole_grows h = record {
    header = subst IsHeader (sym (header_same h)) h.header;
    values = λ k i. let i' : k < following (slice_index a cell) = subst (λ (w : ℕ). k < following w) (header_same h) i in subst IsValue (sym (part_same k (cell + 1 + k) h i' refl)) (h.values k i');
    shape = shape_grows h;
  }

  pub term_grows : IsTermCell a cell → IsTermCell b cell
  term_grows h = (whole_grows h.0, subst IsTermHeader (sym (header_same h.0)) h.1)

  pub entry_grows : IsEntryCell a cell → IsEntryCell b cell
  entry_grows h = (whole_grows h.0, subst IsEntryHeader (sym (header_same h.0)) h.1)

-- what an entry tells of its actor, its kind and its text stays
pub header_grows : (a b : List ℕ) (w : ℕ) → Grown a b → IsEntryCell a (payload_of w) → header_at b w ≡ header_at a w
header_grows a b w g h = g (payload_of w) (header_not_zero (slice_index a (payload_of w)) h.0.header)

pub actor_grows : (a b : List ℕ) (w : ℕ) → Grown a b → IsEntryCell a (payload_of w) → actor_of b w ≡ actor_of a w
actor_grows a b w g h = ap payload_of (first_same a b (payload_of w) g h)

pub text_grows : (a b : List ℕ) (w : ℕ) → Grown a b → IsEntryCell a (payload_of w) → text_of b w ≡ text_of a w
text_grows a b w g h = ap payload_of (second_same a b (payload_of w) g h)
