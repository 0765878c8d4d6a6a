-- The fields of a term, and how high they are.
use Rattle.std.proofs.Common.{◌≡◌, ℕ, zero, suc, ◌+◌, ◌<◌, ◌≤◌, max, List, [], ◌∷◌, map, refl, ap, arith}
use Rattle.std.specs.Prelude.{slice_get, Some}
use Rattle.hy_terms.specs.Labelled.{Labelled, Labels, labels_of}
use Rattle.hy_terms.specs.Labelled as l
use Rattle.hy_terms.specs.declared.term.Colour.{Colour}
use Rattle.hy_words.specs.Fields.{each_of, fields_of}
use Rattle.hy_words.specs.Heights.{height, greatest_height, greatest_of}
use Rattle.hy_words.proofs.Standing.{IsNode, a_cons, a_tuple}

pub each_labels : (ts : List Labelled) → each_of (labels_of ts) ≡ ts
each_labels [] = refl
each_labels (t ∷ ts) = ap (λ (us : List Labelled). t ∷ us) (each_labels ts)

-- a cons or a tuple
abbrev pub HasCell : Labelled → Type 0
HasCell (l.Cons site colour head tail) = Unit {0}
HasCell (l.Tuple site colour parts) = Unit {0}
HasCell _ = ⊥

pub node_has_cell : (heap area : List ℕ) (colour : Colour) (place : ℕ) (t : Labelled) → IsNode heap area colour place t → HasCell t
node_has_cell heap area colour place t (a_cons site head tail r h q) = tt
node_has_cell heap area colour place t (a_tuple site parts r n h q) = tt

greatest_each : (ts : Labels) → greatest_height ts ≡ greatest_of (map height (each_of ts))
greatest_each l.NoLabels = refl
greatest_each (l.MoreLabels t ts) = ap (max (height t)) (greatest_each ts)

-- a term is one higher than its highest field
pub height_by_fields : (t : Labelled) → height t ≡ 1 + greatest_of (map height (fields_of t))
height_by_fields (l.Int n) = refl
height_by_fields (l.Atom a) = refl
height_by_fields (l.Pid p) = refl
height_by_fields l.Nil = refl
height_by_fields (l.Cons site colour head tail) =
    let a : ℕ = height head in let b : ℕ = height tail in let z : 1 + max a b ≡ 1 + max a (max b 0) = omega arith in z
height_by_fields (l.Tuple site colour parts) = ap (λ (n : ℕ). 1 + n) (greatest_each parts)

among : (ts : List Labelled) (u : Labelled) (i : ℕ) → slice_get ts i ≡ Some u → height u ≤ greatest_of (map height ts)
among [] u i e = absurd cc
among (t ∷ ts) u zero e =
    let same : t ≡ u = cc in let h : height t ≡ height u = ap height same in
    let a : ℕ = height t in let b : ℕ = greatest_of (map height ts) in let z : height u ≤ max a b = omega arith in z
among (t ∷ ts) u (suc i) e =
    let rest = among ts u i e in
    let a : ℕ = height t in let b : ℕ = greatest_of (map height ts) in let z : height u ≤ max a b = omega arith in z

-- and so each field is lower
pub field_lower : (t field : Labelled) (i : ℕ) → slice_get (fields_of t) i ≡ Some field → height field < height t
field_lower t field i e = let h = height_by_fields t in let a = among (fields_of t) field i e in omega arith
