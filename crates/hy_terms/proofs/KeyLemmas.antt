-- A text among the keys of an index set, and in the table that they are.
use Rattle.std.proofs.Common.{◌≡◌, ℕ, zero, suc, ◌+◌, Bool, true, false, not, cond, List, [], ◌∷◌, length, map, slice_get, Some, None, nat_lt, position, refl, sym, ap, ◌∙◌, arith}
use Rattle.std.proofs.lemmas.Bool.Decides.{nat_tests, same_from_decides}
use Rattle.std.proofs.lemmas.Map.Keys.{IsDistinct-head, IsDistinct-tail}
use Rattle.std.proofs.lemmas.Slice.Eq.{bytes_eq-Decides}
use Rattle.std.specs.List.{position_or_len, list_any, AllByRecursion, IsDistinct}
use Rattle.std.specs.Str.{bytes_eq}
use Rattle.hy_terms.specs.Naming.{one_on, place_in}
use Rattle.hy_terms.proofs.NamingLemmas.{bytes_eq-same, one_on-None}

position-cons : {X : Type 0} (p : X → Bool) (x : X) (xs : List X) → position p (x ∷ xs) ≡ cond (p x) (Some 0) (one_on (position p xs))
position-cons p x xs = by (p x) (position_or_len p xs)
  where
    by : (b : Bool) (n : ℕ) → cond (nat_lt (cond (not b) (1 + n) 0) (length (x ∷ xs))) (Some (cond (not b) (1 + n) 0)) None ≡ cond b (Some 0) (one_on (cond (nat_lt n (length xs)) (Some n) None))
    by true n = grind (arith, nat_tests)
    by false n = step (nat_lt n (length xs)) refl
      where
        step : (b : Bool) → nat_lt n (length xs) ≡ b → cond (nat_lt (1 + n) (length (x ∷ xs))) (Some (1 + n)) None ≡ one_on (cond (nat_lt n (length xs)) (Some n) None)
        step true e = grind (arith, nat_tests)
        step false e = grind (arith, nat_tests)

bytes_eq-swap : (a b : List ℕ) → bytes_eq a b ≡ bytes_eq b a
bytes_eq-swap a b = same_from_decides _ _ (bytes_eq-Decides a b) (let d = bytes_eq-Decides b a in (λ e. sym (d.0 e), λ e. d.1 (sym e)))

module _ {X : Type 0} (items : X → List ℕ) where
  module _ (text : List ℕ) where
    -- the place of a text among the items of the keys
    pub place_in-map : (xs : List X) → position (λ x. bytes_eq text (items x)) xs ≡ place_in (map items xs) text
    place_in-map [] = refl
    place_in-map (x ∷ xs) =
        position-cons (λ x. bytes_eq text (items x)) x xs
        ∙ (λ i. cond (bytes_eq-swap text (items x) i) (Some 0) (one_on (place_in-map xs i)))

    absent_first : (x : X) (xs : List X) → place_in (map items (x ∷ xs)) text ≡ None → (bytes_eq text (items x) ≡ false) × (place_in (map items xs) text ≡ None)
    absent_first x xs = by (bytes_eq (items x) text) refl
      where
        by : (b : Bool) → bytes_eq (items x) text ≡ b → cond b (Some 0) (one_on (place_in (map items xs) text)) ≡ None → (bytes_eq text (items x) ≡ false) × (place_in (map items xs) text ≡ None)
        by true e h = absurd cc
        by false e h = (bytes_eq-swap text (items x) ∙ e, one_on-None _ h)

    -- no key has a text that has no place
    pub list_any-absent : (xs : List X) → place_in (map items xs) text ≡ None → list_any (λ x. bytes_eq text (items x)) xs ≡ false
    list_any-absent [] h = refl
    list_any-absent (x ∷ xs) h = let a = absent_first x xs h in rw a.0 (list_any-absent xs a.1)

  -- a key that differs from each of the others has another text than they
  differs : (x : X) (xs : List X) → AllByRecursion (λ y. bytes_eq (items x) (items y) ≡ false) xs → (k : ℕ) (text : List ℕ) → slice_get (map items xs) k ≡ Some text → bytes_eq (items x) text ≡ false
  differs x [] h k text at = absurd cc
  differs x (y ∷ ys) h zero text at = let e : items y ≡ text = cc in ap (bytes_eq (items x)) (sym e) ∙ h.0
  differs x (y ∷ ys) h (suc k) text at = differs x ys h.1 k text at

  -- the texts of distinct keys stand where they are found
  pub place_in-distinct : (xs : List X) → IsDistinct (λ x y. bytes_eq (items x) (items y)) xs → (k : ℕ) (text : List ℕ) → slice_get (map items xs) k ≡ Some text → place_in (map items xs) text ≡ Some k
  place_in-distinct [] h k text at = absurd cc
  place_in-distinct (x ∷ xs) h zero text at =
      let e : items x ≡ text = cc in
      rw (ap (bytes_eq (items x)) (sym e) ∙ bytes_eq-same (items x)) refl
  place_in-distinct (x ∷ xs) h (suc k) text at =
      rw (differs x xs (IsDistinct-head _ x xs h) k text at) (ap one_on (place_in-distinct xs (IsDistinct-tail _ x xs h) k text at))
