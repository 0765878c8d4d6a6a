-- Two lists with the same members, each once, add up to the same.
use Rattle.std.proofs.Common.{◌≡◌, ◌≢◌, ℕ, zero, suc, ◌+◌, List, [], ◌∷◌, sym, refl, ap, ◌∙◌, arith}
use mathlib.Core.Option.{some, some-injective, some-ne-none}
use lib.ListN.{get_elem?}
use Rattle.hy_words.specs.Lists.{total}
use Rattle.commons.proofs.Rows.{Once}

module _ {A : Type 0} (key : A → ℕ) where
  abbrev pub Within : List A → List A → Type 0
  Within xs ys = (j : ℕ) (a : A) → get_elem? xs j ≡ some a → (k : ℕ) × (get_elem? ys k ≡ some a)

  abbrev without : List A → ℕ → List A
  without [] k = []
  without (x ∷ xs) zero = xs
  without (x ∷ xs) (suc k) = x ∷ without xs k

  -- the place in the whole list of the place j of the list without place k
  abbrev past : ℕ → ℕ → ℕ
  past zero j = suc j
  past (suc k) zero = zero
  past (suc k) (suc j) = suc (past k j)

  past_other : (k j : ℕ) → past k j ≢ k
  past_other zero j e = omega arith
  past_other (suc k) zero e = omega arith
  past_other (suc k) (suc j) e = past_other k j (omega arith)

  past_once : (k i j : ℕ) → past k i ≡ past k j → i ≡ j
  past_once zero i j e = omega arith
  past_once (suc k) zero zero e = refl
  past_once (suc k) zero (suc j) e = absurd (omega arith)
  past_once (suc k) (suc i) zero e = absurd (omega arith)
  past_once (suc k) (suc i) (suc j) e = ap suc (past_once k i j (omega arith))

  total_without : (f : A → ℕ) (l : List A) (k : ℕ) (a : A) → get_elem? l k ≡ some a → total f l ≡ f a + total f (without l k)
  total_without f [] k a e = absurd (some-ne-none a (sym e))
  total_without f (x ∷ xs) zero a e = ap (λ (y : A). f y + total f xs) (some-injective x a e)
  total_without f (x ∷ xs) (suc k) a e = let h = total_without f xs k a e in let t : ℕ = total f xs in let u : ℕ = total f (without xs k) in let h' : t ≡ f a + u = h in let g : f x + t ≡ f a + (f x + u) = omega arith in g

  at_without : (l : List A) (k j : ℕ) (a : A) → get_elem? (without l k) j ≡ some a → get_elem? l (past k j) ≡ some a
  at_without [] k j a e = absurd (some-ne-none a (sym e))
  at_without (x ∷ xs) zero j a e = e
  at_without (x ∷ xs) (suc k) zero a e = e
  at_without (x ∷ xs) (suc k) (suc j) a e = at_without xs k j a e

  kept_without : (l : List A) (k j : ℕ) (a : A) → j ≢ k → get_elem? l j ≡ some a → (i : ℕ) × (get_elem? (without l k) i ≡ some a)
  kept_without [] k j a n e = absurd (some-ne-none a (sym e))
  kept_without (x ∷ xs) zero zero a n e = absurd (n refl)
  kept_without (x ∷ xs) zero (suc j) a n e = (j, e)
  kept_without (x ∷ xs) (suc k) zero a n e = (zero, e)
  kept_without (x ∷ xs) (suc k) (suc j) a n e = let h = kept_without xs k j a (λ z. n (ap suc z)) e in (suc h.0, h.1)

  pub same_total : (f : A → ℕ) (xs ys : List A) → Once key xs → Once key ys → Within xs ys → Within ys xs → total f xs ≡ total f ys
  same_total f [] [] p q g h = refl
  same_total f [] (y ∷ ys) p q g h = absurd (some-ne-none y (sym (h 0 y refl).1))
  same_total f (x ∷ xs) ys p q g h =
      let at = g 0 x refl in
      let k : ℕ = at.0 in
      let rest : List A = without ys k in
      let once : Once key rest = λ i j a b e e' same. past_once k i j (q (past k i) (past k j) a b (at_without ys k i a e) (at_without ys k j b e') same) in
      let within : Within xs rest = λ j a e. let t = g (suc j) a e in kept_without ys k t.0 a (λ z. let same : a ≡ x = some-injective a x (sym t.1 ∙ (ap (get_elem? ys) z ∙ at.1)) in let n = p (suc j) 0 a x e refl (ap key same) in omega arith) t.1 in
      let back : Within rest xs = λ j a e. let there = at_without ys k j a e in by_place xs x (h (past k j) a there).0 a (h (past k j) a there).1 (λ same. past_other k j (q (past k j) k a x there at.1 (ap key (sym same)))) in
      ap (λ (n : ℕ). f x + n) (same_total f xs rest (λ i j a b e e' same. let n = p (suc i) (suc j) a b e e' same in omega arith) once within back) ∙ sym (total_without f ys k x at.1)
    where
      by_place : (xs : List A) (x : A) (i : ℕ) (a : A) → get_elem? (x ∷ xs) i ≡ some a → (x ≡ a → ⊥) → (j : ℕ) × (get_elem? xs j ≡ some a)
      by_place xs x zero a e n = absurd (n (some-injective x a e))
      by_place xs x (suc i) a e n = (i, e)
