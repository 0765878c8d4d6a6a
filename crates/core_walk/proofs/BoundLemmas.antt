-- How often a variable is bound, and the counts that say so.
use Rattle.std.proofs.Common.{◌≡◌, ℕ, zero, suc, ◌+◌, ◌<◌, ◌≤◌, ◌==◌, ◌||◌, nat_lt, Bool, true, false, if◌then◌else◌, List, [], ◌∷◌, ◌++◌, length, refl, sym, ap, ◌∙◌, arith, eq-eqb, eqb-true, ltb-true, ltb-false, lt-ltb, ◌⊎◌, inl, inr}
use Rattle.std.proofs.lemmas.List.{get_or-set_same, get_or-set_other, get_or_past}
use Rattle.std.proofs.lemmas.Grind.{get_or_default_zero}
use Rattle.std.specs.List.{Contains, slice_index_or, slice_set}
use Rattle.core_walk.specs.Bound.{is_bound, times_bound, Counts}

pub times_bound-append : (xs : List ℕ) (y x : ℕ) → times_bound (xs ++ y ∷ []) x ≡ (if y == x then suc (times_bound xs x) else times_bound xs x)
times_bound-append [] y x = refl
times_bound-append (z ∷ zs) y x = ap (λ n. if z == x then suc n else n) (times_bound-append zs y x) ∙ swapped (z == x) (y == x) (times_bound zs x)
  where
    swapped : (a b : Bool) (n : ℕ) → (if a then suc (if b then suc n else n) else (if b then suc n else n)) ≡ (if b then suc (if a then suc n else n) else (if a then suc n else n))
    swapped true true n = refl
    swapped true false n = refl
    swapped false true n = refl
    swapped false false n = refl

pub times_bound-≤ : (xs : List ℕ) (x : ℕ) → times_bound xs x ≤ length xs
times_bound-≤ [] x = omega arith
times_bound-≤ (y ∷ ys) x = by (y == x) (times_bound ys x) (times_bound-≤ ys x)
  where
    by : (b : Bool) (n : ℕ) → n ≤ length ys → (if b then suc n else n) ≤ suc (length ys)
    by true n h = omega arith
    by false n h = omega arith

-- a variable is bound where it is so at least once
pub is_bound-times : (xs : List ℕ) (x : ℕ) → nat_lt 0 (times_bound xs x) ≡ is_bound xs x
is_bound-times [] x = refl
is_bound-times (y ∷ ys) x = by (y == x) (times_bound ys x) (is_bound ys x) (is_bound-times ys x)
  where
    by : (b : Bool) (n : ℕ) (rest : Bool) → nat_lt 0 n ≡ rest → nat_lt 0 (if b then suc n else n) ≡ (b || rest)
    by true n rest h = lt-ltb 0 (suc n) (omega arith)
    by false n rest h = h

pub times_bound-last : (xs : List ℕ) (x : ℕ) → times_bound (xs ++ x ∷ []) x ≡ suc (times_bound xs x)
times_bound-last xs x = times_bound-append xs x x ∙ ap (λ b. if b then suc (times_bound xs x) else times_bound xs x) (eq-eqb x x refl)

-- another variable, at the end
pub times_bound-other : (xs : List ℕ) (y x : ℕ) → (x ≡ y → ⊥) → times_bound (xs ++ y ∷ []) x ≡ times_bound xs x
times_bound-other xs y x h = times_bound-append xs y x ∙ by (y == x) refl
  where
    by : (b : Bool) → (y == x) ≡ b → (if b then suc (times_bound xs x) else times_bound xs x) ≡ times_bound xs x
    by true e = absurd (h (sym (eqb-true y x e)))
    by false e = refl

-- the counts after a variable is bound, and after the innermost is bound no more
pub counts-bound : (counts xs : List ℕ) (y n : ℕ) → Counts counts xs → y < length counts → n ≡ slice_index_or counts y 0 + 1 → Counts (slice_set counts y n) (xs ++ y ∷ [])
counts-bound counts xs y n h within is = record { at = λ x. by x (y == x) refl }
  where
    by : (x : ℕ) (b : Bool) → (y == x) ≡ b → slice_index_or (slice_set counts y n) x 0 ≡ times_bound (xs ++ y ∷ []) x
    by x true e =
        let same : y ≡ x = eqb-true y x e in
        ap (λ k. slice_index_or (slice_set counts y n) k 0) (sym same) ∙ get_or-set_same counts y n 0 within ∙ is ∙ omega (arith, h.at y) ∙ sym (times_bound-last xs y) ∙ ap (times_bound (xs ++ y ∷ [])) same
    by x false e =
        let other : x ≡ y → ⊥ = λ s. absurd (cc (eq-eqb y x (sym s))) in
        get_or-set_other counts y x n 0 other ∙ h.at x ∙ sym (times_bound-other xs y x other)

pub counts-left : (counts xs : List ℕ) (y n : ℕ) → Counts counts (xs ++ y ∷ []) → y < length counts → n + 1 ≡ slice_index_or counts y 0 → Counts (slice_set counts y n) xs
counts-left counts xs y n h within is = record { at = λ x. by x (y == x) refl }
  where
    by : (x : ℕ) (b : Bool) → (y == x) ≡ b → slice_index_or (slice_set counts y n) x 0 ≡ times_bound xs x
    by x true e =
        let same : y ≡ x = eqb-true y x e in
        ap (λ k. slice_index_or (slice_set counts y n) k 0) (sym same) ∙ get_or-set_same counts y n 0 within ∙ omega (arith, h.at y, times_bound-last xs y) ∙ ap (times_bound xs) same
    by x false e =
        let other : x ≡ y → ⊥ = λ s. absurd (cc (eq-eqb y x (sym s))) in
        get_or-set_other counts y x n 0 other ∙ h.at x ∙ times_bound-other xs y x other

-- a bound variable has a count
pub counts-within : (counts xs : List ℕ) (y : ℕ) → Counts counts (xs ++ y ∷ []) → y < length counts
counts-within counts xs y h =
    let bound = h.at y ∙ times_bound-last xs y in
    elim (split y (length counts)) [ inl within ↦ within | inr past ↦ absurd (suc-≢-zero (times_bound xs y) (sym bound ∙ get_or_past counts y 0 past)) ]
  where
    suc-≢-zero : (n : ℕ) → suc n ≡ 0 → ⊥
    suc-≢-zero n e = omega arith

    split : (a b : ℕ) → (a < b) ⊎ (b ≤ a)
    split a b = by (nat_lt a b) refl
      where
        by : (v : Bool) → nat_lt a b ≡ v → (a < b) ⊎ (b ≤ a)
        by true e = inl (ltb-true a b e)
        by false e = inr (ltb-false a b e)

-- the counts, read at a place that is there
pub counts-read : (counts xs : List ℕ) (y n : ℕ) → Counts counts xs → y < length counts → n ≡ slice_index_or counts y n → n ≡ times_bound xs y
counts-read counts xs y n h within is = is ∙ get_or_default_zero counts y n within ∙ h.at y

-- the counts, where their list has grown
pub counts-grown : (counts more xs : List ℕ) → Counts counts xs → ((y : ℕ) → slice_index_or more y 0 ≡ slice_index_or counts y 0) → Counts more xs
counts-grown counts more xs h same = record { at = λ x. same x ∙ h.at x }

-- the test of whether a variable is bound
pub is_bound-Contains : (xs : List ℕ) (x : ℕ) → is_bound xs x ≡ true → Contains xs x
is_bound-Contains [] x e = absurd cc
is_bound-Contains (y ∷ ys) x e = by (y == x) refl e (is_bound-Contains ys x)
  where
    by : (b : Bool) → (y == x) ≡ b → (b || is_bound ys x) ≡ true → (is_bound ys x ≡ true → Contains ys x) → Contains (y ∷ ys) x
    by true same e behind = (0, omega arith, eqb-true y x same)
    by false other e behind = let h = behind e in (suc h.0, omega (arith, h.1), h.2)

pub Contains-is_bound : (xs : List ℕ) (x : ℕ) → Contains xs x → is_bound xs x ≡ true
Contains-is_bound xs x h = at xs h.0 h.1 h.2
  where
    here : (b rest : Bool) → b ≡ true → (b || rest) ≡ true
    here true rest e = refl
    here false rest e = absurd cc

    later : (b rest : Bool) → rest ≡ true → (b || rest) ≡ true
    later true rest e = refl
    later false rest e = e

    at : (xs : List ℕ) (k : ℕ) → k < length xs → slice_index_or xs k x ≡ x → is_bound xs x ≡ true
    at [] k below is = absurd (omega arith)
    at (y ∷ ys) zero below is = here (y == x) (is_bound ys x) (eq-eqb y x is)
    at (y ∷ ys) (suc k) below is = later (y == x) (is_bound ys x) (at ys k (omega arith) is)
