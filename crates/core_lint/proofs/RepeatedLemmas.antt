-- Whether a variable stands twice in a list.
use Rattle.std.proofs.Common.{◌≡◌, ℕ, suc, ◌+◌, ◌<◌, ◌==◌, ◌||◌, nat_eq, not, Bool, true, false, List, [], ◌∷◌, ◌++◌, drop, length, ◌⊎◌, inl, inr, refl, sym, ap, ◌∙◌, eq-eqb, eqb-true, arith}
use Rattle.std.proofs.Math.Seq.{drop-cons}
use Rattle.std.specs.List.{list_any, slice_index_or}
use Rattle.hy_core.specs.NodeFaults.{Repeats, first_again, behind_first}
use Rattle.core_walk.specs.Bound.{is_bound}
use Rattle.core_lint.specs.code.RepeatedVariables.{repeats, repeats_after}
use Rattle.core_walk.proofs.BoundLemmas.{is_bound-Contains, Contains-is_bound}

pub eqb-sym : (x y : ℕ) → (x == y) ≡ (y == x)
eqb-sym x y = by (x == y) refl (y == x) refl
  where
    by : (a : Bool) → (x == y) ≡ a → (b : Bool) → (y == x) ≡ b → a ≡ b
    by true p true q = refl
    by true p false q = absurd (cc (eq-eqb y x (sym (eqb-true x y p)), q))
    by false p true q = absurd (cc (eq-eqb x y (sym (eqb-true y x q)), p))
    by false p false q = refl

any-is_bound : (ys : List ℕ) (x : ℕ) → list_any (nat_eq x) ys ≡ is_bound ys x
any-is_bound [] x = refl
any-is_bound (y ∷ ys) x = λ i. eqb-sym x y i || any-is_bound ys x i

pub not-true : (b : Bool) → not b ≡ true → b ≡ false
not-true true e = sym e
not-true false e = refl

not-false : (b : Bool) → not b ≡ false → b ≡ true
not-false true e = refl
not-false false e = sym e

pub or-true : (b : Bool) → (b || true) ≡ true
or-true true = refl
or-true false = refl

-- a variable that was seen
pub seen_again : (seen xs : List ℕ) (i : ℕ) → i < length xs → not (list_any (nat_eq (slice_index_or xs i 0)) seen) ≡ false → repeats_after seen (drop i xs) ≡ true
seen_again seen xs i below e =
    let x = slice_index_or xs i 0 in
    let rest = repeats_after (seen ++ x ∷ []) (drop (suc i) xs) in
    ap (repeats_after seen) (drop-cons xs i 0 below) ∙ ap (λ b. b || rest) (sym (any-is_bound seen x) ∙ not-false _ e)

-- a variable that wasn't
pub not_seen : (seen xs : List ℕ) (i : ℕ) → i < length xs → not (list_any (nat_eq (slice_index_or xs i 0)) seen) ≡ true → repeats_after seen (drop i xs) ≡ repeats_after (seen ++ slice_index_or xs i 0 ∷ []) (drop (i + 1) xs)
not_seen seen xs i below e =
    let x = slice_index_or xs i 0 in
    let rest = repeats_after (seen ++ x ∷ []) (drop (suc i) xs) in
    let next : suc i ≡ i + 1 = omega arith in
    ap (repeats_after seen) (drop-cons xs i 0 below) ∙ ap (λ b. b || rest) (sym (any-is_bound seen x) ∙ not-true _ e) ∙ ap (λ n. repeats_after (seen ++ x ∷ []) (drop n xs)) next

bound_last : (xs : List ℕ) (y x : ℕ) → is_bound (xs ++ y ∷ []) x ≡ (is_bound xs x || (y == x))
bound_last [] y x = by (y == x)
  where
    by : (b : Bool) → (b || false) ≡ b
    by true = refl
    by false = refl
bound_last (z ∷ zs) y x = ap (λ b. (z == x) || b) (bound_last zs y x) ∙ by (z == x)
  where
    by : (b : Bool) → (b || (is_bound zs x || (y == x))) ≡ ((b || is_bound zs x) || (y == x))
    by true = refl
    by false = refl

-- a variable that was seen and stands in the list
seen_later : (seen xs : List ℕ) (x : ℕ) → is_bound seen x ≡ true → is_bound xs x ≡ true → repeats_after seen xs ≡ true
seen_later seen [] x s e = absurd cc
seen_later seen (y ∷ ys) x s e = by (y == x) refl e (λ b. seen_later (seen ++ y ∷ []) ys x (bound_last seen y x ∙ ap (λ b. b || (y == x)) s) b)
  where
    by : (b : Bool) → (y == x) ≡ b → (b || is_bound ys x) ≡ true → (is_bound ys x ≡ true → repeats_after (seen ++ y ∷ []) ys ≡ true) → (is_bound seen y || repeats_after (seen ++ y ∷ []) ys) ≡ true
    by true p e later = ap (λ b. b || repeats_after (seen ++ y ∷ []) ys) (ap (is_bound seen) (eqb-true y x p) ∙ s)
    by false p e later = ap (λ b. is_bound seen y || b) (later e) ∙ or-true (is_bound seen y)

repeats_later : (seen xs : List ℕ) → Repeats xs → repeats_after seen xs ≡ true
repeats_later seen [] h = elim h [ ]
repeats_later seen (x ∷ xs) (first_again h) =
    ap (λ b. is_bound seen x || b) (seen_later (seen ++ x ∷ []) xs x (bound_last seen x x ∙ ap (λ b. is_bound seen x || b) (eq-eqb x x refl) ∙ or-true (is_bound seen x)) (Contains-is_bound xs x h)) ∙ or-true (is_bound seen x)
repeats_later seen (x ∷ xs) (behind_first h) = ap (λ b. is_bound seen x || b) (repeats_later (seen ++ x ∷ []) xs h) ∙ or-true (is_bound seen x)

-- the test says that a variable was seen, or stands twice
repeats_either : (seen xs : List ℕ) → repeats_after seen xs ≡ true → ((x : ℕ) × (is_bound seen x ≡ true) × (is_bound xs x ≡ true)) ⊎ Repeats xs
repeats_either seen [] e = absurd cc
repeats_either seen (y ∷ ys) e = by (is_bound seen y) refl e (repeats_either (seen ++ y ∷ []) ys)
  where
    split : (x : ℕ) → (b : Bool) → (y == x) ≡ b → is_bound (seen ++ y ∷ []) x ≡ true → is_bound ys x ≡ true → ((x : ℕ) × (is_bound seen x ≡ true) × ((y == x) || is_bound ys x) ≡ true) ⊎ Repeats (y ∷ ys)
    split x true p s h = inr (first_again (is_bound-Contains ys y (ap (is_bound ys) (eqb-true y x p) ∙ h)))
    split x false p s h = inl (x, or-false (is_bound seen x) (ap (λ b. is_bound seen x || b) (sym p) ∙ sym (bound_last seen y x) ∙ s), ap (λ b. b || is_bound ys x) p ∙ h)
      where
        or-false : (b : Bool) → (b || false) ≡ true → b ≡ true
        or-false true e = refl
        or-false false e = e

    on : ((x : ℕ) × (is_bound (seen ++ y ∷ []) x ≡ true) × (is_bound ys x ≡ true)) ⊎ Repeats ys → ((x : ℕ) × (is_bound seen x ≡ true) × ((y == x) || is_bound ys x) ≡ true) ⊎ Repeats (y ∷ ys)
    on (inl h) = split h.0 (y == h.0) refl h.1 h.2
    on (inr h) = inr (behind_first h)

    by : (b : Bool) → is_bound seen y ≡ b → (b || repeats_after (seen ++ y ∷ []) ys) ≡ true → (repeats_after (seen ++ y ∷ []) ys ≡ true → ((x : ℕ) × (is_bound (seen ++ y ∷ []) x ≡ true) × (is_bound ys x ≡ true)) ⊎ Repeats ys)
        → ((x : ℕ) × (is_bound seen x ≡ true) × ((y == x) || is_bound ys x) ≡ true) ⊎ Repeats (y ∷ ys)
    by true p e later = inl (y, p, ap (λ b. b || is_bound ys y) (eq-eqb y y refl))
    by false p e later = on (later e)

pub repeats-Repeats : (xs : List ℕ) → repeats xs ≡ true → Repeats xs
repeats-Repeats xs e = by (repeats_either [] xs e)
  where
    by : ((x : ℕ) × (is_bound [] x ≡ true) × (is_bound xs x ≡ true)) ⊎ Repeats xs → Repeats xs
    by (inl h) = absurd (cc (h.1))
    by (inr h) = h

pub Repeats-repeats : (xs : List ℕ) → Repeats xs → repeats xs ≡ true
Repeats-repeats = repeats_later []
