-- The places of variables, as they are bound and left.
use Rattle.std.proofs.Common.{◌≡◌, ℕ, suc, ◌+◌, ◌-◌, ◌<◌, ◌≤◌, ◌==◌, ◌&&◌, Bool, true, false}
use Rattle.std.proofs.Common.{List, [], ◌∷◌, ◌++◌, length, drop, get_or, reverse}
use Rattle.std.proofs.Common.{refl, ap, ◌∙◌, arith, length-drop, eq-eqb}
use Rattle.std.specs.Prelude.{if◌then◌else◌, nat_lt}
use Rattle.std.proofs.lemmas.Bool.{ltb-false, ne_eqb}
use Rattle.std.proofs.lemmas.List.{reverse-append, drop-drop}
use Rattle.captured_facts.specs.Facts.{first_place, place_by}
use Rattle.captured_facts.proofs.Places.{place_below}
use Rattle.captured_variables.specs.code.Places.{HasPlaces}

pub last_first : (xs : List ℕ) (x : ℕ) → reverse (xs ++ x ∷ []) ≡ x ∷ reverse xs
last_first xs x = reverse-append xs (x ∷ [])

pub places_same : (l m scope : List ℕ) → ((x : ℕ) → get_or m x 0 ≡ get_or l x 0)
    → HasPlaces l scope → HasPlaces m scope
places_same l m scope s h = record { at = λ x. s x ∙ h.at x }

-- with one more variable, and with one less
pub marked : (l m scope : List ℕ) (y n : ℕ) → HasPlaces l scope → n ≡ suc (length scope)
    → ((x : ℕ) → get_or m x 0 ≡ place_by (get_or l x 0) (if x == y then n else 0))
    → HasPlaces m (y ∷ scope)
marked l m scope y n h e now = record {
  at = λ x. now x ∙ (λ i. place_by (h.at x i) (if x == y then e i else 0));
}

pub unmarked : (l m scope : List ℕ) (y n : ℕ) → HasPlaces l (y ∷ scope) → n ≡ suc (length scope)
    → ((x : ℕ) → get_or m x 0
    ≡ (if (x == y) && (get_or l x 0 == n) then 0 else get_or l x 0))
    → HasPlaces m scope
unmarked l m scope y n h e now = record {
  at = λ x.
      now x
      ∙ (λ i. if (x == y) && (h.at x i == e i) then 0 else h.at x i)
      ∙ by (first_place scope x) (length scope) (x == y) (nat_lt 0 (first_place scope x)) refl
      (place_below scope x);
}
  where
    other : (p k : ℕ) → p ≤ k → (p == suc k) ≡ false
    other p k h = ne_eqb p (suc k) (λ e. omega (arith, e, h))

    by : (p k : ℕ) (same some : Bool) → nat_lt 0 p ≡ some → p ≤ k
        → (if same && ((if some then p else if same then suc k else 0) == suc k) then 0
        else if some then p else if same then suc k else 0)
        ≡ p
    by p k true true e h = ap (λ b. if b then 0 else p) (other p k h)
    by p k true false e h =
        let none = ltb-false 0 p e in
        ap (λ b. if b then 0 else suc k) (eq-eqb (suc k) (suc k) refl) ∙ omega (arith, none)
    by p k false true e h = refl
    by p k false false e h = let none = ltb-false 0 p e in omega (arith, none)

pub back_step : {A : Type 0} (b b' : List A) (d n : ℕ) → n ≡ length b → d < n → b' ≡ drop 1 b
    → drop (length b' - d) b' ≡ drop (length b - d) b
back_step b b' d n e lt h =
    let l : length b' ≡ length b - 1 = ap length h ∙ length-drop 1 b in
    let m : 1 + (length b' - d) ≡ length b - d = omega (arith, e, lt, l) in
    ap (drop (length b' - d)) h ∙ drop-drop (length b' - d) 1 b ∙ ap (λ k. drop k b) m
