-- The first place at which a test holds gives the first fault, in a list and in modules one after another.
use Rattle.std.proofs.Common.{◌≡◌, ℕ, zero, suc, ◌+◌, ◌<◌, Bool, true, false, if◌then◌else◌, List, [], ◌∷◌, Option, Some, None, slice_get, refl, sym, ap, ◌∙◌, subst, arith}
use Rattle.hy_core.specs.Faults.{IsUpTo, lower, same, form_place, order_of}
use Rattle.hy_core.specs.declared.fault.LintFault.{LintFault}
use Rattle.hy_core.specs.declared.tree.Module.{Module}
use Rattle.core_walk.specs.First.{IsFirst, or_later}
use Rattle.core_lint.specs.code.FirstPlace.{fault_at, first_by_module, first_where}
use Rattle.core_walk.proofs.FirstLemmas.{upto_same}

module _ {A : Type 0} (test : ℕ → A → Bool) where
  -- the test holds of the item of this place, counted from k on
  abbrev pub HoldsAt : ℕ → List A → ℕ → Type 0
  HoldsAt k xs d = (x : A) × (slice_get xs d ≡ Some x) × (test (k + d) x ≡ true)

  module _ (fault : ℕ → LintFault) where
    abbrev pub IsFaultAt : ℕ → List A → LintFault → Type 0
    IsFaultAt k xs y = (d : ℕ) × HoldsAt k xs d × (y ≡ fault (k + d))

    here : (k : ℕ) (x : A) (xs : List A) → test k x ≡ true → IsFaultAt k (x ∷ xs) (fault k)
    here k x xs e = let z : k ≡ k + 0 = omega arith in (0, (x, refl, subst (λ n. test n x ≡ true) z e), ap fault z)

    behind : (k : ℕ) (x : A) (xs : List A) (y : LintFault) → IsFaultAt (suc k) xs y → IsFaultAt k (x ∷ xs) y
    behind k x xs y h = let z : suc k + h.0 ≡ k + suc h.0 = omega arith in (suc h.0, (h.1.0, h.1.1, subst (λ n. test n h.1.0 ≡ true) z h.1.2), h.2 ∙ ap fault z)

    later : (k : ℕ) (x : A) (xs : List A) (y : LintFault) → test k x ≡ false → IsFaultAt k (x ∷ xs) y → IsFaultAt (suc k) xs y
    later k x xs y e (zero, (w, at, holds), is) =
        let s : x ≡ w = cc in
        let z : k + 0 ≡ k = omega arith in
        absurd (cc (e, ap (test k) s, subst (λ n. test n w ≡ true) z holds))
    later k x xs y e (suc d, (w, at, holds), is) =
        let z : k + suc d ≡ suc k + d = omega arith in
        (d, (w, at, subst (λ n. test n w ≡ true) z holds), is ∙ ap fault z)

    module _ (rising : (i j : ℕ) → i < j → IsUpTo (order_of (fault i)) (order_of (fault j))) where
      least : (k : ℕ) (xs : List A) (y : LintFault) → IsFaultAt k xs y → IsUpTo (order_of (fault k)) (order_of y)
      least k xs y (zero, h, is) =
          let z : k + 0 ≡ k = omega arith in
          subst (λ y. IsUpTo (order_of (fault k)) (order_of y)) (sym (is ∙ ap fault z)) (upto_same (order_of (fault k)))
      least k xs y (suc d, h, is) = subst (λ y. IsUpTo (order_of (fault k)) (order_of y)) (sym is) (rising k (k + suc d) (omega arith))

      pub place_first : (k : ℕ) (xs : List A) → IsFirst (IsFaultAt k xs) (fault_at fault (first_where test k xs))
      place_first k [] = none
        where
          none : (y : LintFault) → IsFaultAt k [] y → ⊥
          none y h = absurd (cc (h.1.1))
      place_first k (x ∷ xs) = by (test k x) refl (first_where test (suc k) xs) (place_first (suc k) xs)
        where
          by : (b : Bool) → test k x ≡ b → (rest : Option ℕ) → IsFirst (IsFaultAt (suc k) xs) (fault_at fault rest) → IsFirst (IsFaultAt k (x ∷ xs)) (fault_at fault (if b then Some k else rest))
          by true e rest h = (here k x xs e, λ y q. least k (x ∷ xs) y q)
          by false e None h = λ y q. h y (later k x xs y e q)
          by false e (Some j) h = (behind k x xs (fault j) h.0, λ y q. h.1 y (later k x xs y e q))

  -- whether there is such a place
  pub some_holds : (k : ℕ) (xs : List A) (j : ℕ) → first_where test k xs ≡ Some j → (d : ℕ) × HoldsAt k xs d
  some_holds k [] j e = absurd cc
  some_holds k (x ∷ xs) j e = by (test k x) refl e (some_holds (suc k) xs j)
    where
      by : (b : Bool) → test k x ≡ b → (if b then Some k else first_where test (suc k) xs) ≡ Some j → (first_where test (suc k) xs ≡ Some j → (d : ℕ) × HoldsAt (suc k) xs d) → (d : ℕ) × HoldsAt k (x ∷ xs) d
      by true t e behind = let z : k ≡ k + 0 = omega arith in (0, (x, refl, subst (λ n. test n x ≡ true) z t))
      by false t e behind =
          let h = behind e in
          let z : suc k + h.0 ≡ k + suc h.0 = omega arith in
          (suc h.0, (h.1.0, h.1.1, subst (λ n. test n h.1.0 ≡ true) z h.1.2))

  pub none_holds : (k : ℕ) (xs : List A) → first_where test k xs ≡ None → (d : ℕ) → HoldsAt k xs d → ⊥
  none_holds k [] e d h = absurd (cc (h.1))
  none_holds k (x ∷ xs) e d h = by (test k x) refl e (none_holds (suc k) xs) d h
    where
      by : (b : Bool) → test k x ≡ b → (if b then Some k else first_where test (suc k) xs) ≡ None → (first_where test (suc k) xs ≡ None → (d : ℕ) → HoldsAt (suc k) xs d → ⊥) → (d : ℕ) → HoldsAt k (x ∷ xs) d → ⊥
      by true t e behind d h = absurd cc
      by false t e behind zero (w, at, holds) =
          let s : x ≡ w = cc in
          let z : k + 0 ≡ k = omega arith in
          absurd (cc (t, ap (test k) s, subst (λ n. test n w ≡ true) z holds))
      by false t e behind (suc d) (w, at, holds) = let z : k + suc d ≡ suc k + d = omega arith in behind e d (w, at, subst (λ n. test n w ≡ true) z holds)

-- a fault in the module of one of these places, counted from i on
abbrev pub InModules : (ℕ → Module → LintFault → Type 0) → ℕ → List Module → LintFault → Type 0
InModules In i ms y = (d : ℕ) × (m : Module) × (slice_get ms d ≡ Some m) × In (i + d) m y

-- Faults of one kind, each in the module of its place.
module _ (kind : ℕ) (In : ℕ → Module → LintFault → Type 0) (first : ℕ → Module → Option LintFault)
    (is_first : (i : ℕ) (m : Module) → IsFirst (In i m) (first i m)) (placed : (i : ℕ) (m : Module) (y : LintFault) → In i m y → (y.kind ≡ kind) × (y.«module» ≡ i)) where
  this_module : (i : ℕ) (m : Module) (ms : List Module) (y : LintFault) → In i m y → InModules In i (m ∷ ms) y
  this_module i m ms y h = let z : i ≡ i + 0 = omega arith in (0, m, refl, subst (λ n. In n m y) z h)

  further : (i : ℕ) (m : Module) (ms : List Module) (y : LintFault) → InModules In (suc i) ms y → InModules In i (m ∷ ms) y
  further i m ms y h = let z : suc i + h.0 ≡ i + suc h.0 = omega arith in (suc h.0, h.1, h.2, subst (λ n. In n h.1 y) z h.3)

  -- the module is this one or a later one
  split : (i : ℕ) (m : Module) (ms : List Module) (y : LintFault) (C : Type 0) → InModules In i (m ∷ ms) y → (In i m y → C) → (InModules In (suc i) ms y → C) → C
  split i m ms y C (zero, n, at, h) here later =
      let s : m ≡ n = cc in
      let z : i + 0 ≡ i = omega arith in
      here (subst (λ n. In i n y) (sym s) (subst (λ k. In k n y) z h))
  split i m ms y C (suc d, n, at, h) here later = let z : i + suc d ≡ suc i + d = omega arith in later (d, n, at, subst (λ k. In k n y) z h)

  before : (i d : ℕ) (m n : Module) (x y : LintFault) → In i m x → In d n y → i < d → IsUpTo (order_of x) (order_of y)
  before i d m n x y p q below =
      let u = placed i m x p in
      let v = placed d n y q in
      subst (λ k. IsUpTo (order_of x) (k ∷ y.«module» ∷ y.function ∷ y.node ∷ form_place y.form ∷ [])) (u.0 ∙ sym v.0) (same (lower (omega (arith, below, u.1, v.1))))

  pub modules_first : (i : ℕ) (ms : List Module) → IsFirst (InModules In i ms) (first_by_module first i ms)
  modules_first i [] = none
    where
      none : (y : LintFault) → InModules In i [] y → ⊥
      none y h = absurd (cc (h.2))
  modules_first i (m ∷ ms) = by (first i m) (is_first i m) (first_by_module first (suc i) ms) (modules_first (suc i) ms)
    where
      least : (x : LintFault) → In i m x → ((y : LintFault) → In i m y → IsUpTo (order_of x) (order_of y)) → (y : LintFault) → InModules In i (m ∷ ms) y → IsUpTo (order_of x) (order_of y)
      least x p h y q = split i m ms y (IsUpTo (order_of x) (order_of y)) q (λ r. h y r) (λ r. before i (suc i + r.0) m r.1 x y p r.3 (omega arith))

      by : (o : Option LintFault) → IsFirst (In i m) o → (rest : Option LintFault) → IsFirst (InModules In (suc i) ms) rest → IsFirst (InModules In i (m ∷ ms)) (or_later o rest)
      by (Some x) h rest l = (this_module i m ms x h.0, λ y q. least x h.0 h.1 y q)
      by None h None l = λ y q. split i m ms y ⊥ q (λ r. h y r) (λ r. l y r)
      by None h (Some x) l = (further i m ms x l.0, λ y q. split i m ms y (IsUpTo (order_of x) (order_of y)) q (λ r. absurd (h y r)) (λ r. l.1 y r))
