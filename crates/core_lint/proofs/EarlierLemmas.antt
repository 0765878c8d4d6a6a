-- The lesser of two first faults is the first of both.
use Rattle.std.proofs.Common.{◌≡◌, ℕ, ◌<◌, ◌≤◌, ◌==◌, ◌&&◌, ◌||◌, ◌⊎◌, inl, inr, nat_lt, Bool, true, false, if◌then◌else◌, List, [], ◌∷◌, Option, Some, None, refl, sym, subst, arith, eqb-true, eq-eqb, ltb-true, ltb-false}
use Rattle.hy_core.specs.Faults.{IsUpTo, lower, same, form_place, order_of}
use Rattle.hy_core.specs.declared.fault.Form.TheVariants.{Absent}
use Rattle.hy_core.specs.declared.fault.LintFault.{LintFault}
use Rattle.core_lint.specs.code.Earlier.{earlier, is_before}
use Rattle.core_walk.specs.First.{IsFirst}
use Rattle.core_walk.proofs.FirstLemmas.{upto_same, upto_trans}

-- one number after another: below, the same with what follows, or above
by_number : (x y : ℕ) (rest : Bool) (xs ys : List ℕ) → (nat_lt x y || ((x == y) && rest)) ≡ true → (rest ≡ true → IsUpTo xs ys) → IsUpTo (x ∷ xs) (y ∷ ys)
by_number x y rest xs ys e rest_then = by (nat_lt x y) refl (x == y) refl e
  where
    by : (a : Bool) → nat_lt x y ≡ a → (b : Bool) → (x == y) ≡ b → (a || (b && rest)) ≡ true → IsUpTo (x ∷ xs) (y ∷ ys)
    by true p b q e = lower (ltb-true x y p)
    by false p true q e = subst (λ z. IsUpTo (x ∷ xs) (z ∷ ys)) (eqb-true x y q) (same (rest_then e))
    by false p false q e = absurd cc

not_by_number : (x y : ℕ) (rest : Bool) (xs ys : List ℕ) → (nat_lt x y || ((x == y) && rest)) ≡ false → (rest ≡ false → IsUpTo ys xs) → IsUpTo (y ∷ ys) (x ∷ xs)
not_by_number x y rest xs ys e rest_then = by (nat_lt x y) refl (x == y) refl e
  where
    above : nat_lt x y ≡ false → (x == y) ≡ false → y < x
    above p q = elim (split (nat_lt y x) refl) [ inl less ↦ less | inr e ↦ absurd (cc (eq-eqb x y e, q)) ]
      where
        split : (c : Bool) → nat_lt y x ≡ c → (y < x) ⊎ (x ≡ y)
        split true r = inl (ltb-true y x r)
        split false r = inr (omega (arith, ltb-false x y p, ltb-false y x r))

    by : (a : Bool) → nat_lt x y ≡ a → (b : Bool) → (x == y) ≡ b → (a || (b && rest)) ≡ false → IsUpTo (y ∷ ys) (x ∷ xs)
    by true p b q e = absurd cc
    by false p true q e = subst (λ z. IsUpTo (z ∷ ys) (x ∷ xs)) (eqb-true x y q) (same (rest_then e))
    by false p false q e = lower (above p q)

-- of one kind and with no form of its own
abbrev pub IsPlain : ℕ → LintFault → Type 0
IsPlain kind x = (x.kind ≡ kind) × (x.form ≡ Absent)

module _ (kind : ℕ) where
  alike : (x y : LintFault) → IsPlain kind x → IsPlain kind y → (xs ys : List ℕ) → xs ≡ x.«module» ∷ x.function ∷ x.node ∷ 0 ∷ [] → ys ≡ y.«module» ∷ y.function ∷ y.node ∷ 0 ∷ [] → IsUpTo xs ys → IsUpTo (order_of x) (order_of y)
  alike x y p q xs ys is_x is_y h =
      let order : (z : LintFault) → IsPlain kind z → order_of z ≡ kind ∷ z.«module» ∷ z.function ∷ z.node ∷ 0 ∷ [] = λ z r. (λ i. r.0 i ∷ z.«module» ∷ z.function ∷ z.node ∷ form_place (r.1 i) ∷ []) in
      subst (λ ns. IsUpTo ns (order_of y)) (sym (order x p)) (subst (λ ns. IsUpTo (kind ∷ x.«module» ∷ x.function ∷ x.node ∷ 0 ∷ []) ns) (sym (order y q)) (same (subst (λ ns. IsUpTo ns (y.«module» ∷ y.function ∷ y.node ∷ 0 ∷ [])) is_x (subst (λ ns. IsUpTo xs ns) is_y h))))

  before_is : (x y : LintFault) → IsPlain kind x → IsPlain kind y → is_before x y ≡ true → IsUpTo (order_of x) (order_of y)
  before_is x y p q e =
      alike x y p q _ _ refl refl
      (by_number x.«module» y.«module» _ _ _ e (λ e. by_number x.function y.function _ _ _ e (λ e. lower (ltb-true x.node y.node e))))

  not_before : (x y : LintFault) → IsPlain kind x → IsPlain kind y → is_before x y ≡ false → IsUpTo (order_of y) (order_of x)
  not_before x y p q e =
      alike y x q p _ _ refl refl
      (not_by_number x.«module» y.«module» _ _ _ e (λ e. not_by_number x.function y.function _ _ _ e (λ e. up_to (ltb-false x.node y.node e))))
    where
      up_to : y.node ≤ x.node → IsUpTo (y.node ∷ 0 ∷ []) (x.node ∷ 0 ∷ [])
      up_to h = elim (split (nat_lt y.node x.node) refl) [ inl less ↦ lower less | inr e ↦ subst (λ n. IsUpTo (y.node ∷ 0 ∷ []) (n ∷ 0 ∷ [])) e (upto_same _) ]
        where
          split : (c : Bool) → nat_lt y.node x.node ≡ c → (y.node < x.node) ⊎ (y.node ≡ x.node)
          split true r = inl (ltb-true y.node x.node r)
          split false r = inr (omega (arith, h, ltb-false y.node x.node r))

  pub earlier_first : {P Q : LintFault → Type 0} → ((x : LintFault) → P x → IsPlain kind x) → ((x : LintFault) → Q x → IsPlain kind x) → (a b : Option LintFault) → IsFirst P a → IsFirst Q b → IsFirst (λ x. P x ⊎ Q x) (earlier a b)
  earlier_first {P = P} {Q = Q} is_p is_q a b h k = by a b h k
    where
      by : (a b : Option LintFault) → IsFirst P a → IsFirst Q b → IsFirst (λ x. P x ⊎ Q x) (earlier a b)
      by None None h k = λ y r. elim r [ inl p ↦ h y p | inr q ↦ k y q ]
      by None (Some g) h k = (inr k.0, λ y r. elim r [ inl p ↦ absurd (h y p) | inr q ↦ k.1 y q ])
      by (Some f) None h k = (inl h.0, λ y r. elim r [ inl p ↦ h.1 y p | inr q ↦ absurd (k y q) ])
      by (Some f) (Some g) h k = choose (is_before g f) refl
        where
          choose : (c : Bool) → is_before g f ≡ c → IsFirst (λ x. P x ⊎ Q x) (if c then Some g else Some f)
          choose true e = (inr k.0, λ y r. elim r [ inl p ↦ upto_trans (before_is g f (is_q g k.0) (is_p f h.0) e) (h.1 y p) | inr q ↦ k.1 y q ])
          choose false e = (inl h.0, λ y r. elim r [ inl p ↦ h.1 y p | inr q ↦ upto_trans (not_before g f (is_q g k.0) (is_p f h.0) e) (k.1 y q) ])
