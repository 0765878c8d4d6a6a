-- The first fault of the first kind that has one is the least.
use Rattle.std.proofs.Common.{◌≡◌, ℕ, ◌+◌, ◌<◌, ◌≤◌, ◌⊎◌, inl, inr, nat_lt, Bool, true, false, Option, is_some, Some, None, refl, subst, arith, ltb-true, ltb-false}
use Rattle.std.specs.Prelude.{MatchOption}
use Rattle.hy_core.specs.Faults as f
use Rattle.hy_core.specs.Faults.{IsAccepted, IsFault, IsLeastFault, IsUpTo, lower, order_of}
use Rattle.hy_core.specs.declared.fault.LintFault.{LintFault}
use Rattle.hy_core.specs.declared.tree.Program.{Program}
use Rattle.core_walk.specs.First.{IsFaultOf, IsFirst}
use Rattle.core_lint.specs.code.InOrder.{HasNoneBelow}

-- there are ten kinds
pub kind-within : {program : Program} {x : LintFault} → IsFault program x → (1 ≤ x.kind) × (x.kind ≤ 10)
kind-within (f.repeated_module at h) = (omega arith, omega arith)
kind-within (f.repeated_function around h) = (omega arith, omega arith)
kind-within (f.repeated_definition stands h) = (omega arith, omega arith)
kind-within (f.undefined_export given at h) = (omega arith, omega arith)
kind-within (f.unbound_variable stands h) = (omega arith, omega arith)
kind-within (f.repeated_parameter around h) = (omega arith, omega arith)
kind-within (f.repeated_variable stands h) = (omega arith, omega arith)
kind-within (f.other_arity around h) = (omega arith, omega arith)
kind-within (f.unknown_function stands h) = (omega arith, omega arith)
kind-within (f.no_main given h) = (omega arith, omega arith)
kind-within (f.forbidden_form stands h) = (omega arith, omega arith)
kind-within (f.wrong_values stands h) = (omega arith, omega arith)
kind-within (f.forbidden_in_guard stands h) = (omega arith, omega arith)
kind-within (f.too_great h) = (omega arith, omega arith)

module _ (program : Program) where
  pub none-first : HasNoneBelow program 1
  none-first x h below = omega (arith, below, (kind-within h).0)

  split : (x y : ℕ) → (x < y) ⊎ ((x ≡ y) ⊎ (y < x))
  split x y = by (nat_lt x y) refl (nat_lt y x) refl
    where
      by : (a : Bool) → nat_lt x y ≡ a → (b : Bool) → nat_lt y x ≡ b → (x < y) ⊎ ((x ≡ y) ⊎ (y < x))
      by true p b q = inl (ltb-true x y p)
      by false p true q = inr (inr (ltb-true y x q))
      by false p false q = inr (inl (omega (arith, ltb-false x y p, ltb-false y x q)))

  pub none-next : (kind : ℕ) → HasNoneBelow program kind → IsFirst (IsFaultOf program kind) None → HasNoneBelow program (kind + 1)
  none-next kind before none x h below = elim (split x.kind kind) [ inl less ↦ before x h less | inr rest ↦ elim rest [ inl e ↦ none x (record { holds = h; of_kind = e }) | inr more ↦ omega (arith, below, more) ] ]

  lower_kind : (x y : LintFault) → x.kind < y.kind → IsUpTo (order_of x) (order_of y)
  lower_kind x y below = lower below

  pub least_of_kind : (kind : ℕ) → HasNoneBelow program kind → (x : LintFault) → IsFirst (IsFaultOf program kind) (Some x) → IsLeastFault program x
  least_of_kind kind before x first = record { holds = first.0.holds; least = least }
    where
      least : (y : LintFault) → IsFault program y → IsUpTo (order_of x) (order_of y)
      least y h =
          elim (split y.kind kind) [ inl less ↦ absurd (before y h less) | inr rest ↦ elim rest [ inl e ↦ first.1 y (record { holds = h; of_kind = e }) | inr more ↦ lower_kind x y (omega (arith, more, first.0.of_kind)) ] ]

  pub accepted : HasNoneBelow program 10 → IsFirst (IsFaultOf program 10) None → IsAccepted program
  accepted before none x h = none-next 10 before none x h (omega (arith, (kind-within h).1))

  -- what is found of a kind, where there is something
  pub found_of_kind : (kind : ℕ) → HasNoneBelow program kind → (found : Option LintFault) → IsFirst (IsFaultOf program kind) found → is_some found ≡ true → MatchOption found (HasNoneBelow program 10) (IsLeastFault program)
  found_of_kind kind before None first e = absurd cc
  found_of_kind kind before (Some x) first e = least_of_kind kind before x first

  -- where nothing is found, none of these kinds has a fault
  pub none_found : (found : Option LintFault) → found ≡ None → MatchOption found (HasNoneBelow program 10) (IsLeastFault program) → HasNoneBelow program 10
  none_found found is h = subst (λ o. MatchOption o (HasNoneBelow program 10) (IsLeastFault program)) is h
