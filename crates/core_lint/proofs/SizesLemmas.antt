-- The sizes of a program, one after another.
use Rattle.std.proofs.Common.{◌≡◌, ℕ, ◌<◌, ◌≤◌, ◌^◌, length, Some, None, refl, sym, subst, arith}
use Rattle.hy_core.specs.Faults as f
use Rattle.hy_core.specs.Faults.{fault_of, IsFault, IsTooGreat, IsUpTo, same, order_of, form_place}
use Rattle.hy_core.specs.Numbered.{program_sites}
use Rattle.hy_core.specs.Tables.{program_atoms, program_functions}
use Rattle.hy_core.specs.declared.fault.Form.{Form}
use Rattle.hy_core.specs.declared.fault.Form.TheVariants as form
use Rattle.hy_core.specs.declared.fault.LintFault.{LintFault}
use Rattle.hy_core.specs.declared.tree.Program.{Program}
use Rattle.std.specs.Prelude.{IsErrOf}
use Rattle.std.specs.declared.result.Result.TheVariants.{Err}
use Rattle.core_lint.specs.declared.answer.LintAnswer.{LintAnswer}
use Rattle.core_lint.specs.declared.answer.LintAnswer.TheVariants.{Fault}
use Rattle.core_walk.specs.First.{IsFaultOf, IsFirst}
use Rattle.core_lint.specs.code.Sizes.{IsFirstSize, IsWithinBefore}
use Rattle.core_walk.proofs.FirstLemmas.{upto_last}

module _ (program : Program) where
  place : (other : Form) → IsTooGreat program other → 10 ≤ form_place other
  place _ (f.functions h) = omega arith
  place _ (f.arity m d h) = omega arith
  place _ (f.sites h) = omega arith
  place _ (f.atoms h) = omega arith

  abbrev HasFewFunctions : Type 0
  HasFewFunctions = length (program_functions program) ≤ 65535

  abbrev HasFewSites : Type 0
  HasFewSites = length (program_sites program) ≤ 2 ^ 20

  abbrev HasSmallArities : Type 0
  HasSmallArities = IsTooGreat program form.Arity → ⊥

  past_functions : HasFewFunctions → (other : Form) → IsTooGreat program other → 11 ≤ form_place other
  past_functions few _ (f.functions h) = absurd (omega (arith, few, h))
  past_functions few _ (f.arity m d h) = omega arith
  past_functions few _ (f.sites h) = omega arith
  past_functions few _ (f.atoms h) = omega arith

  past_arity : HasFewFunctions → HasSmallArities → (other : Form) → IsTooGreat program other → 12 ≤ form_place other
  past_arity few small _ (f.functions h) = absurd (omega (arith, few, h))
  past_arity few small _ (f.arity m d h) = absurd (small (f.arity m d h))
  past_arity few small _ (f.sites h) = omega arith
  past_arity few small _ (f.atoms h) = omega arith

  pub many_functions : 65535 < length (program_functions program) → IsFirstSize program form.Functions
  many_functions h = record { great = f.functions h; first = place }

  pub great_arity : HasFewFunctions → IsTooGreat program form.Arity → IsFirstSize program form.Arity
  great_arity few h = record { great = h; first = past_functions few }

  pub within_sites : HasFewFunctions → HasSmallArities → IsWithinBefore program 12
  within_sites few small other h below = omega (arith, below, past_arity few small other h)

  at_least : (most n : ℕ) → (n < most → ⊥) → most ≤ n
  at_least most n not_below = omega (arith, not_below)

  pub many_sites : IsWithinBefore program 12 → 2 ^ 20 < length (program_sites program) → IsFirstSize program form.Sites
  many_sites before h = record { great = f.sites h; first = λ other k. at_least 12 (form_place other) (before other k) }

  pub within_atoms : IsWithinBefore program 12 → HasFewSites → IsWithinBefore program 13
  within_atoms before few _ (f.functions h) below = before form.Functions (f.functions h) (omega arith)
  within_atoms before few _ (f.arity m d h) below = before form.Arity (f.arity m d h) (omega arith)
  within_atoms before few _ (f.sites h) below = omega (arith, few, h)
  within_atoms before few _ (f.atoms h) below = omega (arith, below)

  pub many_atoms : IsWithinBefore program 13 → 2 ^ 20 < length (program_atoms program) → IsFirstSize program form.Atoms
  many_atoms before h = record { great = f.atoms h; first = λ other k. at_least 13 (form_place other) (before other k) }

  -- a fault of the tenth kind is one of sizes
  of_size : (y : LintFault) → IsFault program y → y.kind ≡ 10 → (form : Form) × IsTooGreat program form × (y ≡ fault_of 10 0 0 0 form)
  of_size y (f.too_great {form = form} h) e = (form, h, refl)
  of_size y _ e = absurd (omega arith)

  pub first_size : (form : Form) → IsFirstSize program form → IsFirst (IsFaultOf program 10) (Some (fault_of 10 0 0 0 form))
  first_size form h = (record { holds = f.too_great h.great; of_kind = refl }, least)
    where
      least : (y : LintFault) → IsFaultOf program 10 y → IsUpTo (order_of (fault_of 10 0 0 0 form)) (order_of y)
      least y k =
          let r = of_size y k.holds k.of_kind in
          subst (λ y. IsUpTo (order_of (fault_of 10 0 0 0 form)) (order_of y)) (sym r.2) (same (same (same (same (upto_last (form_place form) (form_place r.0) (h.first r.0 r.1))))))

  pub no_size : IsWithinBefore program 13 → length (program_atoms program) ≤ 2 ^ 20 → IsFirst (IsFaultOf program 10) None
  no_size before few y k = let r = of_size y k.holds k.of_kind in none r.0 r.1
    where
      none : (form : Form) → IsTooGreat program form → ⊥
      none _ (f.functions h) = before form.Functions (f.functions h) (omega arith)
      none _ (f.arity m d h) = before form.Arity (f.arity m d h) (omega arith)
      none _ (f.sites h) = before form.Sites (f.sites h) (omega arith)
      none _ (f.atoms h) = omega (arith, few, h)

-- the fault of an answer is this one
pub the_fault : {A : Type 0} (program : Program) (answer : LintAnswer) (form : Form) (x : LintFault) → answer ≡ Fault (fault_of 10 0 0 0 form) → IsErrOf {T = A} (Err answer) (Fault x) → IsFirstSize program form → IsFirst (IsFaultOf program 10) (Some x)
the_fault program answer form x is e h = let same : fault_of 10 0 0 0 form ≡ x = cc in subst (λ x. IsFirst (IsFaultOf program 10) (Some x)) same (first_size program form h)
