-- The faults of kind 6 are those of functions that aren't there and that of 'main'/0.
use Rattle.std.proofs.Common.{◌≡◌, ◌⊎◌, inl, inr, Option, refl, arith}
use Rattle.hy_core.specs.Faults as f
use Rattle.hy_core.specs.Faults.{IsFault, order_of}
use Rattle.hy_core.specs.declared.fault.LintFault.{LintFault}
use Rattle.hy_core.specs.declared.tree.Program.{Program}
use Rattle.core_lint.specs.code.Earlier.{earlier}
use Rattle.core_walk.specs.First.{IsFaultOf, IsFirst}
use Rattle.core_lint.specs.code.UnknownFunctions as u
use Rattle.core_lint.specs.code.UnknownFunctions.{IsUnknownOf, IsMissingMain}
use Rattle.core_lint.proofs.EarlierLemmas.{IsPlain, earlier_first}
use Rattle.core_walk.proofs.FirstLemmas.{first_of, upto_same}

module _ (program : Program) where
  abbrev Either : LintFault → Type 0
  Either y = IsUnknownOf program y ⊎ IsMissingMain program y

  plain_unknown : (y : LintFault) → IsUnknownOf program y → IsPlain 6 y
  plain_unknown y (u.other_arity around h) = (refl, refl)
  plain_unknown y (u.unknown_function stands h) = (refl, refl)

  plain_main : (y : LintFault) → IsMissingMain program y → IsPlain 6 y
  plain_main y (u.no_main given h) = (refl, refl)

  either-is : (y : LintFault) → Either y → IsFaultOf program 6 y
  either-is y (inl (u.other_arity around h)) = record { holds = f.other_arity around h; of_kind = refl }
  either-is y (inl (u.unknown_function stands h)) = record { holds = f.unknown_function stands h; of_kind = refl }
  either-is y (inr (u.no_main given h)) = record { holds = f.no_main given h; of_kind = refl }

  is-either : (y : LintFault) → IsFault program y → y.kind ≡ 6 → Either y
  is-either y (f.other_arity around h) e = inl (u.other_arity around h)
  is-either y (f.unknown_function stands h) e = inl (u.unknown_function stands h)
  is-either y (f.no_main given h) e = inr (u.no_main given h)
  is-either y _ e = absurd (omega arith)

  pub lesser_exact : (unknown main : Option LintFault) → IsFirst (IsUnknownOf program) unknown → IsFirst (IsMissingMain program) main → IsFirst (IsFaultOf program 6) (earlier unknown main)
  lesser_exact unknown main h k =
      first_of either-is (λ y q. (y, is-either y q.holds q.of_kind, upto_same (order_of y))) (earlier unknown main) (earlier_first 6 plain_unknown plain_main unknown main h k)
