-- The check of one module is that of all modules, there.
use Rattle.std.proofs.Common.{◌≡◌, ℕ, suc, List, [], ◌∷◌, Result, Option, refl, ap, subst}
use Rattle.std.specs.Prelude.{IfOk}
use Rattle.hy_terms.specs.declared.memory.Memory.{Memory}
use Rattle.hy_core.specs.declared.fault.LintFault.{LintFault}
use Rattle.hy_core.specs.declared.tree.FunName.{FunName}
use Rattle.hy_core.specs.declared.tree.Function.{Function}
use Rattle.hy_core.specs.declared.tree.Module.{Module}
use Rattle.core_lint.specs.code.Exports.{ExportTable}
use Rattle.core_walk.specs.First.{fault_or, first_in_functions, function_outcome}
use Rattle.core_lint.specs.code.UnknownFunctions.{own_names, unknown}

module _ (table : ExportTable) (m : Module) (defined : List FunName) (is : defined ≡ own_names m) where
  same_outcome : (j : ℕ) (f : Function) → function_outcome (unknown table (λ _. defined)) m j f ≡ function_outcome (unknown table own_names) m j f
  same_outcome j f = ap (λ names. function_outcome (unknown table (λ _. names)) m j f) is

  same_faults : (kind i j : ℕ) (fs : List Function) → first_in_functions (unknown table (λ _. defined)) kind i m j fs ≡ first_in_functions (unknown table own_names) kind i m j fs
  same_faults kind i j [] = refl
  same_faults kind i j (f ∷ fs) = λ t. fault_or kind i j (same_outcome j f t) (same_faults kind i (suc j) fs t)

  pub same_answer : (kind i j : ℕ) (fs : List Function) (r : Result (Option LintFault) Memory) → IfOk r (λ fault. fault ≡ first_in_functions (unknown table (λ _. defined)) kind i m j fs)
      → IfOk r (λ fault. fault ≡ first_in_functions (unknown table own_names) kind i m j fs)
  same_answer kind i j fs r h = subst (λ x. IfOk r (λ fault. fault ≡ x)) (same_faults kind i j fs) h
