-- The check for the export of 'main'/0 is exact.
use Rattle.std.proofs.Common.{◌≡◌, Bool, true, false, List, [], ◌∷◌, length, codes, slice_get, Some, None, if◌then◌else◌, refl, sym, ap, subst}
use Rattle.hy_core.specs.Faults.{fault, IsUpTo, order_of}
use Rattle.hy_core.specs.NameFaults.{ExportsMain, exports_main}
use Rattle.hy_core.specs.declared.fault.LintFault.{LintFault}
use Rattle.hy_core.specs.declared.tree.Module.{Module}
use Rattle.hy_core.specs.declared.tree.Program.{Program}
use Rattle.core_lint.specs.code.Exports.{exports_name}
use Rattle.core_walk.specs.First.{IsFirst}
use Rattle.core_lint.specs.code.MissingMain.{first_missing}
use Rattle.core_lint.specs.code.UnknownFunctions.{IsMissingMain, no_main}
use Rattle.core_lint.proofs.ExportedLemmas.{name-found, name-kept}
use Rattle.core_walk.proofs.FirstLemmas.{upto_same}

main-is : (m : Module) → exports_name m m.exports (codes "main") 0 ≡ true → ExportsMain m
main-is m e = let h = name-found m m.exports (codes "main") 0 e in exports_main h.f h.stands h.same_name h.same_arity

is-main : (m : Module) → ExportsMain m → exports_name m m.exports (codes "main") 0 ≡ true
is-main m (exports_main f stands same_name same_arity) = name-kept m m.exports f (codes "main") 0 stands same_name same_arity

-- the modules behind the first tell nothing
first_main : (m : Module) (ms : List Module) (program : Program) → program.given ≡ m ∷ ms → IsFirst (IsMissingMain program) (first_missing (m ∷ ms))
first_main m ms program is = by (exports_name m m.exports (codes "main") 0) refl
  where
    same : (l : Module) → slice_get program.given 0 ≡ Some l → l ≡ m
    same l at = cc (ap (λ ls. slice_get ls 0) is, at)

    none : exports_name m m.exports (codes "main") 0 ≡ true → (x : LintFault) → IsMissingMain program x → ⊥
    none e x (no_main {m = l} at h) = h (subst ExportsMain (sym (same l at)) (main-is m e))

    least : (x : LintFault) → IsMissingMain program x → IsUpTo (order_of (fault 6 0 (length m.functions) 0)) (order_of x)
    least x (no_main {m = l} at h) = subst (λ (l : Module). IsUpTo (order_of (fault 6 0 (length m.functions) 0)) (order_of (fault 6 0 (length l.functions) 0))) (sym (same l at)) (upto_same _)

    by : (b : Bool) → exports_name m m.exports (codes "main") 0 ≡ b → IsFirst (IsMissingMain program) (if b then None else Some (fault 6 0 (length m.functions) 0))
    by true e = none e
    by false e = (no_main (ap (λ ls. slice_get ls 0) is) (λ h. absurd (cc (e, is-main m h))), least)

pub main_exact : (program : Program) → IsFirst (IsMissingMain program) (first_missing program.given)
main_exact program = by program.given refl
  where
    no_module : program.given ≡ [] → (x : LintFault) → IsMissingMain program x → ⊥
    no_module is x (no_main {m = m} at h) = absurd (cc (ap (λ ls. slice_get ls 0) is, at))

    by : (ms : List Module) → program.given ≡ ms → IsFirst (IsMissingMain program) (first_missing ms)
    by [] is = no_module is
    by (m ∷ ms) is = first_main m ms program is
