-- The check for exports without a definition is exact.
use Rattle.std.proofs.Common.{◌≡◌, ℕ, ◌+◌, ◌<◌, not, Bool, true, false, refl, sym, ap, ◌∙◌, subst, arith}
use Rattle.hy_core.specs.Faults as f
use Rattle.hy_core.specs.Faults.{fault, IsFault, lower, same, order_of}
use Rattle.hy_core.specs.NameFaults.{IsUndefined}
use Rattle.hy_core.specs.Nodes.{names_of}
use Rattle.hy_core.specs.Resolve.{is_local}
use Rattle.hy_core.specs.declared.fault.LintFault.{LintFault}
use Rattle.hy_core.specs.declared.tree.FunName.{FunName}
use Rattle.hy_core.specs.declared.tree.Module.{Module}
use Rattle.hy_core.specs.declared.tree.Program.{Program}
use Rattle.core_walk.specs.First.{IsFaultOf, IsFirst}
use Rattle.core_lint.specs.code.FirstPlace.{fault_at}
use Rattle.core_lint.specs.code.RepeatedFunctions.{first_undefined, first_undefined_export}
use Rattle.core_walk.proofs.NameCountLemmas.{Contains-is_local, is_local-Contains}
use Rattle.core_walk.proofs.FirstLemmas.{first_of, upto_same}
use Rattle.core_lint.proofs.FirstPlaceLemmas.{InModules, IsFaultAt, modules_first, place_first}

abbrev lacks : Module → ℕ → FunName → Bool
lacks m k name = not (is_local name (names_of m.functions))

not-is : (b : Bool) → not b ≡ true → b ≡ true → ⊥
not-is true e h = absurd cc
not-is false e h = absurd cc

is-not : (b : Bool) → (b ≡ true → ⊥) → not b ≡ true
is-not true h = absurd (h refl)
is-not false h = refl

undefined-is : (m : Module) (k : ℕ) (name : FunName) → lacks m k name ≡ true → IsUndefined m name
undefined-is m k name e h = not-is (is_local name (names_of m.functions)) e (Contains-is_local (names_of m.functions) name h)

is-undefined : (m : Module) (k : ℕ) (name : FunName) → IsUndefined m name → lacks m k name ≡ true
is-undefined m k name h = is-not (is_local name (names_of m.functions)) (λ e. h (is_local-Contains (names_of m.functions) name e))

rising : (i j k : ℕ) → j < k → f.IsUpTo (order_of (fault 3 i 0 j)) (order_of (fault 3 i 0 k))
rising i j k below = same (same (same (lower below)))

abbrev InModule : ℕ → Module → LintFault → Type 0
InModule i m = IsFaultAt (lacks m) (λ k. fault 3 i 0 k) 0 m.exports

first_in : (i : ℕ) (m : Module) → IsFirst (InModule i m) (fault_at (λ k. fault 3 i 0 k) (first_undefined m))
first_in i m = place_first (lacks m) (λ k. fault 3 i 0 k) (rising i) 0 m.exports

placed : (i : ℕ) (m : Module) (y : LintFault) → InModule i m y → (y.kind ≡ 3) × (y.«module» ≡ i)
placed i m y h = (ap (λ (z : LintFault). z.kind) h.2, ap (λ (z : LintFault). z.«module») h.2)

sound : (program : Program) (y : LintFault) → InModules InModule 0 program.given y → IsFaultOf program 3 y
sound program y h =
    let z : 0 + h.0 ≡ h.0 = omega arith in
    let w : 0 + h.3.0 ≡ h.3.0 = omega arith in
    let undefined = undefined-is h.1 (0 + h.3.0) h.3.1.0 h.3.1.2 in
    subst (IsFaultOf program 3) (sym (h.3.2 ∙ (λ i. fault 3 (z i) 0 (w i)))) (record { holds = f.undefined_export h.2 h.3.1.1 undefined; of_kind = refl })

complete : (program : Program) (y : LintFault) → IsFault program y → y.kind ≡ 3 → InModules InModule 0 program.given y
complete program y (f.undefined_export {i = i} {k = k} {m = m} {f = name} given at h) e =
    let z : i ≡ 0 + i = omega arith in
    let w : k ≡ 0 + k = omega arith in
    (i, m, given, subst (λ n. InModule n m (fault 3 i 0 k)) z (k, (name, at, is-undefined m (0 + k) name h), ap (λ n. fault 3 i 0 n) w))
complete program y _ e = absurd (omega arith)

pub undefined_exact : (program : Program) → IsFirst (IsFaultOf program 3) (first_undefined_export 0 program.given)
undefined_exact program =
    first_of (sound program) (λ y h. (y, complete program y h.holds h.of_kind, upto_same (order_of y))) _
    (modules_first 3 InModule (λ i m. fault_at (λ k. fault 3 i 0 k) (first_undefined m)) first_in placed 0 program.given)
