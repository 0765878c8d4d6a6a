-- The check for names of modules that repeat is exact.
use Rattle.std.proofs.Common.{◌≡◌, ℕ, zero, suc, ◌+◌, ◌<◌, ◌||◌, Bool, true, false, List, [], ◌∷◌, take, slice_get, Option, Some, None, if◌then◌else◌, refl, sym, ap, ◌∙◌, subst, arith}
use Rattle.std.proofs.lemmas.Slice.Eq.{bytes_eq-Decides}
use Rattle.std.specs.Str.{bytes_eq}
use Rattle.hy_core.specs.Faults as f
use Rattle.hy_core.specs.Faults.{fault, IsFault, IsUpTo, lower, same, order_of}
use Rattle.hy_core.specs.NameFaults.{RepeatsModule, earlier, in_prelude, module_name}
use Rattle.hy_core.specs.declared.fault.LintFault.{LintFault}
use Rattle.hy_core.specs.declared.tree.Module.{Module}
use Rattle.hy_core.specs.declared.tree.Program.{Program}
use Rattle.core_walk.specs.First.{IsFaultOf, IsFirst}
use Rattle.core_lint.specs.code.RepeatedModules.{first_repeated, is_named, repeats_name}
use Rattle.core_walk.proofs.FirstLemmas.{first_of, upto_same}
use Rattle.core_lint.proofs.PlaceLemmas.{get-index, get-take, index-get, take-get}

named-found : (ms : List Module) (text : List ℕ) → is_named ms text ≡ true → (m : Module) × (k : ℕ) × (slice_get ms k ≡ Some m) × (module_name m ≡ text)
named-found [] text e = absurd cc
named-found (m ∷ ms) text e = by (bytes_eq (module_name m) text) refl e (named-found ms text)
  where
    by : (b : Bool) → bytes_eq (module_name m) text ≡ b → (b || is_named ms text) ≡ true → (is_named ms text ≡ true → (n : Module) × (k : ℕ) × (slice_get ms k ≡ Some n) × (module_name n ≡ text)) → (n : Module) × (k : ℕ) × (slice_get (m ∷ ms) k ≡ Some n) × (module_name n ≡ text)
    by true p e later = (m, 0, refl, (bytes_eq-Decides (module_name m) text).0 p)
    by false p e later = let h = later e in (h.0, suc h.1, h.2, h.3)

named-kept : (ms : List Module) (text : List ℕ) (k : ℕ) (m : Module) → slice_get ms k ≡ Some m → module_name m ≡ text → is_named ms text ≡ true
named-kept [] text k m at is = absurd cc
named-kept (n ∷ ms) text zero m at is = let s : n ≡ m = cc in ap (λ b. b || is_named ms text) ((bytes_eq-Decides (module_name n) text).1 (ap module_name s ∙ is))
named-kept (n ∷ ms) text (suc k) m at is = ap (λ b. bytes_eq (module_name n) text || b) (named-kept ms text k m at is) ∙ or-true (bytes_eq (module_name n) text)
  where
    or-true : (b : Bool) → (b || true) ≡ true
    or-true true = refl
    or-true false = refl

repeats-is : (program : Program) (i : ℕ) (m : Module) → repeats_name program i m ≡ true → RepeatsModule program i m
repeats-is program i m e = by (is_named program.prelude (module_name m)) refl e
  where
    by : (b : Bool) → is_named program.prelude (module_name m) ≡ b → (b || is_named (take i program.given) (module_name m)) ≡ true → RepeatsModule program i m
    by true p e = let h = named-found program.prelude (module_name m) p in in_prelude (get-index program.prelude h.1 h.0 h.2) h.3
    by false p e =
        let h = named-found (take i program.given) (module_name m) e in
        let k = take-get program.given i h.1 h.0 h.2 in
        earlier k.0 k.1 h.3

is-repeats : (program : Program) (i : ℕ) (m : Module) → RepeatsModule program i m → repeats_name program i m ≡ true
is-repeats program i m (earlier {j = j} {other = other} below at is) =
    ap (λ b. is_named program.prelude (module_name m) || b) (named-kept (take i program.given) (module_name m) j other (get-take program.given i j other below at) is) ∙ or-true (is_named program.prelude (module_name m))
  where
    or-true : (b : Bool) → (b || true) ≡ true
    or-true true = refl
    or-true false = refl
is-repeats program i m (in_prelude {other = other} h is) =
    ap (λ b. b || is_named (take i program.given) (module_name m)) (named-kept program.prelude (module_name m) h.0 other (index-get program.prelude other h.0 h.1 h.2) is)

-- modules from place i on, of which one repeats a name
data Named (program : Program) : ℕ → List Module → LintFault → Type 0 where
  this : {i : ℕ} {m : Module} {ms : List Module} → repeats_name program i m ≡ true → Named program i (m ∷ ms) (fault 1 i 0 0)
  later : {i : ℕ} {m : Module} {ms : List Module} {x : LintFault} → Named program (suc i) ms x → Named program i (m ∷ ms) x

behind : {program : Program} (i : ℕ) {d : ℕ} {ms : List Module} {x : LintFault} → i < d → Named program d ms x → IsUpTo (order_of (fault 1 i 0 0)) (order_of x)
behind i below (this e) = same (lower below)
behind i below (later h) = behind i (omega (arith, below)) h

named_first : (program : Program) (i : ℕ) (ms : List Module) → IsFirst (Named program i ms) (first_repeated program i ms)
named_first program i [] = none
  where
    none : (x : LintFault) → Named program i [] x → ⊥
    none x h = elim h [ ]
named_first program i (m ∷ ms) = by (repeats_name program i m) refl (first_repeated program (suc i) ms) (named_first program (suc i) ms)
  where
    least : (x : LintFault) → Named program i (m ∷ ms) x → IsUpTo (order_of (fault 1 i 0 0)) (order_of x)
    least x (this e) = upto_same _
    least x (later h) = behind i (omega arith) h

    none : repeats_name program i m ≡ false → ((x : LintFault) → Named program (suc i) ms x → ⊥) → (x : LintFault) → Named program i (m ∷ ms) x → ⊥
    none p h x (this e) = absurd (cc (p, e))
    none p h x (later l) = h x l

    least_later : repeats_name program i m ≡ false → (y : LintFault) → ((x : LintFault) → Named program (suc i) ms x → IsUpTo (order_of y) (order_of x)) → (x : LintFault) → Named program i (m ∷ ms) x → IsUpTo (order_of y) (order_of x)
    least_later p y h x (this e) = absurd (cc (p, e))
    least_later p y h x (later l) = h x l

    by : (b : Bool) → repeats_name program i m ≡ b → (rest : Option LintFault) → IsFirst (Named program (suc i) ms) rest → IsFirst (Named program i (m ∷ ms)) (if b then Some (fault 1 i 0 0) else rest)
    by true p rest h = (this p, least)
    by false p None h = none p h
    by false p (Some y) h = (later h.0, least_later p y h.1)

named-from : {program : Program} {i : ℕ} {ms : List Module} {x : LintFault} → Named program i ms x → (d : ℕ) × (m : Module) × (slice_get ms d ≡ Some m) × (x ≡ fault 1 (i + d) 0 0) × (repeats_name program (i + d) m ≡ true)
named-from {program = program} {i = i} (this {m = m} e) = let z : i ≡ i + 0 = omega arith in (0, m, refl, ap (λ n. fault 1 n 0 0) z, subst (λ n. repeats_name program n m ≡ true) z e)
named-from {program = program} {i = i} (later h) =
    let r = named-from h in
    let z : suc i + r.0 ≡ i + suc r.0 = omega arith in
    (suc r.0, r.1, r.2, r.3 ∙ ap (λ n. fault 1 n 0 0) z, subst (λ n. repeats_name program n r.1 ≡ true) z r.4)

named-to : (program : Program) (i : ℕ) (ms : List Module) (d : ℕ) (m : Module) → slice_get ms d ≡ Some m → repeats_name program (i + d) m ≡ true → Named program i ms (fault 1 (i + d) 0 0)
named-to program i [] d m at e = absurd cc
named-to program i (n ∷ ms) zero m at e =
    let s : m ≡ n = cc in
    let z : i + 0 ≡ i = omega arith in
    subst (λ k. Named program i (n ∷ ms) (fault 1 k 0 0)) (sym z) (this (subst (λ m. repeats_name program i m ≡ true) s (subst (λ k. repeats_name program k m ≡ true) z e)))
named-to program i (n ∷ ms) (suc d) m at e =
    let z : i + suc d ≡ suc i + d = omega arith in
    subst (λ k. Named program i (n ∷ ms) (fault 1 k 0 0)) (sym z) (later (named-to program (suc i) ms d m at (subst (λ k. repeats_name program k m ≡ true) z e)))

sound : (program : Program) (x : LintFault) → Named program 0 program.given x → IsFaultOf program 1 x
sound program x h =
    let r = named-from h in
    let z : 0 + r.0 ≡ r.0 = omega arith in
    subst (IsFaultOf program 1) (sym (r.3 ∙ ap (λ n. fault 1 n 0 0) z)) (record { holds = f.repeated_module r.2 (repeats-is program r.0 r.1 (subst (λ n. repeats_name program n r.1 ≡ true) z r.4)); of_kind = refl })

complete : (program : Program) (y : LintFault) → IsFault program y → y.kind ≡ 1 → Named program 0 program.given y
complete program y (f.repeated_module {i = i} {m = m} at h) e =
    let z : 0 + i ≡ i = omega arith in
    subst (λ n. Named program 0 program.given (fault 1 n 0 0)) z (named-to program 0 program.given i m at (subst (λ n. repeats_name program n m ≡ true) (sym z) (is-repeats program i m h)))
complete program y _ e = absurd (omega arith)

pub named_exact : (program : Program) → IsFirst (IsFaultOf program 1) (first_repeated program 0 program.given)
named_exact program = first_of (sound program) (λ y h. (y, complete program y h.holds h.of_kind, upto_same (order_of y))) (first_repeated program 0 program.given) (named_first program 0 program.given)
