-- The check for names of functions that repeat is exact.
use Rattle.std.proofs.Common.{◌≡◌, ℕ, zero, suc, ◌+◌, ◌<◌, ◌||◌, ◌⊎◌, inl, inr, Bool, true, false, is_some, List, [], ◌∷◌, take, Option, Some, None, slice_get, refl, sym, ap, ◌∙◌, subst, arith}
use Rattle.std.specs.List.{Contains}
use Rattle.hy_core.specs.Faults as f
use Rattle.hy_core.specs.Faults.{fault, fault_of, IsFault, lower, same, order_of}
use Rattle.hy_core.specs.NameFaults.{RepeatsFunction, earlier, RepeatsDefinition, in_letrec}
use Rattle.hy_core.specs.NodeFaults.{Repeats, first_again, behind_first}
use Rattle.hy_core.specs.Nodes.{Piece, AnExpr, APattern, FirstPattern, Context, Node, node, names_of}
use Rattle.hy_core.specs.Resolve.{is_local}
use Rattle.hy_core.specs.Resolved.{is_name}
use Rattle.hy_core.specs.declared.fault.Form.{Form}
use Rattle.hy_core.specs.declared.fault.Form.TheVariants.{Absent}
use Rattle.hy_core.specs.declared.fault.LintFault.{LintFault}
use Rattle.hy_core.specs.declared.tree.Clause.{Clause}
use Rattle.hy_core.specs.declared.tree.Expr.{Expr}
use Rattle.hy_core.specs.declared.tree.Expr.TheOpen as layer
use Rattle.hy_core.specs.declared.tree.Expr.TheOpen.{Expr-F}
use Rattle.hy_core.specs.declared.tree.Expr.TheVariants as v
use Rattle.hy_core.specs.declared.tree.Expr.TheViews.{out-Expr, roll-Expr, roll-out-Expr, outs-Letrec}
use Rattle.hy_core.specs.declared.tree.FunName.{FunName}
use Rattle.hy_core.specs.declared.tree.Function.{Function}
use Rattle.hy_core.specs.declared.tree.Module.{Module}
use Rattle.hy_core.specs.declared.tree.Program.{Program}
use Rattle.core_walk.specs.First.{IsFaultOf, IsFirst, first_in_modules}
use Rattle.core_lint.specs.code.Earlier as e
use Rattle.core_lint.specs.code.FirstPlace.{fault_at}
use Rattle.core_lint.specs.code.RepeatedFunctions.{first_again as first_of_names, first_repeated_function, repeated_names, repeated_names_layer, repeats_earlier}
use Rattle.core_walk.specs.Walk.{form_at, form_if}
use Rattle.core_walk.proofs.NameCountLemmas.{Contains-is_local, is_local-Contains, same-is_name, is_name-same}
use Rattle.core_lint.proofs.EarlierLemmas.{IsPlain, earlier_first}
use Rattle.core_lint.proofs.Exact.{IsExact, KindFault, holding_first, in_function, in_node}
use Rattle.core_walk.proofs.FirstLemmas.{first_of, upto_same}
use Rattle.core_lint.proofs.FirstPlaceLemmas.{InModules, IsFaultAt, modules_first, none_holds, place_first, some_holds}
use Rattle.core_lint.proofs.OfKind.{AtNoFunction}
use Rattle.core_lint.proofs.RepeatedExact.{form_if-Some}
use Rattle.core_lint.proofs.PlaceLemmas.{get-take, index-get, take-get}

or-true : (b : Bool) → (b || true) ≡ true
or-true true = refl
or-true false = refl

-- ---- a name that stands before

named : (fs : List Function) (j : ℕ) (g : Function) → slice_get fs j ≡ Some g → Contains (names_of fs) g.name
named [] j g at = absurd cc
named (h ∷ fs) zero g at = let s : h ≡ g = cc in (0, omega arith, ap (λ (f : Function). f.name) s)
named (h ∷ fs) (suc j) g at = let r = named fs j g at in (suc r.0, omega (arith, r.1), r.2)

repeats-from : (fs : List Function) (j : ℕ) (g : Function) → slice_get fs j ≡ Some g → repeats_earlier fs j g ≡ true → Repeats (names_of fs)
repeats-from fs zero g at e = absurd cc
repeats-from [] (suc j) g at e = absurd cc
repeats-from (h ∷ fs) (suc j) g at e = by (is_name h.name g.name) refl e (repeats-from fs j g at)
  where
    by : (b : Bool) → is_name h.name g.name ≡ b → (b || is_local g.name (names_of (take j fs))) ≡ true → (repeats_earlier fs j g ≡ true → Repeats (names_of fs)) → Repeats (h.name ∷ names_of fs)
    by true equal e later = first_again (subst (Contains (names_of fs)) (sym (is_name-same h.name g.name equal)) (named fs j g at))
    by false other e later = behind_first (later e)

named-at : (fs : List Function) (name : FunName) → Contains (names_of fs) name → (j : ℕ) × (g : Function) × (slice_get fs j ≡ Some g) × (g.name ≡ name)
named-at fs name h = by fs h.0 (index-get (names_of fs) name h.0 h.1 h.2)
  where
    by : (fs : List Function) (k : ℕ) → slice_get (names_of fs) k ≡ Some name → (j : ℕ) × (g : Function) × (slice_get fs j ≡ Some g) × (g.name ≡ name)
    by [] k at = absurd cc
    by (g ∷ fs) zero at = let s : g.name ≡ name = cc in (0, g, refl, s)
    by (g ∷ fs) (suc k) at = let r = by fs k at in (suc r.0, r.1, r.2, r.3)

repeats-at : (fs : List Function) → Repeats (names_of fs) → (j : ℕ) × (g : Function) × (slice_get fs j ≡ Some g) × (repeats_earlier fs j g ≡ true)
repeats-at [] h = elim h [ ]
repeats-at (f ∷ fs) (first_again h) =
    let r = named-at fs f.name h in
    (suc r.0, r.1, r.2, ap (λ b. b || is_local r.1.name (names_of (take r.0 fs))) (ap (is_name f.name) r.3 ∙ same-is_name f.name))
repeats-at (f ∷ fs) (behind_first h) =
    let r = repeats-at fs h in
    (suc r.0, r.1, r.2, ap (λ b. is_name f.name r.1.name || b) r.3 ∙ or-true (is_name f.name r.1.name))

again-Repeats : (fs : List Function) → is_some (first_of_names fs) ≡ true → Repeats (names_of fs)
again-Repeats fs e = by (first_of_names fs) refl e
  where
    by : (o : Option ℕ) → first_of_names fs ≡ o → is_some o ≡ true → Repeats (names_of fs)
    by None p e = absurd cc
    by (Some j) p e =
        let h = some_holds (repeats_earlier fs) 0 fs j p in
        let z : 0 + h.0 ≡ h.0 = omega arith in
        repeats-from fs h.0 h.1.0 h.1.1 (subst (λ n. repeats_earlier fs n h.1.0 ≡ true) z h.1.2)

Repeats-again : (fs : List Function) → Repeats (names_of fs) → is_some (first_of_names fs) ≡ true
Repeats-again fs h = by (first_of_names fs) refl
  where
    by : (o : Option ℕ) → first_of_names fs ≡ o → is_some o ≡ true
    by None p =
        let r = repeats-at fs h in
        let z : r.0 ≡ 0 + r.0 = omega arith in
        absurd (none_holds (repeats_earlier fs) 0 fs p r.0 (r.1, r.2, subst (λ n. repeats_earlier fs n r.1 ≡ true) z r.3))
    by (Some j) p = refl

-- ---- in letrecs

abbrev RepeatedAt : Module → Node → Form → Type 0
RepeatedAt m n form = RepeatsDefinition n × (form ≡ Absent)

at_layer : (m : Module) (y : Expr-F Expr Clause Function) (c : Context) (form : Form) → repeated_names_layer y ≡ Some form → RepeatedAt m (node (AnExpr (roll-Expr y)) c) form
at_layer m (layer.Letrec functions body) c form e =
    let h = form_if-Some (is_some (first_of_names functions)) form e in
    (subst (λ z. RepeatsDefinition (node (AnExpr z) c)) (sym (v.rolls-Letrec functions body)) (in_letrec functions body (again-Repeats functions h.0)), h.1)
at_layer m _ c form e = absurd cc

sound : (m : Module) (piece : Piece) (c : Context) (form : Form) → form_at repeated_names m (node piece c) ≡ Some form → RepeatedAt m (node piece c) form
sound m (AnExpr x) c form e = subst (λ z. RepeatedAt m (node (AnExpr z) c) form) (roll-out-Expr x) (at_layer m (out-Expr x) c form e)
sound m (APattern p) c form e = absurd cc
sound m (FirstPattern ps) c form e = absurd cc

complete : (m : Module) (n : Node) → RepeatsDefinition n → form_at repeated_names m n ≡ Some Absent
complete m n (in_letrec functions body h) = ap repeated_names_layer (outs-Letrec functions body) ∙ ap form_if (Repeats-again functions h)

names_exact : IsExact repeated_names RepeatedAt AtNoFunction
names_exact = record {
  node_sound = λ m n form e. sound m n.piece n.context form e;
  node_complete = λ m n form h. (Absent, complete m n h.0, omega arith);
  function_sound = λ m j f e. absurd cc;
  function_complete = λ m j f h. absurd h;
}

-- ---- among the functions of a module

repeats-is : (m : Module) (j : ℕ) (g : Function) → repeats_earlier m.functions j g ≡ true → RepeatsFunction m j g
repeats-is m j g e =
    let r = named-at (take j m.functions) g.name (is_local-Contains (names_of (take j m.functions)) g.name e) in
    let h = take-get m.functions j r.0 r.1 r.2 in
    earlier h.0 h.1 r.3

is-repeats : (m : Module) (k : ℕ) (g : Function) → RepeatsFunction m k g → repeats_earlier m.functions k g ≡ true
is-repeats m k g (earlier {j = j} {other = other} below at is) =
    Contains-is_local (names_of (take k m.functions)) g.name (subst (Contains (names_of (take k m.functions))) is (named (take k m.functions) j other (get-take m.functions k j other below at)))

rising : (kind i : ℕ) (j k : ℕ) → j < k → f.IsUpTo (order_of (fault kind i j 0)) (order_of (fault kind i k 0))
rising kind i j k below = same (same (lower below))

abbrev InModule : ℕ → Module → LintFault → Type 0
InModule i m = IsFaultAt (repeats_earlier m.functions) (λ j. fault 2 i j 0) 0 m.functions

first_in : (i : ℕ) (m : Module) → IsFirst (InModule i m) (fault_at (λ j. fault 2 i j 0) (first_of_names m.functions))
first_in i m = place_first (repeats_earlier m.functions) (λ j. fault 2 i j 0) (rising 2 i) 0 m.functions

placed : (i : ℕ) (m : Module) (y : LintFault) → InModule i m y → (y.kind ≡ 2) × (y.«module» ≡ i)
placed i m y h = (ap (λ (z : LintFault). z.kind) h.2, ap (λ (z : LintFault). z.«module») h.2)

-- ---- both

abbrev InLetrecs : Program → LintFault → Type 0
InLetrecs program = KindFault RepeatedAt AtNoFunction program 2

abbrev Either : Program → LintFault → Type 0
Either program y = InModules InModule 0 program.given y ⊎ InLetrecs program y

plain_function : (program : Program) (y : LintFault) → InModules InModule 0 program.given y → IsPlain 2 y
plain_function program y h = (ap (λ (z : LintFault). z.kind) h.3.2, ap (λ (z : LintFault). z.form) h.3.2)

plain_letrec : (program : Program) (y : LintFault) → InLetrecs program y → IsPlain 2 y
plain_letrec program y (in_function around h) = absurd h
plain_letrec program y (in_node stands h) = (refl, h.1)

either-is : (program : Program) (y : LintFault) → Either program y → IsFaultOf program 2 y
either-is program y (inl h) =
    let z : 0 + h.0 ≡ h.0 = omega arith in
    let w : 0 + h.3.0 ≡ h.3.0 = omega arith in
    let repeats = repeats-is h.1 h.3.0 h.3.1.0 (subst (λ n. repeats_earlier h.1.functions n h.3.1.0 ≡ true) w h.3.1.2) in
    subst (IsFaultOf program 2) (sym (h.3.2 ∙ (λ i. fault 2 (z i) (w i) 0))) (record { holds = f.repeated_function (record { given = h.2; defined = h.3.1.1 }) repeats; of_kind = refl })
either-is program y (inr (in_function around h)) = absurd h
either-is program y (inr (in_node {i = i} {j = j} {k = k} stands h)) = record { holds = subst (λ form. IsFault program (fault_of 2 i j k form)) (sym h.1) (f.repeated_definition stands h.0); of_kind = refl }

is-either : (program : Program) (y : LintFault) → IsFault program y → y.kind ≡ 2 → Either program y
is-either program y (f.repeated_function {i = i} {j = j} {m = m} {f = g} around h) e =
    let z : i ≡ 0 + i = omega arith in
    let w : j ≡ 0 + j = omega arith in
    inl (i, m, around.given, subst (λ n. InModule n m (fault 2 i j 0)) z (j, (g, around.defined, subst (λ n. repeats_earlier m.functions n g ≡ true) w (is-repeats m j g h)), ap (λ n. fault 2 i n 0) w))
is-either program y (f.repeated_definition stands h) e = inr (in_node stands (h, refl))
is-either program y _ e = absurd (omega arith)

pub repeated_names_exact : (program : Program) → IsFirst (IsFaultOf program 2) (e.earlier (first_repeated_function 0 program.given) (first_in_modules repeated_names 2 0 program.given))
repeated_names_exact program =
    first_of (either-is program) (λ y h. (y, is-either program y h.holds h.of_kind, upto_same (order_of y))) _
    (earlier_first 2 (plain_function program) (plain_letrec program) (first_repeated_function 0 program.given) (first_in_modules repeated_names 2 0 program.given)
    (modules_first 2 InModule (λ i m. fault_at (λ j. fault 2 i j 0) (first_of_names m.functions)) first_in placed 0 program.given)
    (holding_first repeated_names RepeatedAt AtNoFunction names_exact program 2 (InLetrecs program) (λ x k. k) (λ x k. k)))
