-- The check for forms outside the subset is exact.
use Rattle.std.proofs.Common.{◌≡◌, ℕ, ◌≤◌, ◌&&◌, ℤ, pos, Bool, true, false, List, [], ◌∷◌, length, codes, Option, Some, None, if◌then◌else◌, refl, sym, ap, ◌∙◌, subst, arith}
use Rattle.std.specs.Prelude.{is_some}
use Rattle.std.proofs.lemmas.Bool.Decides.{Decides-int_eq}
use Rattle.std.proofs.lemmas.Slice.Eq.{bytes_eq-Decides}
use Rattle.std.specs.Ordering.{int_eq}
use Rattle.hy_terms.specs.Naming.{text_of}
use Rattle.hy_core.specs.BuiltIn.{operation_named}
use Rattle.hy_core.specs.Faults.{form_place}
use Rattle.hy_core.specs.NodeFaults.{IsForbiddenForm, a_fun, a_value, applies_value, calls_computed, a_try, a_catch, a_primop, a_timeout, a_spawn, IsAtom, an_atom, IsName, a_name, IsListOf, no_element, elements, IsTimeout, at_once, never, IsSpawnable, spawnable, IsGuardForm}
use Rattle.hy_core.specs.Nodes.{Piece, AnExpr, APattern, FirstPattern, Context, Node, node, is_nil_layer}
use Rattle.hy_core.specs.NodeParts.{atom_layer}
use Rattle.hy_core.specs.Resolve.{is_match_fail}
use Rattle.hy_core.specs.declared.fault.Form.{Form}
use Rattle.hy_core.specs.declared.fault.Form.TheVariants as form
use Rattle.hy_core.specs.declared.place.Place.{Place}
use Rattle.hy_core.specs.declared.place.Place.TheVariants.{Anywhere, Applied, Timeout, WholeGuard}
use Rattle.hy_core.specs.declared.tree.Clause.{Clause}
use Rattle.hy_core.specs.declared.tree.Expr.{Expr}
use Rattle.hy_core.specs.declared.tree.Expr.TheOpen as layer
use Rattle.hy_core.specs.declared.tree.Expr.TheOpen.{Expr-F}
use Rattle.hy_core.specs.declared.tree.Expr.TheVariants as v
use Rattle.hy_core.specs.declared.tree.Expr.TheViews.{out-Expr, roll-Expr, roll-out-Expr, outs-Int, outs-Atom, outs-Nil, outs-Name, outs-List, outs-Apply, outs-Call, outs-Primop, outs-Try, outs-Catch, outs-Fun}
use Rattle.hy_core.specs.declared.tree.Function.{Function}
use Rattle.hy_core.specs.declared.tree.Module.{Module}
use Rattle.core_names.specs.Called.{called, built_in_as}
use Rattle.core_lint.specs.code.GuardForm.{has_guard_form, is_whole_guard}
use Rattle.core_lint.specs.code.ForbiddenForms.{is_applied, is_atom, is_for_timeout, is_name, is_spawn, is_spawnable, is_timeout, is_written_list, or_form, own_form, subset, spawn_form, timeout_form, unless}
use Rattle.core_walk.specs.Walk.{form_at}
use Rattle.core_names.specs.declared.built_in.BuiltIn.{BuiltIn}
use Rattle.core_names.specs.declared.built_in.BuiltIn.TheVariants.{Spawn}
use Rattle.core_names.proofs.CalledLemmas.{operation-is}
use Rattle.core_lint.proofs.Exact.{IsExact}
use Rattle.core_lint.proofs.GuardedExact.{and-both, atom-is, guard_form-sound, guard_form-complete, is_rolled, whole-is}
use Rattle.core_lint.proofs.OfKind.{AtNoFunction, FormAt}

unless-Some : (b : Bool) (f g : Form) → unless b f ≡ Some g → (b ≡ false) × (f ≡ g)
unless-Some true f g e = absurd cc
unless-Some false f g e = (refl, cc)

name-is : (x : Expr) → is_name (out-Expr x) ≡ true → IsName x
name-is x e = by (out-Expr x) refl e
  where
    by : (z : Expr-F Expr Clause Function) → out-Expr x ≡ z → is_name z ≡ true → IsName x
    by (layer.Name f) p e = subst IsName (sym (is_rolled x (layer.Name f) p ∙ v.rolls-Name f)) (a_name f)
    by _ p e = absurd cc

is-name : (x : Expr) → IsName x → is_name (out-Expr x) ≡ true
is-name x (a_name f) = ap is_name (outs-Name f)

is_atom-is : (x : Expr) → is_atom x ≡ true → IsAtom x
is_atom-is x e = by (atom_layer (out-Expr x)) refl e
  where
    by : (o : Option ℕ) → atom_layer (out-Expr x) ≡ o → is_some o ≡ true → IsAtom x
    by (Some a) p e = subst IsAtom (sym (atom-is x a p)) (an_atom a)
    by None p e = absurd cc

is-atom : (x : Expr) → IsAtom x → is_atom x ≡ true
is-atom x (an_atom a) = ap (λ y. is_some (atom_layer y)) (outs-Atom a)

applied-not : (place : Place) → is_applied place ≡ false → place ≡ Applied → ⊥
applied-not place e p = absurd (cc (ap is_applied p, e))

applied-false : (place : Place) → (place ≡ Applied → ⊥) → is_applied place ≡ false
applied-false Anywhere h = refl
applied-false Applied h = absurd (h refl)
applied-false Timeout h = refl
applied-false WholeGuard h = refl

false-of : (b : Bool) → (b ≡ true → ⊥) → b ≡ false
false-of true h = absurd (h refl)
false-of false h = refl

both-true : (a b : Bool) → a ≡ true → b ≡ true → (a && b) ≡ true
both-true true b p q = q
both-true false b p q = absurd cc

-- the test of a `try`, by its layer
abbrev try_test : Module → Expr-F Expr Clause Function → Bool
try_test m (layer.Try x vars y caught z) = has_guard_form m vars (out-Expr y) caught (out-Expr z)
try_test m _ = false

try-true : (m : Module) (place : Place) (x : Expr) (vars : List ℕ) (y : Expr) (caught : List ℕ) (z : Expr) → (place ≡ WholeGuard) × IsGuardForm m (v.Try x vars y caught z) → (is_whole_guard place && has_guard_form m vars (out-Expr y) caught (out-Expr z)) ≡ true
try-true m place x vars y caught z h =
    let r = guard_form-complete m (v.Try x vars y caught z) h.1 in
    let test = ap (λ t. try_test m (out-Expr t)) r.5 ∙ ap (try_test m) (outs-Try r.0 r.1 r.2 r.3 r.4) ∙ r.6 in
    both-true (is_whole_guard place) (has_guard_form m vars (out-Expr y) caught (out-Expr z)) (ap is_whole_guard h.0) (sym (ap (try_test m) (outs-Try x vars y caught z)) ∙ test)

-- the form that an expression has by what it is
own_at : (m : Module) (y : Expr-F Expr Clause Function) (c : Context) (g : Form) → own_form m c.place y ≡ Some g → IsForbiddenForm m (node (AnExpr (roll-Expr y)) c) g
own_at m (layer.Name f) c g e =
    let h = unless-Some (is_applied c.place) form.Name g e in
    subst (IsForbiddenForm m (node (AnExpr (roll-Expr (layer.Name f))) c)) h.1 (subst (λ z. IsForbiddenForm m (node (AnExpr z) c) form.Name) (sym (v.rolls-Name f)) (a_value f (applied-not c.place h.0)))
own_at m (layer.Apply what args) c g e =
    let h = unless-Some (is_name (out-Expr what)) form.Apply g e in
    subst (IsForbiddenForm m (node (AnExpr (roll-Expr (layer.Apply what args))) c)) h.1
    (subst (λ z. IsForbiddenForm m (node (AnExpr z) c) form.Apply) (sym (v.rolls-Apply what args)) (applies_value what args (λ n. absurd (cc (is-name what n, h.0)))))
own_at m (layer.Call x y args) c g e =
    let h = unless-Some (is_atom x && is_atom y) form.Call g e in
    subst (IsForbiddenForm m (node (AnExpr (roll-Expr (layer.Call x y args))) c)) h.1
    (subst (λ z. IsForbiddenForm m (node (AnExpr z) c) form.Call) (sym (v.rolls-Call x y args)) (calls_computed x y args (λ n. absurd (cc (both-true (is_atom x) (is_atom y) (is-atom x n.0) (is-atom y n.1), h.0)))))
own_at m (layer.Primop a args) c g e =
    let h = unless-Some (is_match_fail (text_of m.atoms a) (length args)) form.Primop g e in
    subst (IsForbiddenForm m (node (AnExpr (roll-Expr (layer.Primop a args))) c)) h.1
    (subst (λ z. IsForbiddenForm m (node (AnExpr z) c) form.Primop) (sym (v.rolls-Primop a args)) (a_primop a args (λ n. absurd (cc (n, h.0)))))
own_at m (layer.Try x vars y caught z) c g e =
    let h = unless-Some (is_whole_guard c.place && has_guard_form m vars (out-Expr y) caught (out-Expr z)) form.Try g e in
    subst (IsForbiddenForm m (node (AnExpr (roll-Expr (layer.Try x vars y caught z))) c)) h.1
    (subst (λ z. IsForbiddenForm m (node (AnExpr z) c) form.Try) (sym (v.rolls-Try x vars y caught z)) (a_try vars caught x y z (λ n. absurd (cc (try-true m c.place x vars y caught z n, h.0)))))
own_at m (layer.Catch x) c g e = let s : form.Catch ≡ g = cc in subst (IsForbiddenForm m (node (AnExpr (roll-Expr (layer.Catch x))) c)) s (subst (λ z. IsForbiddenForm m (node (AnExpr z) c) form.Catch) (sym (v.rolls-Catch x)) (a_catch x))
own_at m (layer.Fun params x) c g e = let s : form.Fun ≡ g = cc in subst (IsForbiddenForm m (node (AnExpr (roll-Expr (layer.Fun params x))) c)) s (subst (λ z. IsForbiddenForm m (node (AnExpr z) c) form.Fun) (sym (v.rolls-Fun params x)) (a_fun params x))
own_at m _ c g e = absurd cc

int_zero : (n : ℤ) → int_eq n (pos 0) ≡ true → n ≡ pos 0
int_zero n e = (Decides-int_eq n (pos 0)).0 e

timeout-is : (m : Module) (x : Expr) → is_timeout m (out-Expr x) ≡ true → IsTimeout m x
timeout-is m x e = by (out-Expr x) refl e
  where
    by : (z : Expr-F Expr Clause Function) → out-Expr x ≡ z → is_timeout m z ≡ true → IsTimeout m x
    by (layer.Int n) p e = subst (IsTimeout m) (sym (is_rolled x (layer.Int n) p ∙ v.rolls-Int n ∙ ap v.Int (int_zero n e))) at_once
    by (layer.Atom a) p e = subst (IsTimeout m) (sym (is_rolled x (layer.Atom a) p ∙ v.rolls-Atom a)) (never a ((bytes_eq-Decides (text_of m.atoms a) (codes "infinity")).0 e))
    by _ p e = absurd cc

is-timeout : (m : Module) (x : Expr) → IsTimeout m x → is_timeout m (out-Expr x) ≡ true
is-timeout m x at_once = ap (is_timeout m) (outs-Int (pos 0))
is-timeout m x (never a h) = ap (is_timeout m) (outs-Atom a) ∙ (bytes_eq-Decides (text_of m.atoms a) (codes "infinity")).1 h

place-timeout : (place : Place) → is_for_timeout place ≡ true → place ≡ Timeout
place-timeout Anywhere e = absurd cc
place-timeout Applied e = absurd cc
place-timeout Timeout e = refl
place-timeout WholeGuard e = absurd cc

timeout_at : (m : Module) (x : Expr) (c : Context) (g : Form) → timeout_form m c.place (out-Expr x) ≡ Some g → IsForbiddenForm m (node (AnExpr x) c) g × (g ≡ form.Timeout)
timeout_at m x c g e = by (is_for_timeout c.place) refl e
  where
    by : (b : Bool) → is_for_timeout c.place ≡ b → (if b then unless (is_timeout m (out-Expr x)) form.Timeout else None) ≡ Some g → IsForbiddenForm m (node (AnExpr x) c) g × (g ≡ form.Timeout)
    by true p e =
        let h = unless-Some (is_timeout m (out-Expr x)) form.Timeout g e in
        (subst (IsForbiddenForm m (node (AnExpr x) c)) h.1 (a_timeout x (place-timeout c.place p) (λ t. absurd (cc (is-timeout m x t, h.0)))), sym h.1)
    by false p e = absurd cc

pub nil-is : (x : Expr) → is_nil_layer (out-Expr x) ≡ true → x ≡ v.Nil
nil-is x e = by (out-Expr x) refl e
  where
    by : (z : Expr-F Expr Clause Function) → out-Expr x ≡ z → is_nil_layer z ≡ true → x ≡ v.Nil
    by layer.Nil p e = is_rolled x layer.Nil p ∙ v.rolls-Nil
    by _ p e = absurd cc

list-is : (x : Expr) → is_written_list (out-Expr x) ≡ true → (n : ℕ) × IsListOf x n
list-is x e = by (out-Expr x) refl e
  where
    by : (z : Expr-F Expr Clause Function) → out-Expr x ≡ z → is_written_list z ≡ true → (n : ℕ) × IsListOf x n
    by layer.Nil p e = (0, subst (λ z. IsListOf z 0) (sym (is_rolled x layer.Nil p ∙ v.rolls-Nil)) no_element)
    by (layer.List site heads tail) p e =
        (length heads, subst (λ z. IsListOf z (length heads)) (sym (is_rolled x (layer.List site heads tail) p ∙ v.rolls-List site heads tail ∙ ap (v.List site heads) (nil-is tail e))) (elements site heads))
    by _ p e = absurd cc

is-list : (x : Expr) (n : ℕ) → IsListOf x n → is_written_list (out-Expr x) ≡ true
is-list x n no_element = ap is_written_list outs-Nil
is-list x n (elements site heads) = ap is_written_list (outs-List site heads v.Nil) ∙ ap is_nil_layer outs-Nil

spawnable-is : (m : Module) (args : List Expr) → is_spawnable args ≡ true → IsSpawnable m args
spawnable-is m [] e = absurd cc
spawnable-is m (x ∷ []) e = absurd cc
spawnable-is m (x ∷ y ∷ []) e = absurd cc
spawnable-is m (x ∷ y ∷ list ∷ []) e =
    let h = and-both (is_atom x && is_atom y) (is_written_list (out-Expr list)) e in
    let k = and-both (is_atom x) (is_atom y) h.0 in
    let l = list-is list h.1 in
    spawnable x y list l.0 (is_atom-is x k.0) (is_atom-is y k.1) l.1
spawnable-is m (x ∷ y ∷ list ∷ z ∷ zs) e = absurd cc

is-spawnable : (m : Module) (args : List Expr) → IsSpawnable m args → is_spawnable args ≡ true
is-spawnable m args (spawnable x y list n a b l) = both-true (is_atom x && is_atom y) (is_written_list (out-Expr list)) (both-true (is_atom x) (is_atom y) (is-atom x a) (is-atom y b)) (is-list list n l)

spawn-is : (o : Option BuiltIn) → is_spawn o ≡ true → o ≡ Some Spawn
spawn-is None e = absurd cc
spawn-is (Some Spawn) e = refl
spawn-is (Some _) e = absurd cc

spawn_at : (m : Module) (y : Expr-F Expr Clause Function) (c : Context) (g : Form) → spawn_form m y ≡ Some g → IsForbiddenForm m (node (AnExpr (roll-Expr y)) c) g
spawn_at m (layer.Call x y args) c g e = by (is_spawn (called m.atoms (atom_layer (out-Expr x)) (atom_layer (out-Expr y)) (length args))) refl e
  where
    with_atoms : (a : Option ℕ) → atom_layer (out-Expr x) ≡ a → (b : Option ℕ) → atom_layer (out-Expr y) ≡ b → called m.atoms a b (length args) ≡ Some Spawn → (IsSpawnable m args → ⊥) → IsForbiddenForm m (node (AnExpr (v.Call x y args)) c) form.Spawn
    with_atoms (Some a) p (Some b) q e h =
        let o = operation-is (operation_named (text_of m.atoms a) (text_of m.atoms b) (length args)) Spawn e in
        subst (λ x. IsForbiddenForm m (node (AnExpr (v.Call x y args)) c) form.Spawn) (sym (atom-is x a p))
        (subst (λ y. IsForbiddenForm m (node (AnExpr (v.Call (v.Atom a) y args)) c) form.Spawn) (sym (atom-is y b q)) (a_spawn a b args o h))
    with_atoms (Some a) p None q e h = absurd cc
    with_atoms None p b q e h = absurd cc

    by : (b : Bool) → is_spawn (called m.atoms (atom_layer (out-Expr x)) (atom_layer (out-Expr y)) (length args)) ≡ b → (if b then unless (is_spawnable args) form.Spawn else None) ≡ Some g → IsForbiddenForm m (node (AnExpr (roll-Expr (layer.Call x y args))) c) g
    by true p e =
        let h = unless-Some (is_spawnable args) form.Spawn g e in
        subst (IsForbiddenForm m (node (AnExpr (roll-Expr (layer.Call x y args))) c)) h.1
        (subst (λ z. IsForbiddenForm m (node (AnExpr z) c) form.Spawn) (sym (v.rolls-Call x y args)) (with_atoms (atom_layer (out-Expr x)) refl (atom_layer (out-Expr y)) refl (spawn-is _ p) (λ s. absurd (cc (is-spawnable m args s, h.0)))))
    by false p e = absurd cc
spawn_at m _ c g e = absurd cc

sound : (m : Module) (piece : Piece) (c : Context) (g : Form) → form_at subset m (node piece c) ≡ Some g → IsForbiddenForm m (node piece c) g
sound m (AnExpr x) c g e = by (own_form m c.place (out-Expr x)) refl (timeout_form m c.place (out-Expr x)) refl e
  where
    by : (o : Option Form) → own_form m c.place (out-Expr x) ≡ o → (t : Option Form) → timeout_form m c.place (out-Expr x) ≡ t → or_form o (or_form t (spawn_form m (out-Expr x))) ≡ Some g → IsForbiddenForm m (node (AnExpr x) c) g
    by (Some f) p t q e = subst (λ z. IsForbiddenForm m (node (AnExpr z) c) g) (roll-out-Expr x) (own_at m (out-Expr x) c g (p ∙ e))
    by None p (Some f) q e = (timeout_at m x c g (q ∙ e)).0
    by None p None q e = subst (λ z. IsForbiddenForm m (node (AnExpr z) c) g) (roll-out-Expr x) (spawn_at m (out-Expr x) c g e)
sound m (APattern p) c g e = absurd cc
sound m (FirstPattern ps) c g e = absurd cc

-- the forms in the order in which they are reported

unless-place : (b : Bool) (f g : Form) (n : ℕ) → unless b f ≡ Some g → form_place f ≤ n → form_place g ≤ n
unless-place b f g n e h = subst (λ z. form_place z ≤ n) (unless-Some b f g e).1 h

own-place : (m : Module) (place : Place) (y : Expr-F Expr Clause Function) (g : Form) → own_form m place y ≡ Some g → form_place g ≤ 7
own-place m place (layer.Name f) g e = unless-place (is_applied place) form.Name g 7 e (omega arith)
own-place m place (layer.Apply what args) g e = unless-place (is_name (out-Expr what)) form.Apply g 7 e (omega arith)
own-place m place (layer.Call x y args) g e = unless-place (is_atom x && is_atom y) form.Call g 7 e (omega arith)
own-place m place (layer.Primop a args) g e = unless-place (is_match_fail (text_of m.atoms a) (length args)) form.Primop g 7 e (omega arith)
own-place m place (layer.Try x vars y caught z) g e = unless-place (is_whole_guard place && has_guard_form m vars (out-Expr y) caught (out-Expr z)) form.Try g 7 e (omega arith)
own-place m place (layer.Catch x) g e = let s : form.Catch ≡ g = cc in subst (λ z. form_place z ≤ 7) s (omega arith)
own-place m place (layer.Fun params x) g e = let s : form.Fun ≡ g = cc in subst (λ z. form_place z ≤ 7) s (omega arith)
own-place m place _ g e = absurd cc

abbrev Least : Module → Expr → Context → Form → Type 0
Least m x c g = (least : Form) × (form_at subset m (node (AnExpr x) c) ≡ Some least) × (form_place least ≤ form_place g)

own-least : (m : Module) (x : Expr) (c : Context) (g : Form) → own_form m c.place (out-Expr x) ≡ Some g → Least m x c g
own-least m x c g e = (g, ap (λ o. or_form o (or_form (timeout_form m c.place (out-Expr x)) (spawn_form m (out-Expr x)))) e, omega arith)

timeout-least : (m : Module) (x : Expr) (c : Context) → timeout_form m c.place (out-Expr x) ≡ Some form.Timeout → Least m x c form.Timeout
timeout-least m x c e = by (own_form m c.place (out-Expr x)) refl
  where
    by : (o : Option Form) → own_form m c.place (out-Expr x) ≡ o → Least m x c form.Timeout
    by (Some f) p = (f, ap (λ o. or_form o (or_form (timeout_form m c.place (out-Expr x)) (spawn_form m (out-Expr x)))) p, omega (arith, own-place m c.place (out-Expr x) f p))
    by None p = (form.Timeout, ap (λ o. or_form o (or_form (timeout_form m c.place (out-Expr x)) (spawn_form m (out-Expr x)))) p ∙ ap (λ o. or_form o (spawn_form m (out-Expr x))) e, omega arith)

spawn-least : (m : Module) (x : Expr) (c : Context) → spawn_form m (out-Expr x) ≡ Some form.Spawn → Least m x c form.Spawn
spawn-least m x c e = by (own_form m c.place (out-Expr x)) refl (timeout_form m c.place (out-Expr x)) refl
  where
    by : (o : Option Form) → own_form m c.place (out-Expr x) ≡ o → (t : Option Form) → timeout_form m c.place (out-Expr x) ≡ t → Least m x c form.Spawn
    by (Some f) p t q = (f, ap (λ o. or_form o (or_form (timeout_form m c.place (out-Expr x)) (spawn_form m (out-Expr x)))) p, omega (arith, own-place m c.place (out-Expr x) f p))
    by None p (Some f) q =
        let s = (timeout_at m x c f q).1 in
        (f, ap (λ o. or_form o (or_form (timeout_form m c.place (out-Expr x)) (spawn_form m (out-Expr x)))) p ∙ ap (λ o. or_form o (spawn_form m (out-Expr x))) q, subst (λ z. form_place z ≤ 9) (sym s) (omega arith))
    by None p None q =
        (form.Spawn, ap (λ o. or_form o (or_form (timeout_form m c.place (out-Expr x)) (spawn_form m (out-Expr x)))) p ∙ ap (λ o. or_form o (spawn_form m (out-Expr x))) q ∙ e, omega arith)

least : (m : Module) (n : Node) (g : Form) → IsForbiddenForm m n g → (best : Form) × (form_at subset m n ≡ Some best) × (form_place best ≤ form_place g)
least m n g (a_fun {c = c} params x) = own-least m (v.Fun params x) c form.Fun (ap (own_form m c.place) (outs-Fun params x))
least m n g (a_value {c = c} f h) = own-least m (v.Name f) c form.Name (ap (own_form m c.place) (outs-Name f) ∙ ap (λ b. unless b form.Name) (applied-false c.place h))
least m n g (applies_value {c = c} what args h) =
    own-least m (v.Apply what args) c form.Apply (ap (own_form m c.place) (outs-Apply what args) ∙ ap (λ b. unless b form.Apply) (false-of (is_name (out-Expr what)) (λ e. h (name-is what e))))
least m n g (calls_computed {c = c} x y args h) =
    own-least m (v.Call x y args) c form.Call (ap (own_form m c.place) (outs-Call x y args) ∙ ap (λ b. unless b form.Call) (false-of (is_atom x && is_atom y) (λ e. let k = and-both (is_atom x) (is_atom y) e in h (is_atom-is x k.0, is_atom-is y k.1))))
least m n g (a_try {c = c} vars caught x y z h) =
    own-least m (v.Try x vars y caught z) c form.Try (ap (own_form m c.place) (outs-Try x vars y caught z) ∙ ap (λ b. unless b form.Try) (false-of (is_whole_guard c.place && has_guard_form m vars (out-Expr y) caught (out-Expr z)) (λ e. let k = and-both (is_whole_guard c.place) (has_guard_form m vars (out-Expr y) caught (out-Expr z)) e in h (whole-is c.place k.0, guard_form-sound m x vars y caught z k.1))))
least m n g (a_catch {c = c} x) = own-least m (v.Catch x) c form.Catch (ap (own_form m c.place) (outs-Catch x))
least m n g (a_primop {c = c} a args h) =
    own-least m (v.Primop a args) c form.Primop (ap (own_form m c.place) (outs-Primop a args) ∙ ap (λ b. unless b form.Primop) (false-of (is_match_fail (text_of m.atoms a) (length args)) h))
least m n g (a_timeout {c = c} x p h) =
    timeout-least m x c (ap (λ q. if is_for_timeout q then unless (is_timeout m (out-Expr x)) form.Timeout else None) p ∙ ap (λ b. unless b form.Timeout) (false-of (is_timeout m (out-Expr x)) (λ e. h (timeout-is m x e))))
least m n g (a_spawn {c = c} a b args op h) =
    spawn-least m (v.Call (v.Atom a) (v.Atom b) args) c
    (ap (spawn_form m) (outs-Call (v.Atom a) (v.Atom b) args)
    ∙ ap (λ z. if is_spawn (called m.atoms (atom_layer z) (atom_layer (out-Expr (v.Atom b))) (length args)) then unless (is_spawnable args) form.Spawn else None) (outs-Atom a)
    ∙ ap (λ z. if is_spawn (called m.atoms (Some a) (atom_layer z) (length args)) then unless (is_spawnable args) form.Spawn else None) (outs-Atom b)
    ∙ ap (λ o. if is_spawn o then unless (is_spawnable args) form.Spawn else None) (ap built_in_as op)
    ∙ ap (λ b. unless b form.Spawn) (false-of (is_spawnable args) (λ e. h (spawnable-is m args e))))

pub subset_exact : IsExact subset FormAt AtNoFunction
subset_exact = record {
  node_sound = λ m n g e. sound m n.piece n.context g e;
  node_complete = least;
  function_sound = λ m j f e. absurd cc;
  function_complete = λ m j f h. absurd h;
}
