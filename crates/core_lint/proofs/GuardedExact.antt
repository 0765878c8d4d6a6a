-- The check for forms that a guard may not hold is exact.
use Rattle.std.proofs.Common.{◌≡◌, ℕ, suc, ◌==◌, ◌&&◌, ◌||◌, not, Bool, true, false, List, [], ◌∷◌, length, codes, Option, Some, None, refl, sym, ap, ◌∙◌, subst, eq-eqb, eqb-true, arith}
use Rattle.std.proofs.lemmas.Slice.Eq.{bytes_eq-Decides}
use Rattle.hy_terms.specs.Naming.{text_of}
use Rattle.hy_core.specs.BuiltIn.{operation_named}
use Rattle.hy_core.specs.NodeFaults.{IsForbiddenInGuard, forbidden, IsGuardExpr, integer, atom, nil, variable, let_in, built_in, whole, IsGuardForm, two_caught, three_caught}
use Rattle.hy_core.specs.Nodes.{Piece, AnExpr, APattern, FirstPattern, Context, Node, node}
use Rattle.hy_core.specs.NodeParts.{atom_layer}
use Rattle.hy_core.specs.Resolve.{are_two_or_three}
use Rattle.hy_core.specs.declared.bif.Bif.{Bif}
use Rattle.hy_core.specs.declared.fault.Form.{Form}
use Rattle.hy_core.specs.declared.fault.Form.TheVariants.{Absent}
use Rattle.hy_core.specs.declared.place.Place.{Place}
use Rattle.hy_core.specs.declared.place.Place.TheVariants.{Anywhere, Applied, Timeout, WholeGuard}
use Rattle.hy_core.specs.declared.tree.Clause.{Clause}
use Rattle.hy_core.specs.declared.tree.Expr.{Expr}
use Rattle.hy_core.specs.declared.tree.Expr.TheOpen as layer
use Rattle.hy_core.specs.declared.tree.Expr.TheOpen.{Expr-F}
use Rattle.hy_core.specs.declared.tree.Expr.TheVariants as v
use Rattle.hy_core.specs.declared.tree.Expr.TheViews.{out-Expr, roll-Expr, roll-out-Expr, outs-Int, outs-Atom, outs-Nil, outs-Var, outs-Let, outs-Call, outs-Try}
use Rattle.hy_core.specs.declared.tree.Function.{Function}
use Rattle.hy_core.specs.declared.tree.Module.{Module}
use Rattle.core_names.specs.Called.{called, built_in_as}
use Rattle.core_lint.specs.code.GuardForm.{has_guard_form, is_false, is_variable, is_whole_guard}
use Rattle.core_lint.specs.code.Guards.{guarded, is_allowed, is_plain}
use Rattle.core_walk.specs.Walk.{form_at, form_if}
use Rattle.core_names.specs.declared.built_in.BuiltIn.{BuiltIn}
use Rattle.core_names.specs.declared.built_in.BuiltIn.TheVariants.{Plain}
use Rattle.core_names.proofs.CalledLemmas.{operation-is}
use Rattle.core_lint.proofs.Exact.{IsExact}
use Rattle.core_lint.proofs.OfKind.{AtNoFunction, GuardAt}
use Rattle.core_lint.proofs.RepeatedExact.{form_if-Some}
use Rattle.core_lint.proofs.RepeatedLemmas.{not-true}

-- an expression whose layer is known
pub is_rolled : (x : Expr) (y : Expr-F Expr Clause Function) → out-Expr x ≡ y → x ≡ roll-Expr y
is_rolled x y e = sym (roll-out-Expr x) ∙ ap roll-Expr e

pub and-both : (a b : Bool) → (a && b) ≡ true → (a ≡ true) × (b ≡ true)
and-both true b e = (refl, e)
and-both false b e = absurd cc

pub variable-is : (x : ℕ) (y : Expr) → is_variable x (out-Expr y) ≡ true → y ≡ v.Var x
variable-is x y e = by (out-Expr y) refl e
  where
    by : (z : Expr-F Expr Clause Function) → out-Expr y ≡ z → is_variable x z ≡ true → y ≡ v.Var x
    by (layer.Var w) p e = is_rolled y (layer.Var w) p ∙ v.rolls-Var w ∙ ap v.Var (sym (eqb-true x w e))
    by _ p e = absurd cc

pub atom-is : (y : Expr) (a : ℕ) → atom_layer (out-Expr y) ≡ Some a → y ≡ v.Atom a
atom-is y a e = by (out-Expr y) refl e
  where
    by : (z : Expr-F Expr Clause Function) → out-Expr y ≡ z → atom_layer z ≡ Some a → y ≡ v.Atom a
    by (layer.Atom b) p e = let s : b ≡ a = cc in is_rolled y (layer.Atom b) p ∙ v.rolls-Atom b ∙ ap v.Atom s
    by _ p e = absurd cc

false-is : (m : Module) (y : Expr) → is_false m (out-Expr y) ≡ true → (a : ℕ) × (y ≡ v.Atom a) × (text_of m.atoms a ≡ codes "false")
false-is m y e = by (out-Expr y) refl e
  where
    by : (z : Expr-F Expr Clause Function) → out-Expr y ≡ z → is_false m z ≡ true → (a : ℕ) × (y ≡ v.Atom a) × (text_of m.atoms a ≡ codes "false")
    by (layer.Atom a) p e = (a, is_rolled y (layer.Atom a) p ∙ v.rolls-Atom a, (bytes_eq-Decides (text_of m.atoms a) (codes "false")).0 e)
    by _ p e = absurd cc

-- the test of the guard form
pub guard_form-sound : (m : Module) (x : Expr) (vars : List ℕ) (y : Expr) (caught : List ℕ) (z : Expr) → has_guard_form m vars (out-Expr y) caught (out-Expr z) ≡ true → IsGuardForm m (v.Try x vars y caught z)
guard_form-sound m x [] y caught z e = absurd cc
guard_form-sound m x (a ∷ b ∷ vars) y caught z e = absurd cc
guard_form-sound m x (a ∷ []) y caught z e =
    let h = and-both (is_variable a (out-Expr y)) (are_two_or_three caught && is_false m (out-Expr z)) e in
    let k = and-both (are_two_or_three caught) (is_false m (out-Expr z)) h.1 in
    let f = false-is m z k.1 in
    subst (λ y. IsGuardForm m (v.Try x (a ∷ []) y caught z)) (sym (variable-is a y h.0)) (subst (λ z. IsGuardForm m (v.Try x (a ∷ []) (v.Var a) caught z)) (sym f.1) (caught_by caught f.0 f.2 k.0))
  where
    caught_by : (caught : List ℕ) (n : ℕ) → text_of m.atoms n ≡ codes "false" → are_two_or_three caught ≡ true → IsGuardForm m (v.Try x (a ∷ []) (v.Var a) caught (v.Atom n))
    caught_by [] n t e = absurd cc
    caught_by (b ∷ []) n t e = absurd cc
    caught_by (b ∷ c ∷ []) n t e = two_caught x a b c n t
    caught_by (b ∷ c ∷ d ∷ []) n t e = three_caught x a b c d n t
    caught_by (b ∷ c ∷ d ∷ f ∷ fs) n t e = absurd (many (length fs) e)
      where
        many : (k : ℕ) → ((suc (suc (suc (suc k))) == 2) || (suc (suc (suc (suc k))) == 3)) ≡ true → ⊥
        many k e = by (suc (suc (suc (suc k))) == 2) refl (suc (suc (suc (suc k))) == 3) refl e
          where
            by : (a : Bool) → (suc (suc (suc (suc k))) == 2) ≡ a → (b : Bool) → (suc (suc (suc (suc k))) == 3) ≡ b → (a || b) ≡ true → ⊥
            by true p b q e = let n = eqb-true (suc (suc (suc (suc k)))) 2 p in absurd (omega arith)
            by false p true q e = let n = eqb-true (suc (suc (suc (suc k)))) 3 q in absurd (omega arith)
            by false p false q e = absurd cc

pub guard_form-complete : (m : Module) (t : Expr) → IsGuardForm m t → (x : Expr) × (vars : List ℕ) × (y : Expr) × (caught : List ℕ) × (z : Expr) × (t ≡ v.Try x vars y caught z) × (has_guard_form m vars (out-Expr y) caught (out-Expr z) ≡ true)
guard_form-complete m t (two_caught x a b c n text) = (x, a ∷ [], v.Var a, b ∷ c ∷ [], v.Atom n, refl, holds m a n text (b ∷ c ∷ []) refl)
  where
    holds : (m : Module) (a n : ℕ) → text_of m.atoms n ≡ codes "false" → (caught : List ℕ) → are_two_or_three caught ≡ true → has_guard_form m (a ∷ []) (out-Expr (v.Var a)) caught (out-Expr (v.Atom n)) ≡ true
    holds m a n text caught two =
        ap (λ b. b && (are_two_or_three caught && is_false m (out-Expr (v.Atom n)))) (ap (is_variable a) (outs-Var a) ∙ eq-eqb a a refl)
        ∙ ap (λ b. b && is_false m (out-Expr (v.Atom n))) two ∙ ap (is_false m) (outs-Atom n) ∙ (bytes_eq-Decides (text_of m.atoms n) (codes "false")).1 text
guard_form-complete m t (three_caught x a b c d n text) = (x, a ∷ [], v.Var a, b ∷ c ∷ d ∷ [], v.Atom n, refl, holds m a n text (b ∷ c ∷ d ∷ []) refl)
  where
    holds : (m : Module) (a n : ℕ) → text_of m.atoms n ≡ codes "false" → (caught : List ℕ) → are_two_or_three caught ≡ true → has_guard_form m (a ∷ []) (out-Expr (v.Var a)) caught (out-Expr (v.Atom n)) ≡ true
    holds m a n text caught two =
        ap (λ b. b && (are_two_or_three caught && is_false m (out-Expr (v.Atom n)))) (ap (is_variable a) (outs-Var a) ∙ eq-eqb a a refl)
        ∙ ap (λ b. b && is_false m (out-Expr (v.Atom n))) two ∙ ap (is_false m) (outs-Atom n) ∙ (bytes_eq-Decides (text_of m.atoms n) (codes "false")).1 text

plain-is : (o : Option BuiltIn) → is_plain o ≡ true → (b : Bif) × (o ≡ Some (Plain b))
plain-is None e = absurd cc
plain-is (Some (Plain b)) e = (b, refl)
plain-is (Some _) e = absurd cc

pub whole-is : (place : Place) → is_whole_guard place ≡ true → place ≡ WholeGuard
whole-is Anywhere e = absurd cc
whole-is Applied e = absurd cc
whole-is Timeout e = absurd cc
whole-is WholeGuard e = refl

-- what the test allows, a guard may hold
allowed_at : (m : Module) (place : Place) (y : Expr-F Expr Clause Function) → is_allowed m place y ≡ true → IsGuardExpr m place (roll-Expr y)
allowed_at m place (layer.Int n) e = subst (IsGuardExpr m place) (sym (v.rolls-Int n)) (integer n)
allowed_at m place (layer.Atom a) e = subst (IsGuardExpr m place) (sym (v.rolls-Atom a)) (atom a)
allowed_at m place layer.Nil e = subst (IsGuardExpr m place) (sym v.rolls-Nil) nil
allowed_at m place (layer.Var x) e = subst (IsGuardExpr m place) (sym (v.rolls-Var x)) (variable x)
allowed_at m place (layer.Let vars x y) e = subst (IsGuardExpr m place) (sym (v.rolls-Let vars x y)) (let_in vars x y)
allowed_at m place (layer.Call x y args) e = subst (IsGuardExpr m place) (sym (v.rolls-Call x y args)) (by (atom_layer (out-Expr x)) refl (atom_layer (out-Expr y)) refl (plain-is _ e))
  where
    by : (a : Option ℕ) → atom_layer (out-Expr x) ≡ a → (b : Option ℕ) → atom_layer (out-Expr y) ≡ b → (f : Bif) × (called m.atoms a b (length args) ≡ Some (Plain f)) → IsGuardExpr m place (v.Call x y args)
    by (Some a) p (Some b) q (f, e) =
        let o = operation-is (operation_named (text_of m.atoms a) (text_of m.atoms b) (length args)) (Plain f) e in
        subst (λ x. IsGuardExpr m place (v.Call x y args)) (sym (atom-is x a p)) (subst (λ y. IsGuardExpr m place (v.Call (v.Atom a) y args)) (sym (atom-is y b q)) (built_in a b args f o))
    by (Some a) p None q (f, e) = absurd cc
    by None p b q (f, e) = absurd cc
allowed_at m place (layer.Try x vars y caught z) e =
    let h = and-both (is_whole_guard place) (has_guard_form m vars (out-Expr y) caught (out-Expr z)) e in
    subst (IsGuardExpr m place) (sym (v.rolls-Try x vars y caught z)) (subst (λ p. IsGuardExpr m p (v.Try x vars y caught z)) (sym (whole-is place h.0)) (whole (v.Try x vars y caught z) (guard_form-sound m x vars y caught z h.1)))
allowed_at m place _ e = absurd cc

allowed_kept : (m : Module) (place : Place) (x : Expr) → IsGuardExpr m place x → is_allowed m place (out-Expr x) ≡ true
allowed_kept m place x (integer n) = ap (is_allowed m place) (outs-Int n)
allowed_kept m place x (atom a) = ap (is_allowed m place) (outs-Atom a)
allowed_kept m place x nil = ap (is_allowed m place) outs-Nil
allowed_kept m place x (variable y) = ap (is_allowed m place) (outs-Var y)
allowed_kept m place x (let_in vars y z) = ap (is_allowed m place) (outs-Let vars y z)
allowed_kept m place x (built_in a b args bif e) =
    ap (is_allowed m place) (outs-Call (v.Atom a) (v.Atom b) args)
    ∙ ap (λ z. is_plain (called m.atoms (atom_layer z) (atom_layer (out-Expr (v.Atom b))) (length args))) (outs-Atom a)
    ∙ ap (λ z. is_plain (called m.atoms (Some a) (atom_layer z) (length args))) (outs-Atom b)
    ∙ ap is_plain (ap built_in_as e)
allowed_kept m place x (whole t h) = by (guard_form-complete m t h)
  where
    by : ((x : Expr) × (vars : List ℕ) × (y : Expr) × (caught : List ℕ) × (z : Expr) × (t ≡ v.Try x vars y caught z) × (has_guard_form m vars (out-Expr y) caught (out-Expr z) ≡ true)) → is_allowed m WholeGuard (out-Expr t) ≡ true
    by r = ap (λ t. is_allowed m WholeGuard (out-Expr t)) r.5 ∙ ap (is_allowed m WholeGuard) (outs-Try r.0 r.1 r.2 r.3 r.4) ∙ r.6

sound : (m : Module) (piece : Piece) (c : Context) (form : Form) → form_at guarded m (node piece c) ≡ Some form → GuardAt m (node piece c) form
sound m (AnExpr x) c form e =
    let h = form_if-Some (c.in_guard && not (is_allowed m c.place (out-Expr x))) form e in
    let k = and-both c.in_guard (not (is_allowed m c.place (out-Expr x))) h.0 in
    (forbidden x k.0 (λ g. absurd (cc (allowed_kept m c.place x g, not-true (is_allowed m c.place (out-Expr x)) k.1))), h.1)
sound m (APattern p) c form e = absurd cc
sound m (FirstPattern ps) c form e = absurd cc

complete : (m : Module) (n : Node) → IsForbiddenInGuard m n → form_at guarded m n ≡ Some Absent
complete m n (forbidden {c = c} x guard other) = ap (λ b. form_if (b && not (is_allowed m c.place (out-Expr x)))) guard ∙ by (is_allowed m c.place (out-Expr x)) refl
  where
    by : (b : Bool) → is_allowed m c.place (out-Expr x) ≡ b → form_if (not (is_allowed m c.place (out-Expr x))) ≡ Some Absent
    by true e = absurd (other (subst (IsGuardExpr m c.place) (roll-out-Expr x) (allowed_at m c.place (out-Expr x) e)))
    by false e = ap (λ b. form_if (not b)) e

pub guarded_exact : IsExact guarded GuardAt AtNoFunction
guarded_exact = record {
  node_sound = λ m n form e. sound m n.piece n.context form e;
  node_complete = λ m n form h. (Absent, complete m n h.0, omega arith);
  function_sound = λ m j f e. absurd cc;
  function_complete = λ m j f h. absurd h;
}
