-- The check for numbers of values is exact.
use Rattle.std.proofs.Common.{◌≡◌, ℕ, zero, suc, ◌<◌, ◌==◌, ◌&&◌, ◌||◌, not, Bool, true, false, List, [], ◌∷◌, length, Option, Some, None, refl, sym, ap, ◌∙◌, subst, eq-eqb, eqb-true, arith}
use Rattle.std.specs.List.{Contains, slice_index_or}
use Rattle.hy_core.specs.NodeFaults.{HasWrongValues, other_number, case_patterns, receive_patterns, gives}
use Rattle.hy_core.specs.Nodes.{Piece, AnExpr, APattern, FirstPattern, Context, Node, node, patterns_of_first}
use Rattle.hy_core.specs.declared.fault.Form.{Form}
use Rattle.hy_core.specs.declared.fault.Form.TheVariants.{Absent}
use Rattle.hy_core.specs.declared.tree.Clause.{Clause}
use Rattle.hy_core.specs.declared.tree.Expr.{Expr}
use Rattle.hy_core.specs.declared.tree.Expr.TheOpen as layer
use Rattle.hy_core.specs.declared.tree.Expr.TheOpen.{Expr-F}
use Rattle.hy_core.specs.declared.tree.Expr.TheVariants as v
use Rattle.hy_core.specs.declared.tree.Expr.TheViews.{out-Expr, roll-Expr, roll-out-Expr, outs-Case, outs-Receive}
use Rattle.hy_core.specs.declared.tree.Function.{Function}
use Rattle.hy_core.specs.declared.tree.Module.{Module}
use Rattle.core_lint.specs.code.WrongValues.{all_have, differs, valued, wrong_patterns}
use Rattle.core_walk.specs.Walk.{form_at, form_if}
use Rattle.core_lint.proofs.Exact.{IsExact}
use Rattle.core_lint.proofs.OfKind.{AtNoFunction, ValuesAt}
use Rattle.core_lint.proofs.RepeatedExact.{form_if-Some}
use Rattle.core_lint.proofs.RepeatedLemmas.{not-true, or-true}

differs-Some : (o : Option ℕ) (needs : ℕ) → differs o needs ≡ true → (n : ℕ) × (o ≡ Some n) × (n ≡ needs → ⊥)
differs-Some None needs e = absurd cc
differs-Some (Some n) needs e = (n, refl, λ h. absurd (cc (eq-eqb n needs h, not-true (n == needs) e)))

differs-true : (o : Option ℕ) (needs n : ℕ) → o ≡ Some n → (n ≡ needs → ⊥) → differs o needs ≡ true
differs-true o needs n is other = ap (λ o. differs o needs) is ∙ by (n == needs) refl
  where
    by : (b : Bool) → (n == needs) ≡ b → not (n == needs) ≡ true
    by true e = absurd (other (eqb-true n needs e))
    by false e = ap not e

other-found : (n : ℕ) (ks : List Clause) → all_have n ks ≡ false → (k : Clause) × Contains ks k × (length k.patterns ≡ n → ⊥)
other-found n [] e = absurd cc
other-found n (k ∷ ks) e = by (length k.patterns == n) refl e (other-found n ks)
  where
    by : (b : Bool) → (length k.patterns == n) ≡ b → (b && all_have n ks) ≡ false → (all_have n ks ≡ false → (j : Clause) × Contains ks j × (length j.patterns ≡ n → ⊥)) → (j : Clause) × Contains (k ∷ ks) j × (length j.patterns ≡ n → ⊥)
    by true p e later = let h = later e in (h.0, (suc h.1.0, omega (arith, h.1.1), h.1.2), h.2)
    by false p e later = (k, (0, omega arith, refl), λ h. absurd (cc (eq-eqb (length k.patterns) n h, p)))

other-kept : (n : ℕ) (k : Clause) → (length k.patterns ≡ n → ⊥) → (ks : List Clause) (i : ℕ) → i < length ks → slice_index_or ks i k ≡ k → all_have n ks ≡ false
other-kept n k other [] i below is = absurd (omega arith)
other-kept n k other (j ∷ ks) zero below is = ap (λ b. b && all_have n ks) (by (length j.patterns == n) refl)
  where
    by : (b : Bool) → (length j.patterns == n) ≡ b → (length j.patterns == n) ≡ false
    by true e = absurd (other (ap (λ (k : Clause). length k.patterns) (sym is) ∙ eqb-true (length j.patterns) n e))
    by false e = e
other-kept n k other (j ∷ ks) (suc i) below is = ap (λ b. (length j.patterns == n) && b) (other-kept n k other ks i (omega arith) is) ∙ by (length j.patterns == n)
  where
    by : (b : Bool) → (b && false) ≡ false
    by true = refl
    by false = refl

patterns_at : (m : Module) (y : Expr-F Expr Clause Function) (c : Context) → wrong_patterns y ≡ true → HasWrongValues m (node (AnExpr (roll-Expr y)) c)
patterns_at m (layer.Case x ks) c e =
    let h = other-found (patterns_of_first ks) ks (not-true _ e) in
    subst (λ z. HasWrongValues m (node (AnExpr z) c)) (sym (v.rolls-Case x ks)) (case_patterns x ks h.0 h.1 h.2)
patterns_at m (layer.Receive ks x y) c e =
    let h = other-found 1 ks (not-true _ e) in
    subst (λ z. HasWrongValues m (node (AnExpr z) c)) (sym (v.rolls-Receive ks x y)) (receive_patterns x y ks h.0 h.1 h.2)
patterns_at m _ c e = absurd cc

sound : (m : Module) (piece : Piece) (c : Context) (form : Form) → form_at valued m (node piece c) ≡ Some form → ValuesAt m (node piece c) form
sound m (AnExpr x) c form e = let h = form_if-Some (differs (gives m x) c.needs || wrong_patterns (out-Expr x)) form e in (by (differs (gives m x) c.needs) refl h.0, h.1)
  where
    by : (b : Bool) → differs (gives m x) c.needs ≡ b → (b || wrong_patterns (out-Expr x)) ≡ true → HasWrongValues m (node (AnExpr x) c)
    by true p e = let h = differs-Some (gives m x) c.needs p in other_number x h.0 h.1 h.2
    by false p e = subst (λ z. HasWrongValues m (node (AnExpr z) c)) (roll-out-Expr x) (patterns_at m (out-Expr x) c e)
sound m (APattern p) c form e = absurd cc
sound m (FirstPattern ps) c form e = absurd cc

complete : (m : Module) (n : Node) → HasWrongValues m n → form_at valued m n ≡ Some Absent
complete m n (other_number {c = c} x k is other) = ap (λ b. form_if (b || wrong_patterns (out-Expr x))) (differs-true (gives m x) c.needs k is other)
complete m n (case_patterns {c = c} x ks k h other) =
    ap (λ b. form_if (differs (gives m (v.Case x ks)) c.needs || b)) (ap wrong_patterns (outs-Case x ks) ∙ ap not (other-kept (patterns_of_first ks) k other ks h.0 h.1 h.2)) ∙ ap form_if (or-true (differs (gives m (v.Case x ks)) c.needs))
complete m n (receive_patterns {c = c} x y ks k h other) =
    ap (λ b. form_if (differs (gives m (v.Receive ks x y)) c.needs || b)) (ap wrong_patterns (outs-Receive ks x y) ∙ ap not (other-kept 1 k other ks h.0 h.1 h.2)) ∙ ap form_if (or-true (differs (gives m (v.Receive ks x y)) c.needs))

pub valued_exact : IsExact valued ValuesAt AtNoFunction
valued_exact = record {
  node_sound = λ m n form e. sound m n.piece n.context form e;
  node_complete = λ m n form h. (Absent, complete m n h.0, omega arith);
  function_sound = λ m j f e. absurd cc;
  function_complete = λ m j f h. absurd h;
}
