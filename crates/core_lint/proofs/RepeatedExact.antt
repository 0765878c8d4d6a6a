-- The check for variables that are bound twice at once is exact.
use Rattle.std.proofs.Common.{◌≡◌, ℕ, ◌||◌, zero, suc, ◌<◌, Bool, true, false, List, [], ◌∷◌, length, Some, refl, sym, ap, ◌∙◌, subst, arith}
use Rattle.std.specs.List.{Contains, slice_index_or}
use Rattle.hy_core.specs.NodeFaults.{Repeats, RepeatsVariable, in_patterns, in_let, in_fun, in_try, in_catch, in_definition}
use Rattle.hy_core.specs.Nodes.{Piece, AnExpr, APattern, FirstPattern, Context, Node, node}
use Rattle.hy_core.specs.SubPatterns.{clause_variables}
use Rattle.hy_core.specs.declared.fault.Form.{Form}
use Rattle.hy_core.specs.declared.fault.Form.TheVariants.{Absent}
use Rattle.hy_core.specs.declared.tree.Clause.{Clause}
use Rattle.hy_core.specs.declared.tree.Expr.{Expr}
use Rattle.hy_core.specs.declared.tree.Expr.TheOpen as layer
use Rattle.hy_core.specs.declared.tree.Expr.TheOpen.{Expr-F}
use Rattle.hy_core.specs.declared.tree.Expr.TheVariants as v
use Rattle.hy_core.specs.declared.tree.Expr.TheViews.{out-Expr, roll-Expr, roll-out-Expr, outs-Let, outs-Letrec, outs-Try, outs-Fun}
use Rattle.hy_core.specs.declared.tree.Function.{Function}
use Rattle.hy_core.specs.declared.tree.Module.{Module}
use Rattle.core_lint.specs.code.RepeatedVariables.{repeated, repeated_layer, repeats, repeats_parameter}
use Rattle.core_walk.specs.Walk.{form_at, form_if}
use Rattle.core_lint.proofs.Exact.{IsExact}
use Rattle.core_lint.proofs.OfKind.{RepeatedAt, RepeatedParameter}
use Rattle.core_lint.proofs.RepeatedLemmas.{or-true, repeats-Repeats, Repeats-repeats}

pub form_if-Some : (b : Bool) (form : Form) → form_if b ≡ Some form → (b ≡ true) × (form ≡ Absent)
form_if-Some true form e = (refl, cc)
form_if-Some false form e = absurd cc

parameter-found : (fs : List Function) → repeats_parameter fs ≡ true → (f : Function) × Contains fs f × Repeats f.params
parameter-found [] e = absurd cc
parameter-found (f ∷ fs) e = by (repeats f.params) refl e (parameter-found fs)
  where
    by : (b : Bool) → repeats f.params ≡ b → (b || repeats_parameter fs) ≡ true → (repeats_parameter fs ≡ true → (g : Function) × Contains fs g × Repeats g.params) → (g : Function) × Contains (f ∷ fs) g × Repeats g.params
    by true p e later = (f, (0, omega arith, refl), repeats-Repeats f.params p)
    by false p e later = let h = later e in (h.0, (suc h.1.0, omega (arith, h.1.1), h.1.2), h.2)

parameter-kept : (f : Function) → repeats f.params ≡ true → (fs : List Function) (k : ℕ) → k < length fs → slice_index_or fs k f ≡ f → repeats_parameter fs ≡ true
parameter-kept f e [] k below is = absurd (omega arith)
parameter-kept f e (g ∷ fs) zero below is = ap (λ h. repeats h.params || repeats_parameter fs) is ∙ ap (λ b. b || repeats_parameter fs) e
parameter-kept f e (g ∷ fs) (suc k) below is = ap (λ b. repeats g.params || b) (parameter-kept f e fs k (omega arith) is) ∙ or-true (repeats g.params)

at_layer : (m : Module) (y : Expr-F Expr Clause Function) (c : Context) (form : Form) → repeated_layer y ≡ Some form → RepeatedAt m (node (AnExpr (roll-Expr y)) c) form
at_layer m (layer.Let vars x y) c form e =
    let h = form_if-Some (repeats vars) form e in
    (subst (λ z. RepeatsVariable (node (AnExpr z) c)) (sym (v.rolls-Let vars x y)) (in_let vars x y (repeats-Repeats vars h.0)), h.1)
at_layer m (layer.Letrec fs x) c form e =
    let h = form_if-Some (repeats_parameter fs) form e in
    let p = parameter-found fs h.0 in
    (subst (λ z. RepeatsVariable (node (AnExpr z) c)) (sym (v.rolls-Letrec fs x)) (in_definition p.0 fs x p.1 p.2), h.1)
at_layer m (layer.Try x vars y others z) c form e =
    let h = form_if-Some (repeats vars || repeats others) form e in
    (subst (λ z. RepeatsVariable (node (AnExpr z) c)) (sym (v.rolls-Try x vars y others z)) (by (repeats vars) refl h.0), h.1)
  where
    by : (b : Bool) → repeats vars ≡ b → (b || repeats others) ≡ true → RepeatsVariable (node (AnExpr (v.Try x vars y others z)) c)
    by true p e = in_try vars others x y z (repeats-Repeats vars p)
    by false p e = in_catch vars others x y z (repeats-Repeats others e)
at_layer m (layer.Fun params x) c form e =
    let h = form_if-Some (repeats params) form e in
    (subst (λ z. RepeatsVariable (node (AnExpr z) c)) (sym (v.rolls-Fun params x)) (in_fun params x (repeats-Repeats params h.0)), h.1)
at_layer m _ c form e = absurd cc

sound : (m : Module) (piece : Piece) (c : Context) (form : Form) → form_at repeated m (node piece c) ≡ Some form → RepeatedAt m (node piece c) form
sound m (AnExpr x) c form e = subst (λ z. RepeatedAt m (node (AnExpr z) c) form) (roll-out-Expr x) (at_layer m (out-Expr x) c form e)
sound m (APattern p) c form e = absurd cc
sound m (FirstPattern ps) c form e = let h = form_if-Some (repeats (clause_variables ps)) form e in (in_patterns ps (repeats-Repeats (clause_variables ps) h.0), h.1)

complete : (m : Module) (n : Node) → RepeatsVariable n → form_at repeated m n ≡ Some Absent
complete m n (in_patterns ps h) = ap form_if (Repeats-repeats (clause_variables ps) h)
complete m n (in_let vars x y h) = ap repeated_layer (outs-Let vars x y) ∙ ap form_if (Repeats-repeats vars h)
complete m n (in_fun params x h) = ap repeated_layer (outs-Fun params x) ∙ ap form_if (Repeats-repeats params h)
complete m n (in_try vars others x y z h) = ap repeated_layer (outs-Try x vars y others z) ∙ ap (λ b. form_if (b || repeats others)) (Repeats-repeats vars h)
complete m n (in_catch vars others x y z h) = ap repeated_layer (outs-Try x vars y others z) ∙ ap (λ b. form_if (repeats vars || b)) (Repeats-repeats others h) ∙ ap form_if (or-true (repeats vars))
complete m n (in_definition f fs x h r) = ap repeated_layer (outs-Letrec fs x) ∙ ap form_if (parameter-kept f (Repeats-repeats f.params r) fs h.0 h.1 h.2)

pub repeated_exact : IsExact repeated RepeatedAt RepeatedParameter
repeated_exact = record {
  node_sound = λ m n form e. sound m n.piece n.context form e;
  node_complete = λ m n form h. (Absent, complete m n h.0, omega arith);
  function_sound = λ m j f e. repeats-Repeats f.params e;
  function_complete = λ m j f h. Repeats-repeats f.params h;
}
