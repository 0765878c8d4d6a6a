-- The check for variables that aren't bound is exact.
use Rattle.std.proofs.Common.{◌≡◌, Bool, true, false, if◌then◌else◌, Some, None, refl, sym, ap, ◌∙◌, subst, arith}
use Rattle.hy_core.specs.NodeFaults.{IsUnbound, unbound as is_unbound}
use Rattle.hy_core.specs.Nodes.{Piece, AnExpr, APattern, FirstPattern, Context, Node, node}
use Rattle.hy_core.specs.declared.fault.Form.{Form}
use Rattle.hy_core.specs.declared.fault.Form.TheVariants.{Absent}
use Rattle.hy_core.specs.declared.tree.Clause.{Clause}
use Rattle.hy_core.specs.declared.tree.Expr.{Expr}
use Rattle.hy_core.specs.declared.tree.Expr.TheOpen as layer
use Rattle.hy_core.specs.declared.tree.Expr.TheOpen.{Expr-F}
use Rattle.hy_core.specs.declared.tree.Expr.TheVariants as v
use Rattle.hy_core.specs.declared.tree.Expr.TheViews.{out-Expr, roll-Expr, roll-out-Expr, outs-Var}
use Rattle.hy_core.specs.declared.tree.Function.{Function}
use Rattle.hy_core.specs.declared.tree.Module.{Module}
use Rattle.core_walk.specs.Bound.{is_bound}
use Rattle.core_lint.specs.code.UnboundVariables.{unbound, unbound_layer}
use Rattle.core_walk.specs.Walk.{form_at}
use Rattle.core_walk.proofs.BoundLemmas.{is_bound-Contains, Contains-is_bound}
use Rattle.core_lint.proofs.Exact.{IsExact}
use Rattle.core_lint.proofs.OfKind.{AtNoFunction, UnboundAt}

at_layer : (m : Module) (y : Expr-F Expr Clause Function) (c : Context) (form : Form) → unbound_layer c y ≡ Some form → UnboundAt m (node (AnExpr (roll-Expr y)) c) form
at_layer m (layer.Var x) c form e = by (is_bound c.scope x) refl e
  where
    by : (b : Bool) → is_bound c.scope x ≡ b → (if b then None else Some Absent) ≡ Some form → UnboundAt m (node (AnExpr (roll-Expr (layer.Var x))) c) form
    by true bound e = absurd cc
    by false other e = (subst (λ z. IsUnbound (node (AnExpr z) c)) (sym (v.rolls-Var x)) (is_unbound x (λ h. absurd (cc (Contains-is_bound c.scope x h, other)))), cc)
at_layer m _ c form e = absurd cc

sound : (m : Module) (piece : Piece) (c : Context) (form : Form) → form_at unbound m (node piece c) ≡ Some form → UnboundAt m (node piece c) form
sound m (AnExpr x) c form e = subst (λ z. UnboundAt m (node (AnExpr z) c) form) (roll-out-Expr x) (at_layer m (out-Expr x) c form e)
sound m (APattern p) c form e = absurd cc
sound m (FirstPattern ps) c form e = absurd cc

complete : (m : Module) (n : Node) → IsUnbound n → form_at unbound m n ≡ Some Absent
complete m n (is_unbound {c = c} x h) = ap (unbound_layer c) (outs-Var x) ∙ by (is_bound c.scope x) refl
  where
    by : (b : Bool) → is_bound c.scope x ≡ b → (if b then None else Some Absent) ≡ Some Absent
    by true bound = absurd (h (is_bound-Contains c.scope x bound))
    by false other = refl

pub unbound_exact : IsExact unbound UnboundAt AtNoFunction
unbound_exact = record {
  node_sound = λ m n form e. sound m n.piece n.context form e;
  node_complete = λ m n form h. (Absent, complete m n h.0, omega arith);
  function_sound = λ m j f e. absurd cc;
  function_complete = λ m j f h. absurd h;
}
