-- The check for variables that aren't bound.
use Rattle.std.specs.Prelude.{if◌then◌else◌, Option, Some, None}
use Rattle.hy_core.specs.Nodes.{Context}
use Rattle.hy_core.specs.declared.fault.Form.{Form}
use Rattle.hy_core.specs.declared.fault.Form.TheVariants.{Absent}
use Rattle.hy_core.specs.declared.tree.Clause.{Clause}
use Rattle.hy_core.specs.declared.tree.Expr.{Expr}
use Rattle.hy_core.specs.declared.tree.Expr.TheOpen as layer
use Rattle.hy_core.specs.declared.tree.Expr.TheOpen.{Expr-F}
use Rattle.hy_core.specs.declared.tree.Expr.TheViews.{out-Expr}
use Rattle.hy_core.specs.declared.tree.Function.{Function}
use Rattle.core_walk.specs.Bound.{is_bound}
use Rattle.core_lint.specs.code.OnExprs.{on_exprs}
use Rattle.core_walk.specs.Walk.{Forms}

abbrev pub unbound_layer : Context → Expr-F Expr Clause Function → Option Form
unbound_layer c (layer.Var x) = if is_bound c.scope x then None else Some Absent
unbound_layer c _ = None

abbrev pub unbound : Forms
unbound = on_exprs (λ m x c. unbound_layer c (out-Expr x))
