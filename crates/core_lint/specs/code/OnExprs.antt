-- Checks of expressions alone.
use Rattle.std.specs.Prelude.{false, Option, None}
use Rattle.hy_core.specs.Nodes.{Context}
use Rattle.hy_core.specs.declared.fault.Form.{Form}
use Rattle.hy_core.specs.declared.tree.Expr.{Expr}
use Rattle.hy_core.specs.declared.tree.Module.{Module}
use Rattle.core_walk.specs.Walk.{Forms}

-- what a check says of an expression at its place
abbrev pub ExprForms : Type 0
ExprForms = Module → Expr → Context → Option Form

-- patterns and functions have no such fault
abbrev pub on_exprs : ExprForms → Forms
on_exprs of_expr =
    record { of_expr = of_expr; of_patterns = λ ps. None; of_function = λ m j f. false }
