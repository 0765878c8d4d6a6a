-- The check for numbers of values.
use Rattle.std.specs.Prelude.{ℕ, ◌==◌, ◌&&◌, ◌||◌, not, Bool, true, false, List, [], ◌∷◌, length, Option, Some, None}
use Rattle.hy_core.specs.NodeFaults.{gives}
use Rattle.hy_core.specs.Nodes.{patterns_of_first}
use Rattle.hy_core.specs.declared.tree.Clause.{Clause}
use Rattle.hy_core.specs.declared.tree.Expr.{Expr}
use Rattle.hy_core.specs.declared.tree.Expr.TheOpen as layer
use Rattle.hy_core.specs.declared.tree.Expr.TheOpen.{Expr-F}
use Rattle.hy_core.specs.declared.tree.Expr.TheViews.{out-Expr}
use Rattle.hy_core.specs.declared.tree.Function.{Function}
use Rattle.core_lint.specs.code.OnExprs.{on_exprs}
use Rattle.core_walk.specs.Walk.{Forms, form_if}

-- another number than is needed
abbrev pub differs : Option ℕ → ℕ → Bool
differs None needs = false
differs (Some n) needs = not (n == needs)

-- each clause has so many patterns
abbrev pub all_have : ℕ → List Clause → Bool
all_have n [] = true
all_have n (clause ∷ clauses) = (length clause.patterns == n) && all_have n clauses

abbrev pub wrong_patterns : Expr-F Expr Clause Function → Bool
wrong_patterns (layer.Case value clauses) = not (all_have (patterns_of_first clauses) clauses)
wrong_patterns (layer.Receive clauses timeout body) = not (all_have 1 clauses)
wrong_patterns _ = false

abbrev pub valued : Forms
valued = on_exprs (λ m x c. form_if (differs (gives m x) c.needs || wrong_patterns (out-Expr x)))
