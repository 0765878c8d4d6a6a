-- Trees with their site numbers aside. This project's own.
use Rattle.std.specs.Prelude.{map}
use Rattle.hy_core.specs.Expressions.{function, clause_of}
use Rattle.hy_core.specs.declared.tree.Clause.{Clause}
use Rattle.hy_core.specs.declared.tree.Expr.{Expr}
use Rattle.hy_core.specs.declared.tree.Expr.TheVariants as e
use Rattle.hy_core.specs.declared.tree.Expr.TheOpen as layer
use Rattle.hy_core.specs.declared.tree.Expr.TheOpen.{Expr-F, Clause-F, Function-F}
use Rattle.hy_core.specs.declared.tree.Expr.TheFolds.{fold-Expr, fold-Function}
use Rattle.hy_core.specs.declared.tree.Function.{Function}
use Rattle.hy_core.specs.declared.tree.Module.{Module}

-- one expression, with 0 for its site
abbrev pub unsited_step : Expr-F Expr Clause Function → Expr
unsited_step (layer.Int n) = e.Int n
unsited_step (layer.Atom a) = e.Atom a
unsited_step layer.Nil = e.Nil
unsited_step (layer.Str text) = e.Str text
unsited_step (layer.Var x) = e.Var x
unsited_step (layer.Name f) = e.Name f
unsited_step (layer.Tuple site parts) = e.Tuple 0 parts
unsited_step (layer.List site heads tail) = e.List 0 heads tail
unsited_step (layer.Values parts) = e.Values parts
unsited_step (layer.Let vars value body) = e.Let vars value body
unsited_step (layer.Do first second) = e.Do first second
unsited_step (layer.Case value clauses) = e.Case value clauses
unsited_step (layer.Letrec functions body) = e.Letrec functions body
unsited_step (layer.Apply what args) = e.Apply what args
unsited_step (layer.Call m f args) = e.Call m f args
unsited_step (layer.Primop name args) = e.Primop name args
unsited_step (layer.Receive clauses timeout body) = e.Receive clauses timeout body
unsited_step (layer.Try value vars body catch_vars catch_body) =
    e.Try value vars body catch_vars catch_body
unsited_step (layer.Catch body) = e.Catch body
unsited_step (layer.Fun params body) = e.Fun params body

abbrev pub unsited_clause_step : Clause-F Expr Clause Function → Clause
unsited_clause_step c = clause_of c.patterns c.guard c.body

abbrev pub unsited_function_step : Function-F Expr Clause Function → Function
unsited_function_step f = function f.name f.params f.body

-- an expression, with 0 for each site in it
abbrev pub unsited_expr : Expr → Expr
unsited_expr = fold-Expr Expr Clause Function unsited_step unsited_clause_step unsited_function_step

abbrev pub unsited_function : Function → Function
unsited_function =
    fold-Function Expr Clause Function unsited_step unsited_clause_step unsited_function_step

-- a module, with 0 for each site in it
abbrev pub unsited : Module → Module
unsited m = record {
  name = m.name;
  exports = m.exports;
  functions = map unsited_function
      m.functions;
  atoms = m.atoms;
  variables = m.variables;
}
