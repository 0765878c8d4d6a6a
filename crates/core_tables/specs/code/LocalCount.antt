-- How many functions the letrecs of an expression define.
use Rattle.std.specs.Prelude.{ℕ, ◌+◌, List, length, map, sum}
use Rattle.hy_core.specs.Nodes.{Node}
use Rattle.hy_core.specs.SubPatterns.{joined}
use Rattle.hy_core.specs.Tables.{definitions_at}
use Rattle.hy_core.specs.declared.tree.Clause.{Clause}
use Rattle.hy_core.specs.declared.tree.Expr.{Expr}
use Rattle.hy_core.specs.declared.tree.Expr.TheFolds.{fold-Expr, fold-Clause, fold-Function}
use Rattle.hy_core.specs.declared.tree.Expr.TheOpen as layer
use Rattle.hy_core.specs.declared.tree.Expr.TheOpen.{Expr-F, Clause-F, Function-F}
use Rattle.hy_core.specs.declared.tree.Function.{Function}

abbrev pub definitions_in : List Node → List Function
definitions_in ns = joined (map (λ n. definitions_at n.piece) ns)

abbrev pub count_step : Expr-F ℕ ℕ ℕ → ℕ
count_step (layer.Tuple site parts) = sum parts
count_step (layer.List site heads tail) = sum heads + tail
count_step (layer.Values parts) = sum parts
count_step (layer.Let vars value body) = value + body
count_step (layer.Do first second) = first + second
count_step (layer.Case value clauses) = value + sum clauses
count_step (layer.Letrec functions body) = length functions + (sum functions + body)
count_step (layer.Apply what args) = what + sum args
count_step (layer.Call m f args) = m + (f + sum args)
count_step (layer.Primop name args) = sum args
count_step (layer.Receive clauses timeout body) = sum clauses + (timeout + body)
count_step (layer.Try value vars body catch_vars catch_body) = value + (body + catch_body)
count_step (layer.Catch body) = body
count_step (layer.Fun params body) = body
count_step _ = 0

abbrev pub clause_count_step : Clause-F ℕ ℕ ℕ → ℕ
clause_count_step c = c.guard + c.body

abbrev pub function_count_step : Function-F ℕ ℕ ℕ → ℕ
function_count_step f = f.body

abbrev pub local_count : Expr → ℕ
local_count = fold-Expr ℕ ℕ ℕ count_step clause_count_step function_count_step

abbrev pub clause_count : Clause → ℕ
clause_count = fold-Clause ℕ ℕ ℕ count_step clause_count_step function_count_step

abbrev pub definition_count : Function → ℕ
definition_count = fold-Function ℕ ℕ ℕ count_step clause_count_step function_count_step
