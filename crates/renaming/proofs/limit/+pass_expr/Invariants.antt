use Rattle.std.proofs.Common.{◌≡◌, map, take}
use Rattle.hy_core.specs.Syntax.{syntax_of}
use Rattle.renaming.specs.RenamedSyntax.{clause_syntax, function_syntax}
use Rattle.renaming.specs.VariableLimit.{above_each, above_syntax, above_clause, above_definition}
use Rattle.renaming.proofs.limit.+pass_expr.Given as goal

abbrev pub invariant-pass_each-loop-expr : goal.invariant-pass_each-loop-expr
invariant-pass_each-loop-expr l =
    l.limit ≡ above_each above_syntax l.fn.limit (map syntax_of (take l.expr-index l.expr-items))

abbrev pub invariant-pass_clauses-loop-clause : goal.invariant-pass_clauses-loop-clause
invariant-pass_clauses-loop-clause l =
    l.limit
    ≡ above_each above_clause l.fn.limit
    (map clause_syntax (take l.clause-index l.clause-items))

abbrev pub invariant-pass_functions-loop-function : goal.invariant-pass_functions-loop-function
invariant-pass_functions-loop-function l =
    l.limit
    ≡ above_each above_definition l.fn.limit
    (map function_syntax (take l.function-index l.function-items))
