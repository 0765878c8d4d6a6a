use Rattle.std.proofs.Common.{◌≡◌, map, take}
use Rattle.hy_core.specs.Syntax.{syntax_of}
use Rattle.renaming.specs.RenamedSyntax.{clause_syntax, function_syntax}
use Rattle.renaming.specs.RenamedSyntax.{renamed_syntax, renamed_clause, renamed_definition}
use Rattle.renaming.proofs.expressions.+rename.Given as goal

abbrev pub invariant-rename_each-loop-expr : goal.invariant-rename_each-loop-expr
invariant-rename_each-loop-expr l =
    (map syntax_of l.trees
    ≡ map (renamed_syntax l.limit l.fn.scope) (map syntax_of (take l.expr-index l.expr-items)))
    × (l.scope ≡ l.fn.scope)

abbrev pub invariant-rename_clauses-loop-clause : goal.invariant-rename_clauses-loop-clause
invariant-rename_clauses-loop-clause l =
    (map clause_syntax l.renamed
    ≡ map (renamed_clause l.limit l.fn.scope)
    (map clause_syntax (take l.clause-index l.clause-items)))
    × (l.scope ≡ l.fn.scope)

abbrev pub invariant-rename_functions-loop-function : goal.invariant-rename_functions-loop-function
invariant-rename_functions-loop-function l =
    (map function_syntax l.renamed
    ≡ map (renamed_definition l.limit l.fn.scope)
    (map function_syntax (take l.function-index l.function-items)))
    × (l.scope ≡ l.fn.scope)
