use Rattle.std.proofs.Common.{◌≡◌, map, drop}
use Rattle.hy_core.specs.Syntax.{clauses_of, definitions_of, syntax_of, syntaxes_of}
use Rattle.captured_variables.specs.code.Walked.{walked_all, walked_clauses, walked_definitions}
use Rattle.captured_variables.proofs.expressions.+gather_expr.Given as goal
use Rattle.letrec_names.specs.Parts.{clause_syntax, function_syntax}

abbrev pub invariant-gather_each-loop-expr : goal.invariant-gather_each-loop-expr
invariant-gather_each-loop-expr l =
    walked_all l.counts l.owner l.walk
    (syntaxes_of (map syntax_of (drop l.expr-index l.expr-items)))
    ≡ walked_all l.counts l.owner l.fn.walk (syntaxes_of (map syntax_of l.expr-items))

abbrev pub invariant-gather_clauses-loop-clause : goal.invariant-gather_clauses-loop-clause
invariant-gather_clauses-loop-clause l =
    walked_clauses l.counts l.owner l.walk
    (clauses_of (map clause_syntax (drop l.clause-index l.clause-items)))
    ≡ walked_clauses l.counts l.owner l.fn.walk (clauses_of (map clause_syntax l.clause-items))

abbrev pub invariant-gather_definitions-loop-function :
    goal.invariant-gather_definitions-loop-function
invariant-gather_definitions-loop-function l =
    walked_definitions l.counts l.owner l.walk
    (definitions_of (map function_syntax (drop l.function-index l.function-items)))
    ≡ walked_definitions l.counts l.owner l.fn.walk
    (definitions_of (map function_syntax l.function-items))
