use Rattle.std.proofs.Common.{◌≡◌, map, drop}
use Rattle.hy_core.specs.Syntax.{clauses_of, definitions_of, syntax_of, syntaxes_of}
use Rattle.letrec_names.specs.Parts.{clause_syntax, function_syntax}
use Rattle.event_nodes.specs.code.Walked.{walked_all, walked_clauses, walked_definitions}
use Rattle.event_nodes.proofs.expressions.+walk_expr.Given as goal

abbrev pub invariant-walk_each-loop-expr : goal.invariant-walk_each-loop-expr
invariant-walk_each-loop-expr l =
    walked_all l.atoms l.owner l.walk
    (syntaxes_of (map syntax_of (drop l.expr-index l.expr-items)))
    ≡ walked_all l.atoms l.owner l.fn.walk (syntaxes_of (map syntax_of l.expr-items))

abbrev pub invariant-walk_clauses-loop-clause : goal.invariant-walk_clauses-loop-clause
invariant-walk_clauses-loop-clause l =
    walked_clauses l.atoms l.owner l.walk
    (clauses_of (map clause_syntax (drop l.clause-index l.clause-items)))
    ≡ walked_clauses l.atoms l.owner l.fn.walk (clauses_of (map clause_syntax l.clause-items))

abbrev pub invariant-walk_definitions-loop-function : goal.invariant-walk_definitions-loop-function
invariant-walk_definitions-loop-function l =
    walked_definitions l.atoms l.walk
    (definitions_of (map function_syntax (drop l.function-index l.function-items)))
    ≡ walked_definitions l.atoms l.fn.walk (definitions_of (map function_syntax l.function-items))
