use Rattle.std.proofs.Common.{◌≡◌, map, drop}
use Rattle.hy_core.specs.Syntax.{clauses_of, definitions_of, syntax_of, syntaxes_of}
use Rattle.letrec_names.specs.Parts.{clause_syntax, function_syntax}
use Rattle.letrec_names.specs.code.Passed.{passed_all, passed_clauses, passed_definitions}
use Rattle.letrec_names.proofs.expressions.+pass_expr.Given as goal

abbrev pub invariant-pass_each-loop-expr : goal.invariant-pass_each-loop-expr
invariant-pass_each-loop-expr l =
    passed_all l.counts.items (syntaxes_of (map syntax_of (drop l.expr-index l.expr-items)))
    ≡ passed_all l.fn.counts.items (syntaxes_of (map syntax_of l.expr-items))

abbrev pub invariant-pass_clauses-loop-clause : goal.invariant-pass_clauses-loop-clause
invariant-pass_clauses-loop-clause l =
    passed_clauses l.counts.items
    (clauses_of (map clause_syntax (drop l.clause-index l.clause-items)))
    ≡ passed_clauses l.fn.counts.items (clauses_of (map clause_syntax l.clause-items))

abbrev pub invariant-pass_definitions-loop-function :
    goal.invariant-pass_definitions-loop-function
invariant-pass_definitions-loop-function l =
    passed_definitions l.counts.items
    (definitions_of (map function_syntax (drop l.function-index l.function-items)))
    ≡ passed_definitions l.fn.counts.items (definitions_of (map function_syntax l.function-items))
