use Rattle.std.proofs.Common.{◌≡◌, ◌++◌, drop, map}
use Rattle.hy_core.specs.Canonical.{expr_part, clause_text, function_text, texts_of, with_commas, after_commas, one_after_another}
use Rattle.core_print.proofs.expr.+print.Given as goal

abbrev pub invariant-push_exprs-loop-expr : goal.invariant-push_exprs-loop-expr
invariant-push_exprs-loop-expr l =
    l.out.items ++ after_commas (texts_of (map (expr_part l.names) (drop l.expr-index l.rest)))
    ≡ l.fn.out.items ++ with_commas (texts_of (map (expr_part l.names) l.fn.exprs))

abbrev pub invariant-push_clauses-loop-clause : goal.invariant-push_clauses-loop-clause
invariant-push_clauses-loop-clause l =
    l.out.items ++ one_after_another (map (clause_text l.names) (drop l.clause-index l.clauses)) ≡ l.fn.out.items ++ l.words ++ one_after_another (map (clause_text l.names) l.clauses)

abbrev pub invariant-push_functions-loop-function : goal.invariant-push_functions-loop-function
invariant-push_functions-loop-function l =
    l.out.items ++ one_after_another (map (function_text l.names) (drop l.function-index l.functions)) ≡ l.fn.out.items ++ one_after_another (map (function_text l.names) l.functions)
