use Rattle.std.proofs.Common.{◌≡◌, take}
use Rattle.lifted_functions.proofs.copies.+copy_expr.Given as goal

abbrev pub invariant-copied_each-loop-expr : goal.invariant-copied_each-loop-expr
invariant-copied_each-loop-expr l = l.copies ≡ take l.expr-index l.expr-items

abbrev pub invariant-copied_clauses-loop-clause : goal.invariant-copied_clauses-loop-clause
invariant-copied_clauses-loop-clause l = l.copies ≡ take l.clause-index l.clause-items

abbrev pub invariant-copied_functions-loop-function : goal.invariant-copied_functions-loop-function
invariant-copied_functions-loop-function l = l.copies ≡ take l.function-index l.function-items
