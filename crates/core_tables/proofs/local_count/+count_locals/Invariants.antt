use Rattle.std.proofs.Common.{◌≡◌, ◌+◌, drop, map, sum}
use Rattle.core_tables.specs.code.LocalCount.{local_count, clause_count, definition_count}
use Rattle.core_tables.proofs.local_count.+count_locals.Given as goal

abbrev pub invariant-count_each-loop-expr : goal.invariant-count_each-loop-expr
invariant-count_each-loop-expr l = l.count + sum (map local_count (drop l.expr-index l.exprs)) ≡ l.fn.count + sum (map local_count l.exprs)

abbrev pub invariant-count_clauses-loop-clause : goal.invariant-count_clauses-loop-clause
invariant-count_clauses-loop-clause l = l.count + sum (map clause_count (drop l.clause-index l.clauses)) ≡ l.fn.count + sum (map clause_count l.clauses)

abbrev pub invariant-count_definitions-loop-function : goal.invariant-count_definitions-loop-function
invariant-count_definitions-loop-function l = l.count + sum (map definition_count (drop l.function-index l.functions)) ≡ l.fn.count + sum (map definition_count l.functions)
