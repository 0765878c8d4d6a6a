use Rattle.std.proofs.Common.{◌≡◌, ℕ, take}
use Rattle.core_tables.specs.code.NumberedParts.{each, numbered_each, numbered_clause, numbered_definition}
use Rattle.core_tables.proofs.expr.+number.Given as goal

abbrev pub invariant-number_each-loop-expr : goal.invariant-number_each-loop-expr
invariant-number_each-loop-expr l = (l.trees, l.numbers) ≡ numbered_each l.places l.names (take l.expr-index l.expr-items) l.function l.fn.numbers

abbrev pub invariant-number_clauses-loop-clause : goal.invariant-number_clauses-loop-clause
invariant-number_clauses-loop-clause l = (l.trees, l.numbers) ≡ each (numbered_clause l.places l.names) (take l.clause-index l.clause-items) l.function l.fn.numbers

abbrev pub invariant-number_definitions-loop-definition : goal.invariant-number_definitions-loop-definition
invariant-number_definitions-loop-definition l = (function : ℕ) → (l.trees, l.numbers) ≡ each (numbered_definition l.places l.names) (take l.definition-index l.definition-items) function l.fn.numbers
