use Rattle.std.proofs.Common.{take}
use Rattle.hy_core.specs.Nodes.{nodes, clause_nodes, definition_nodes, for_one, inside}
use Rattle.hy_core.specs.NodeParts.{each_node}
use Rattle.core_walk.specs.Walk.{IsPassed, context_of, form_at}
use Rattle.core_walk.proofs.walk.+walk.Given as goal

abbrev pub invariant-walk_each-loop-expr : goal.invariant-walk_each-loop-expr
invariant-walk_each-loop-expr g l = IsPassed (form_at (g.C.Check.forms l.check) l.names) (each_node nodes (take l.expr-index l.exprs) (for_one (context_of l.fn.at l.demand))) l.fn.at l.at

abbrev pub invariant-walk_clauses-loop-clause : goal.invariant-walk_clauses-loop-clause
invariant-walk_clauses-loop-clause g l = IsPassed (form_at (g.C.Check.forms l.check) l.names) (each_node clause_nodes (take l.clause-index l.clauses) (inside (context_of l.fn.at l.demand))) l.fn.at l.at

abbrev pub invariant-walk_functions-loop-function : goal.invariant-walk_functions-loop-function
invariant-walk_functions-loop-function g l = IsPassed (form_at (g.C.Check.forms l.check) l.names) (each_node definition_nodes (take l.function-index l.functions) (inside (context_of l.fn.at l.demand))) l.fn.at l.at
