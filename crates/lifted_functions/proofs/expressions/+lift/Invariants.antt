use Rattle.std.proofs.Common.{◌≡◌, fold, map, take}
use Rattle.hy_core.specs.Syntax.{syntax_of}
use Rattle.lifted_functions.specs.code.Lifting.{lifted_by, lifted_clause_by, next_by, next_clause}
use Rattle.lifted_functions.proofs.Steps.{each_by}
use Rattle.lifted_functions.proofs.expressions.+lift.Given as goal
use Rattle.letrec_names.specs.Parts.{clause_syntax}

abbrev pub invariant-lift_each-loop-expr : goal.invariant-lift_each-loop-expr
invariant-lift_each-loop-expr l =
    let passed = map syntax_of (take l.expr-index l.expr-items) in
    let next = next_by l.tables.counts in
    (map syntax_of l.trees
    ≡ each_by next (lifted_by l.tables l.current l.fn.reach) l.fn.next passed)
    × (l.next ≡ fold next l.fn.next passed)
    × (l.reach ≡ l.fn.reach)

abbrev pub invariant-lift_clauses-loop-clause : goal.invariant-lift_clauses-loop-clause
invariant-lift_clauses-loop-clause l =
    let passed = map clause_syntax (take l.clause-index l.clause-items) in
    let next = next_clause l.tables.counts in
    (map clause_syntax l.lifted
    ≡ each_by next (lifted_clause_by l.tables l.current l.fn.reach) l.fn.next passed)
    × (l.next ≡ fold next l.fn.next passed)
    × (l.reach ≡ l.fn.reach)
