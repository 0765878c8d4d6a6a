use Rattle.std.proofs.Common.{◌∙◌, ◌++◌, ap, fold, map, refl}
use Rattle.std.proofs.lemmas.List.{take_all}
use Rattle.std.proofs.lemmas.Result.{IfOk-weaker}
use Rattle.hy_core.specs.Syntax.{clauses_of, definitions_of, syntax_of, syntaxes_of}
use Rattle.letrec_names.specs.NestedCounts.{numbered}
use Rattle.letrec_names.specs.Parts.{clause_syntax, function_syntax}
use Rattle.lifted_functions.specs.code.Lifting.{lifted_by, lifted_clause_by, next_by, next_clause}
use Rattle.lifted_functions.specs.code.Lifting.{number_behind}
use Rattle.lifted_functions.proofs.LiftedForms.{moved, moved_clauses}
use Rattle.lifted_functions.proofs.LiftedForms.{lifted-Tuple, lifted-List, lifted-Values, lifted-Let}
use Rattle.lifted_functions.proofs.LiftedForms.{lifted-Do, lifted-Case, lifted-Letrec, lifted-Apply}
use Rattle.lifted_functions.proofs.LiftedForms.{lifted-Call, lifted-Primop, lifted-Receive}
use Rattle.lifted_functions.proofs.LiftedForms.{lifted-Try, next-Case, next-Letrec}
use Rattle.lifted_functions.proofs.LiftedForms.{next-Receive}
use Rattle.lifted_functions.proofs.Steps.{each_by, each_step, fold_step, lifted-all, lifted-clauses}
use Rattle.lifted_functions.proofs.Steps.{next-all, next-clauses}
use Rattle.lifted_functions.proofs.expressions.+lift.Goals as goal

pub lift_expr-returns-in_ok-parts-in-Tuple-clause-lifted :
    goal.lift_expr-returns-in_ok-parts-in-Tuple-clause-lifted
lift_expr-returns-in_ok-parts-in-Tuple-clause-lifted _ c =
    lifted-Tuple c.args.tables.now c.args.current c.args.reach.now c.args.next.now _ _ _
    c.in-Tuple.is c.in_ok-parts-in-Tuple.ensures.lifted

pub lift_expr-returns-in_ok-tail-in-List-clause-lifted :
    goal.lift_expr-returns-in_ok-tail-in-List-clause-lifted
lift_expr-returns-in_ok-tail-in-List-clause-lifted _ c =
    let t = c.args.tables.now in
    let m = c.args.current in
    let heads = c.in_ok-heads-in-List.ensures in
    lifted-List t m c.args.reach.now c.args.next.now _ _ _ _ _ c.in-List.is heads.lifted
    (moved t m _ _ heads.reach heads.next c.in_ok-tail-in-List.ensures.lifted)

pub lift_expr-returns-in_ok-parts-in-Values-clause-lifted :
    goal.lift_expr-returns-in_ok-parts-in-Values-clause-lifted
lift_expr-returns-in_ok-parts-in-Values-clause-lifted _ c =
    lifted-Values c.args.tables.now c.args.current c.args.reach.now c.args.next.now _ _
    c.in-Values.is c.in_ok-parts-in-Values.ensures.lifted

pub lift_expr-returns-in_ok-body-in-Let-clause-lifted :
    goal.lift_expr-returns-in_ok-body-in-Let-clause-lifted
lift_expr-returns-in_ok-body-in-Let-clause-lifted _ c =
    let t = c.args.tables.now in
    let m = c.args.current in
    let value = c.in_ok-value-in-Let.ensures in
    lifted-Let t m c.args.reach.now c.args.next.now _ _ _ _ _ _ c.in-Let.is
    c.in_ok-vars-in-Let.ensures value.lifted
    (moved t m _ _ value.reach value.next c.in_ok-body-in-Let.ensures.lifted)

pub lift_expr-returns-in_ok-second-in-Do-clause-lifted :
    goal.lift_expr-returns-in_ok-second-in-Do-clause-lifted
lift_expr-returns-in_ok-second-in-Do-clause-lifted _ c =
    let t = c.args.tables.now in
    let m = c.args.current in
    let first = c.in_ok-first-in-Do.ensures in
    lifted-Do t m c.args.reach.now c.args.next.now _ _ _ _ c.in-Do.is first.lifted
    (moved t m _ _ first.reach first.next c.in_ok-second-in-Do.ensures.lifted)

pub lift_expr-returns-in_ok-clauses-in-Case-clause-lifted :
    goal.lift_expr-returns-in_ok-clauses-in-Case-clause-lifted
lift_expr-returns-in_ok-clauses-in-Case-clause-lifted _ c =
    let t = c.args.tables.now in
    let m = c.args.current in
    let value = c.in_ok-value-in-Case.ensures in
    lifted-Case t m c.args.reach.now c.args.next.now _ _ _ _ c.in-Case.is value.lifted
    (moved_clauses t m _ _ value.reach value.next c.in_ok-clauses-in-Case.ensures.lifted)

pub lift_expr-returns-in_ok-clauses-in-Case-clause-next :
    goal.lift_expr-returns-in_ok-clauses-in-Case-clause-next
lift_expr-returns-in_ok-clauses-in-Case-clause-next _ c =
    next-Case c.args.tables.now c.args.current c.args.next.now _ _ c.in-Case.is
    c.in_ok-value-in-Case.ensures.next c.in_ok-clauses-in-Case.ensures.next

pub lift_expr-returns-in_ok-args-in-Call-clause-lifted :
    goal.lift_expr-returns-in_ok-args-in-Call-clause-lifted
lift_expr-returns-in_ok-args-in-Call-clause-lifted _ c =
    lifted-Call c.args.tables.now c.args.current c.args.reach.now c.args.next.now _ _ _ _ _ _
    c.in-Call.is c.in_ok-module-in-Call.ensures c.in_ok-name-in-Call.ensures
    c.in_ok-args-in-Call.ensures.lifted

pub lift_expr-returns-in_ok-args-in-Primop-clause-lifted :
    goal.lift_expr-returns-in_ok-args-in-Primop-clause-lifted
lift_expr-returns-in_ok-args-in-Primop-clause-lifted _ c =
    lifted-Primop c.args.tables.now c.args.current c.args.reach.now c.args.next.now _ _ _
    c.in-Primop.is c.in_ok-args-in-Primop.ensures.lifted

pub lift_expr-returns-in_ok-body-in-Receive-clause-lifted :
    goal.lift_expr-returns-in_ok-body-in-Receive-clause-lifted
lift_expr-returns-in_ok-body-in-Receive-clause-lifted _ c =
    let t = c.args.tables.now in
    let m = c.args.current in
    let clauses = c.in_ok-clauses-in-Receive.ensures in
    lifted-Receive t m c.args.reach.now c.args.next.now _ _ _ _ _ _ c.in-Receive.is
    clauses.lifted c.in_ok-timeout-in-Receive.ensures
    (moved t m _ _ clauses.reach clauses.next c.in_ok-body-in-Receive.ensures.lifted)

pub lift_expr-returns-in_ok-body-in-Receive-clause-next :
    goal.lift_expr-returns-in_ok-body-in-Receive-clause-next
lift_expr-returns-in_ok-body-in-Receive-clause-next _ c =
    next-Receive c.args.tables.now c.args.current c.args.next.now _ _ _ c.in-Receive.is
    c.in_ok-clauses-in-Receive.ensures.next c.in_ok-body-in-Receive.ensures.next

pub lift_expr-returns-in_ok-catch_body-in-Try-clause-lifted :
    goal.lift_expr-returns-in_ok-catch_body-in-Try-clause-lifted
lift_expr-returns-in_ok-catch_body-in-Try-clause-lifted _ c =
    lifted-Try c.args.tables.now c.args.current c.args.reach.now c.args.next.now _ _ _ _ _ _ _ _ _ _
    c.in-Try.is c.in_ok-value-in-Try.ensures.lifted c.in_ok-vars-in-Try.ensures
    c.in_ok-body-in-Try.ensures c.in_ok-catch_vars-in-Try.ensures
    c.in_ok-catch_body-in-Try.ensures

pub lift_expr-returns-in_ok-tree-in-Letrec-clause-lifted :
    goal.lift_expr-returns-in_ok-tree-in-Letrec-clause-lifted
lift_expr-returns-in_ok-tree-in-Letrec-clause-lifted _ c =
    let t = c.args.tables.now in
    let entered = c.in_ok-enter_functions-in-Letrec.ensures in
    let behind = c.in_ok-next-in-Letrec.ensures in
    lifted-Letrec t c.args.current c.args.reach.now c.args.next.now _ _ _ _ c.in-Letrec.is
    c.get.ensures
    (entered
    ∙ ap
    (λ fs. numbered t.counts c.args.next.now (definitions_of (map function_syntax fs))
    ++ c.args.reach.now)
    c.as_slice-functions.ensures)
    (behind
    ∙ ap (λ fs. number_behind t.counts c.args.next.now (definitions_of (map function_syntax fs)))
    c.as_slice-functions.ensures)
    c.in_ok-tree-in-Letrec.ensures.lifted

pub lift_expr-returns-in_ok-tree-in-Letrec-clause-next :
    goal.lift_expr-returns-in_ok-tree-in-Letrec-clause-next
lift_expr-returns-in_ok-tree-in-Letrec-clause-next _ c =
    let t = c.args.tables.now in
    let behind = c.in_ok-next-in-Letrec.ensures in
    next-Letrec t c.args.current c.args.next.now _ _ _ c.in-Letrec.is c.get.ensures
    (behind
    ∙ ap (λ fs. number_behind t.counts c.args.next.now (definitions_of (map function_syntax fs)))
    c.as_slice-functions.ensures)
    c.in_ok-tree-in-Letrec.ensures.next

pub lift_expr-returns-in-Name-clause-lifted : goal.lift_expr-returns-in-Name-clause-lifted
lift_expr-returns-in-Name-clause-lifted _ c =
    let t = c.args.tables.now in
    let args = c.in_ok-args-in-Apply.ensures in
    IfOk-weaker c.lifted_call.result _ _
    (λ z. lifted-Apply t c.args.current c.args.reach.now c.args.next.now z _ _ _ c.in-Apply.is
    c.get-in-Apply.ensures c.in-Name.is args.lifted args.reach)
    c.lifted_call.ensures

pub lift_each-loop-expr-preserved : goal.lift_each-loop-expr-preserved
lift_each-loop-expr-preserved _ c =
    let t = c.args.tables.now in
    let m = c.args.current in
    let next = next_by t.counts in
    let xs = c.as_slice-expr-items.result.now in
    let i = c.loop-expr.expr-index in
    let x = c.expr-item.result in
    let below = c.loop-expr-test.true in
    let inv = c.loop-expr.invariant in
    let made = c.in_ok-lift_expr.ensures in (
      each_step next (lifted_by t m c.args.reach.now) syntax_of c.args.next.now xs i x
          c.loop-expr.trees c.in_ok-lift_expr.field-0 below c.expr-item.is inv.0 inv.1
          (moved t m x c.in_ok-lift_expr.field-0 inv.2 refl made.lifted) c.in_ok-push.ensures.ok,
      fold_step next syntax_of c.args.next.now xs i x below c.expr-item.is inv.1 made.next,
      made.reach ∙ inv.2,
    )

pub lift_each-returns-clause-lifted : goal.lift_each-returns-clause-lifted
lift_each-returns-clause-lifted _ c =
    let t = c.args.tables.now in
    let r = c.args.reach.now in
    let n = c.args.next.now in
    let all = take_all _ _ c.loop-expr-test.false ∙ c.as_slice-expr-items.ensures in
    ap syntaxes_of
    (c.loop-expr.invariant.0
    ∙ ap (λ l. each_by (next_by t.counts) (lifted_by t c.args.current r) n (map syntax_of l)) all)
    ∙ lifted-all t c.args.current r n (map syntax_of c.args.exprs.now)

pub lift_each-returns-clause-next : goal.lift_each-returns-clause-next
lift_each-returns-clause-next _ c =
    let t = c.args.tables.now in
    let n = c.args.next.now in
    c.loop-expr.invariant.1
    ∙ ap (λ l. fold (next_by t.counts) n (map syntax_of l))
    (take_all _ _ c.loop-expr-test.false ∙ c.as_slice-expr-items.ensures)
    ∙ next-all t.counts n (map syntax_of c.args.exprs.now)

pub lift_clauses-loop-clause-preserved : goal.lift_clauses-loop-clause-preserved
lift_clauses-loop-clause-preserved _ c =
    let t = c.args.tables.now in
    let m = c.args.current in
    let next = next_clause t.counts in
    let xs = c.as_slice-clause-items.result.now in
    let i = c.loop-clause.clause-index in
    let x = c.clause-item.result in
    let below = c.loop-clause-test.true in
    let inv = c.loop-clause.invariant in
    let made = c.in_ok-lift_clause.ensures in (
      each_step next (lifted_clause_by t m c.args.reach.now) clause_syntax c.args.next.now xs i x
          c.loop-clause.lifted c.in_ok-lift_clause.field-0 below c.clause-item.is inv.0 inv.1
          (made.lifted
          ∙ ap (λ r. lifted_clause_by t m r c.loop-clause.next (clause_syntax x)) inv.2)
          c.in_ok-push.ensures.ok,
      fold_step next clause_syntax c.args.next.now xs i x below c.clause-item.is inv.1 made.next,
      made.reach ∙ inv.2,
    )

pub lift_clauses-returns-clause-lifted : goal.lift_clauses-returns-clause-lifted
lift_clauses-returns-clause-lifted _ c =
    let t = c.args.tables.now in
    let r = c.args.reach.now in
    let n = c.args.next.now in
    let all = take_all _ _ c.loop-clause-test.false ∙ c.as_slice-clause-items.ensures in
    ap clauses_of
    (c.loop-clause.invariant.0
    ∙ ap
    (λ l. each_by (next_clause t.counts) (lifted_clause_by t c.args.current r) n
    (map clause_syntax l))
    all)
    ∙ lifted-clauses t c.args.current r n (map clause_syntax c.args.clauses.now)

pub lift_clauses-returns-clause-next : goal.lift_clauses-returns-clause-next
lift_clauses-returns-clause-next _ c =
    let t = c.args.tables.now in
    let n = c.args.next.now in
    c.loop-clause.invariant.1
    ∙ ap (λ l. fold (next_clause t.counts) n (map clause_syntax l))
    (take_all _ _ c.loop-clause-test.false ∙ c.as_slice-clause-items.ensures)
    ∙ next-clauses t.counts n (map clause_syntax c.args.clauses.now)
