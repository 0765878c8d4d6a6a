use Rattle.std.proofs.Common.{◌∙◌, ◌++◌, ap, fold, map}
use Rattle.std.proofs.lemmas.List.{take_all}
use Rattle.std.proofs.lemmas.Result.{on_ok_weaker}
use Rattle.hy_core.specs.Syntax.{definitions_of, syntax_of}
use Rattle.letrec_names.specs.NestedCounts.{numbered}
use Rattle.letrec_names.specs.Parts.{clause_syntax, function_syntax}
use Rattle.lifted_functions.specs.code.Extraction.{extracted_by, extracted_clause_by}
use Rattle.lifted_functions.specs.code.Extraction.{extracted_definition_by, state_of}
use Rattle.lifted_functions.proofs.ExtractedForms.{extracted-Case, extracted-Letrec, extracted-Receive}
use Rattle.lifted_functions.proofs.Steps.{extracted-all, extracted-clauses, extracted-functions}
use Rattle.lifted_functions.proofs.Steps.{fold_step}
use Rattle.lifted_functions.proofs.extraction.+extract.Goals as goal

pub extract-returns-in_ok-extract-in-Case-clause-extracted :
    goal.extract-returns-in_ok-extract-in-Case-clause-extracted
extract-returns-in_ok-extract-in-Case-clause-extracted _ c =
    let value = c.in_ok-extract-in-Case.ensures in
    on_ok_weaker c.extract_clauses.result
    (extracted-Case c.args.tables.now c.args.current c.args.reach.now (state_of c.args.done.now) _
    c.in-Case.is c.get-in-Case.ensures value.extracted value.reach)
    c.extract_clauses.ensures.extracted

pub extract-returns-in_ok-extract-in-Letrec-clause-extracted :
    goal.extract-returns-in_ok-extract-in-Letrec-clause-extracted
extract-returns-in_ok-extract-in-Letrec-clause-extracted _ c =
    let t = c.args.tables.now in
    let functions = c.in_ok-extract_functions-in-Letrec.ensures in
    extracted-Letrec t c.args.current c.args.reach.now (state_of c.args.done.now) _ _
    c.in-Letrec.is c.get-in-Letrec.ensures
    (c.in_ok-enter_functions-in-Letrec.ensures
    ∙ ap
    (λ fs. numbered t.counts c.args.done.now.next (definitions_of (map function_syntax fs))
    ++ c.args.reach.now)
    c.as_slice.ensures)
    functions.extracted functions.reach c.in_ok-extract-in-Letrec.ensures.extracted

pub extract-returns-in_ok-extract_clauses-in-Receive-clause-extracted :
    goal.extract-returns-in_ok-extract_clauses-in-Receive-clause-extracted
extract-returns-in_ok-extract_clauses-in-Receive-clause-extracted _ c =
    let clauses = c.in_ok-extract_clauses-in-Receive.ensures in
    on_ok_weaker c.extract-in-Receive.result
    (extracted-Receive c.args.tables.now c.args.current c.args.reach.now
    (state_of c.args.done.now) _ _ c.in-Receive.is clauses.extracted clauses.reach
    c.get-in-Receive.ensures)
    c.extract-in-Receive.ensures.extracted

pub extract_each-loop-expr-preserved : goal.extract_each-loop-expr-preserved
extract_each-loop-expr-preserved _ c =
    let t = c.args.tables.now in
    let m = c.args.current in
    let x = c.expr-item.result in
    let inv = c.loop-expr.invariant in
    let made = c.in_ok-extract.ensures in (
      fold_step (extracted_by t m c.args.reach.now) syntax_of (state_of c.args.done.now)
          c.as_slice-expr-items.result.now c.loop-expr.expr-index x c.loop-expr-test.true
          c.expr-item.is inv.0
          (made.extracted
          ∙ ap (λ r. extracted_by t m r (state_of c.loop-expr.done) (syntax_of x)) inv.1),
      made.reach ∙ inv.1,
    )

pub extract_each-returns-clause-extracted : goal.extract_each-returns-clause-extracted
extract_each-returns-clause-extracted _ c =
    let t = c.args.tables.now in
    let r = c.args.reach.now in
    let st = state_of c.args.done.now in
    c.loop-expr.invariant.0
    ∙ ap (λ l. fold (extracted_by t c.args.current r) st (map syntax_of l))
    (take_all _ _ c.loop-expr-test.false ∙ c.as_slice-expr-items.ensures)
    ∙ extracted-all t c.args.current r st (map syntax_of c.args.exprs.now)

pub extract_clauses-loop-clause-preserved : goal.extract_clauses-loop-clause-preserved
extract_clauses-loop-clause-preserved _ c =
    let t = c.args.tables.now in
    let m = c.args.current in
    let x = c.clause-item.result in
    let inv = c.loop-clause.invariant in
    let made = c.in_ok-extract_clause.ensures in (
      fold_step (extracted_clause_by t m c.args.reach.now) clause_syntax
          (state_of c.args.done.now) c.as_slice-clause-items.result.now
          c.loop-clause.clause-index x c.loop-clause-test.true c.clause-item.is inv.0
          (made.extracted
          ∙ ap (λ r. extracted_clause_by t m r (state_of c.loop-clause.done) (clause_syntax x))
          inv.1),
      made.reach ∙ inv.1,
    )

pub extract_clauses-returns-clause-extracted : goal.extract_clauses-returns-clause-extracted
extract_clauses-returns-clause-extracted _ c =
    let t = c.args.tables.now in
    let r = c.args.reach.now in
    let st = state_of c.args.done.now in
    c.loop-clause.invariant.0
    ∙ ap (λ l. fold (extracted_clause_by t c.args.current r) st (map clause_syntax l))
    (take_all _ _ c.loop-clause-test.false ∙ c.as_slice-clause-items.ensures)
    ∙ extracted-clauses t c.args.current r st (map clause_syntax c.args.clauses.now)

pub extract_functions-loop-function-preserved : goal.extract_functions-loop-function-preserved
extract_functions-loop-function-preserved _ c =
    let t = c.args.tables.now in
    let m = c.args.current in
    let x = c.function-item.result in
    let inv = c.loop-function.invariant in
    let made = c.in_ok-extract_function.ensures in (
      fold_step (extracted_definition_by t m c.args.reach.now) function_syntax
          (state_of c.args.done.now) c.as_slice-function-items.result.now
          c.loop-function.function-index x c.loop-function-test.true c.function-item.is inv.0
          (made.extracted
          ∙ ap
          (λ r. extracted_definition_by t m r (state_of c.loop-function.done) (function_syntax x))
          inv.1),
      made.reach ∙ inv.1,
    )

pub extract_functions-returns-clause-extracted : goal.extract_functions-returns-clause-extracted
extract_functions-returns-clause-extracted _ c =
    let t = c.args.tables.now in
    let r = c.args.reach.now in
    let st = state_of c.args.done.now in
    c.loop-function.invariant.0
    ∙ ap (λ l. fold (extracted_definition_by t c.args.current r) st (map function_syntax l))
    (take_all _ _ c.loop-function-test.false ∙ c.as_slice-function-items.ensures)
    ∙ extracted-functions t c.args.current r st (map function_syntax c.args.functions.now)
