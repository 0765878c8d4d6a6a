use Rattle.std.proofs.Common.{◌∙◌, ap}
use Rattle.renaming.specs.RenamedSyntax.{clause_syntax, function_syntax, renamed_syntax}
use Rattle.renaming.specs.RenamedSyntax.{renamed_clause, renamed_definition}
use Rattle.hy_core.specs.Syntax.{syntax_of}
use Rattle.lifted_program.specs.Renaming.{names_for}
use Rattle.renaming.proofs.RenamedForms.{moved, moved_all, moved_clauses, moved_bound, map_step}
use Rattle.renaming.proofs.RenamedForms.{clause-made, function-made, renamed-Tuple, renamed-List}
use Rattle.renaming.proofs.RenamedForms.{renamed-Values, renamed-Let, renamed-Do, renamed-Case}
use Rattle.renaming.proofs.RenamedForms.{renamed-Letrec, renamed-Apply, renamed-Call}
use Rattle.renaming.proofs.RenamedForms.{renamed-Primop, renamed-Receive, renamed-Try}
use Rattle.renaming.proofs.RenamedForms.{renamed-Catch, renamed-Fun}
use Rattle.renaming.proofs.expressions.+rename.Goals as goal

pub rename_expr-returns-in_ok-parts-in-Tuple-clause-renamed :
    goal.rename_expr-returns-in_ok-parts-in-Tuple-clause-renamed
rename_expr-returns-in_ok-parts-in-Tuple-clause-renamed _ c =
    let limit = c.args.limit in
    let s = c.args.scope.now in
    renamed-Tuple limit s _ _ _ c.in-Tuple.is c.in_ok-parts-in-Tuple.ensures.renamed

pub rename_expr-returns-in_ok-tail-in-List-clause-renamed :
    goal.rename_expr-returns-in_ok-tail-in-List-clause-renamed
rename_expr-returns-in_ok-tail-in-List-clause-renamed _ c =
    let limit = c.args.limit in
    let s = c.args.scope.now in
    let heads = c.in_ok-heads-in-List.ensures in
    renamed-List limit s _ _ _ _ _ c.in-List.is heads.renamed
    (moved limit _ _ heads.scope c.in_ok-tail-in-List.ensures.renamed)

pub rename_expr-returns-in_ok-rename_each-in-Values-clause-renamed :
    goal.rename_expr-returns-in_ok-rename_each-in-Values-clause-renamed
rename_expr-returns-in_ok-rename_each-in-Values-clause-renamed _ c =
    let limit = c.args.limit in
    let s = c.args.scope.now in
    renamed-Values limit s _ _ c.in-Values.is c.in_ok-rename_each-in-Values.ensures.renamed

pub rename_expr-returns-in_ok-bound-in-Let-clause-renamed :
    goal.rename_expr-returns-in_ok-bound-in-Let-clause-renamed
rename_expr-returns-in_ok-bound-in-Let-clause-renamed _ c =
    let limit = c.args.limit in
    let s = c.args.scope.now in
    let value = c.in_ok-value-in-Let.ensures in
    let bound = c.in_ok-bound-in-Let.ensures in
    renamed-Let limit s _ _ _ _ _ _ c.in-Let.is
    (bound.names ∙ ap (λ s. names_for limit s c.in-Let.vars) value.scope) value.renamed
    (moved_bound limit c.in-Let.vars _ _ value.scope bound.renamed)

pub rename_expr-returns-in_ok-second-in-Do-clause-renamed :
    goal.rename_expr-returns-in_ok-second-in-Do-clause-renamed
rename_expr-returns-in_ok-second-in-Do-clause-renamed _ c =
    let limit = c.args.limit in
    let s = c.args.scope.now in
    let first = c.in_ok-first-in-Do.ensures in
    renamed-Do limit s _ _ _ _ c.in-Do.is first.renamed
    (moved limit _ _ first.scope c.in_ok-second-in-Do.ensures.renamed)

pub rename_expr-returns-in_ok-clauses-in-Case-clause-renamed :
    goal.rename_expr-returns-in_ok-clauses-in-Case-clause-renamed
rename_expr-returns-in_ok-clauses-in-Case-clause-renamed _ c =
    let limit = c.args.limit in
    let s = c.args.scope.now in
    let value = c.in_ok-value-in-Case.ensures in
    renamed-Case limit s _ _ _ _ c.in-Case.is value.renamed
    (moved_clauses limit _ _ value.scope c.in_ok-clauses-in-Case.ensures.renamed)

pub rename_expr-returns-in_ok-body-in-Letrec-clause-renamed :
    goal.rename_expr-returns-in_ok-body-in-Letrec-clause-renamed
rename_expr-returns-in_ok-body-in-Letrec-clause-renamed _ c =
    let limit = c.args.limit in
    let s = c.args.scope.now in
    let functions = c.in_ok-functions-in-Letrec.ensures in
    renamed-Letrec limit s _ _ _ _ c.in-Letrec.is functions.renamed
    (moved limit _ _ functions.scope c.in_ok-body-in-Letrec.ensures.renamed)

pub rename_expr-returns-in_ok-args-in-Apply-clause-renamed :
    goal.rename_expr-returns-in_ok-args-in-Apply-clause-renamed
rename_expr-returns-in_ok-args-in-Apply-clause-renamed _ c =
    let limit = c.args.limit in
    let s = c.args.scope.now in
    let what = c.in_ok-what-in-Apply.ensures in
    renamed-Apply limit s _ _ _ _ c.in-Apply.is what.renamed
    (moved_all limit _ _ what.scope c.in_ok-args-in-Apply.ensures.renamed)

pub rename_expr-returns-in_ok-args-in-Call-clause-renamed :
    goal.rename_expr-returns-in_ok-args-in-Call-clause-renamed
rename_expr-returns-in_ok-args-in-Call-clause-renamed _ c =
    let limit = c.args.limit in
    let s = c.args.scope.now in
    let m = c.in_ok-module-in-Call.ensures in
    let n = c.in_ok-name-in-Call.ensures in
    renamed-Call limit s _ _ _ _ _ _ c.in-Call.is m.renamed (moved limit _ _ m.scope n.renamed)
    (moved_all limit _ _ (n.scope ∙ m.scope) c.in_ok-args-in-Call.ensures.renamed)

pub rename_expr-returns-in_ok-args-in-Primop-clause-renamed :
    goal.rename_expr-returns-in_ok-args-in-Primop-clause-renamed
rename_expr-returns-in_ok-args-in-Primop-clause-renamed _ c =
    let limit = c.args.limit in
    let s = c.args.scope.now in
    renamed-Primop limit s _ _ _ c.in-Primop.is c.in_ok-args-in-Primop.ensures.renamed

pub rename_expr-returns-in_ok-body-in-Receive-clause-renamed :
    goal.rename_expr-returns-in_ok-body-in-Receive-clause-renamed
rename_expr-returns-in_ok-body-in-Receive-clause-renamed _ c =
    let limit = c.args.limit in
    let s = c.args.scope.now in
    let cs = c.in_ok-clauses-in-Receive.ensures in
    let t = c.in_ok-timeout-in-Receive.ensures in
    renamed-Receive limit s _ _ _ _ _ _ c.in-Receive.is cs.renamed
    (moved limit _ _ cs.scope t.renamed)
    (moved limit _ _ (t.scope ∙ cs.scope) c.in_ok-body-in-Receive.ensures.renamed)

pub rename_expr-returns-in_ok-second-in-Try-clause-renamed :
    goal.rename_expr-returns-in_ok-second-in-Try-clause-renamed
rename_expr-returns-in_ok-second-in-Try-clause-renamed _ c =
    let limit = c.args.limit in
    let s = c.args.scope.now in
    let value = c.in_ok-value-in-Try.ensures in
    let first = c.in_ok-first-in-Try.ensures in
    let second = c.in_ok-second-in-Try.ensures in
    let back = first.scope ∙ value.scope in
    renamed-Try limit s _ _ _ _ _ _ _ _ _ _ c.in-Try.is value.renamed
    (first.names ∙ ap (λ s. names_for limit s c.in-Try.vars) value.scope)
    (moved_bound limit c.in-Try.vars _ _ value.scope first.renamed)
    (second.names ∙ ap (λ s. names_for limit s c.in-Try.catch_vars) back)
    (moved_bound limit c.in-Try.catch_vars _ _ back second.renamed)

pub rename_expr-returns-in_ok-rename_boxed-in-Catch-clause-renamed :
    goal.rename_expr-returns-in_ok-rename_boxed-in-Catch-clause-renamed
rename_expr-returns-in_ok-rename_boxed-in-Catch-clause-renamed _ c =
    let limit = c.args.limit in
    let s = c.args.scope.now in
    renamed-Catch limit s _ _ c.in-Catch.is c.in_ok-rename_boxed-in-Catch.ensures.renamed

pub rename_expr-returns-in_ok-bound-in-Fun-clause-renamed :
    goal.rename_expr-returns-in_ok-bound-in-Fun-clause-renamed
rename_expr-returns-in_ok-bound-in-Fun-clause-renamed _ c =
    let limit = c.args.limit in
    let s = c.args.scope.now in
    let bound = c.in_ok-bound-in-Fun.ensures in
    renamed-Fun limit s _ _ _ _ c.in-Fun.is bound.names bound.renamed

pub rename_bound-returns-clause-renamed : goal.rename_bound-returns-clause-renamed
rename_bound-returns-clause-renamed _ c =
    moved c.args.limit _ _ c.in_ok-vars.ensures.scope c.in_ok-body.ensures.renamed

pub rename_clause-returns-clause-renamed : goal.rename_clause-returns-clause-renamed
rename_clause-returns-clause-renamed _ c =
    let patterns = c.in_ok-patterns.ensures in
    let guard = c.in_ok-guard.ensures in
    clause-made c.args.limit c.args.scope.now c.args.clause.now _ _ _ _ c.as_slice.ensures
    patterns.renamed
    (moved c.args.limit _ _ patterns.scope guard.renamed)
    (moved c.args.limit _ _ (guard.scope ∙ patterns.scope) c.in_ok-body.ensures.renamed)

pub rename_function-returns-clause-renamed : goal.rename_function-returns-clause-renamed
rename_function-returns-clause-renamed _ c =
    let params = c.in_ok-params.ensures in
    function-made c.args.limit c.args.scope.now c.args.function.now _ _ params.names
    (moved c.args.limit _ _ params.scope c.in_ok-body.ensures.renamed)

pub rename_each-loop-expr-preserved : goal.rename_each-loop-expr-preserved
rename_each-loop-expr-preserved _ c =
    let limit = c.args.limit in
    let inv = c.loop-expr.invariant in
    let made = c.in_ok-rename_expr.ensures in (
      map_step syntax_of (renamed_syntax limit c.args.scope.now) c.as_slice-expr-items.result.now
          c.loop-expr.expr-index c.expr-item.result c.loop-expr.trees c.in_ok-rename_expr.field-0
          c.loop-expr-test.true c.expr-item.is inv.0
          (made.renamed ∙ ap (λ s. renamed_syntax limit s (syntax_of c.expr-item.result)) inv.1)
          c.in_ok-push.ensures.ok,
      made.scope ∙ inv.1,
    )

pub rename_clauses-loop-clause-preserved : goal.rename_clauses-loop-clause-preserved
rename_clauses-loop-clause-preserved _ c =
    let limit = c.args.limit in
    let inv = c.loop-clause.invariant in
    let made = c.in_ok-rename_clause.ensures in (
      map_step clause_syntax (renamed_clause limit c.args.scope.now)
          c.as_slice-clause-items.result.now
          c.loop-clause.clause-index c.clause-item.result c.loop-clause.renamed
          c.in_ok-rename_clause.field-0
          c.loop-clause-test.true c.clause-item.is inv.0
          (made.renamed
          ∙ ap (λ s. renamed_clause limit s (clause_syntax c.clause-item.result)) inv.1)
          c.in_ok-push.ensures.ok,
      made.scope ∙ inv.1,
    )

pub rename_functions-loop-function-preserved : goal.rename_functions-loop-function-preserved
rename_functions-loop-function-preserved _ c =
    let limit = c.args.limit in
    let inv = c.loop-function.invariant in
    let made = c.in_ok-rename_function.ensures in (
      map_step function_syntax (renamed_definition limit c.args.scope.now)
          c.as_slice-function-items.result.now
          c.loop-function.function-index c.function-item.result c.loop-function.renamed
          c.in_ok-rename_function.field-0
          c.loop-function-test.true c.function-item.is inv.0
          (made.renamed
          ∙ ap (λ s. renamed_definition limit s (function_syntax c.function-item.result)) inv.1)
          c.in_ok-push.ensures.ok,
      made.scope ∙ inv.1,
    )
