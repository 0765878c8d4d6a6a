use Rattle.std.proofs.Common.{◌∙◌, ap, map}
use Rattle.std.proofs.lemmas.List.{take_all}
use Rattle.hy_core.specs.Syntax.{syntax_of}
use Rattle.renaming.specs.RenamedSyntax.{clause_syntax, function_syntax}
use Rattle.renaming.specs.VariableLimit.{above_clause, above_definition, above_each, above_syntax}
use Rattle.renaming.proofs.AboveForms.{above_step, above-Case, above-Letrec, above-Receive}
use Rattle.renaming.proofs.AboveForms.{above-syntaxes, above-clauses, above-definitions}
use Rattle.renaming.proofs.limit.+pass_expr.Goals as goal

pub pass_each-loop-expr-preserved : goal.pass_each-loop-expr-preserved
pass_each-loop-expr-preserved _ c =
    above_step above_syntax syntax_of c.args.limit.now c.as_slice-expr-items.result.now
    c.loop-expr.expr-index c.expr-item.result c.loop-expr-test.true c.expr-item.is
    c.loop-expr.invariant c.pass_expr.ensures

pub pass_each-returns : goal.pass_each-returns
pass_each-returns _ c =
    c.loop-expr.invariant
    ∙ ap (λ l. above_each above_syntax c.args.limit.now (map syntax_of l))
    (take_all _ _ c.loop-expr-test.false ∙ c.as_slice-expr-items.ensures)
    ∙ above-syntaxes c.args.limit.now (map syntax_of c.args.exprs.now)

pub pass_clauses-loop-clause-preserved : goal.pass_clauses-loop-clause-preserved
pass_clauses-loop-clause-preserved _ c =
    above_step above_clause clause_syntax c.args.limit.now c.as_slice-clause-items.result.now
    c.loop-clause.clause-index c.clause-item.result c.loop-clause-test.true c.clause-item.is
    c.loop-clause.invariant c.pass_clause.ensures

pub pass_clauses-returns : goal.pass_clauses-returns
pass_clauses-returns _ c =
    c.loop-clause.invariant
    ∙ ap (λ l. above_each above_clause c.args.limit.now (map clause_syntax l))
    (take_all _ _ c.loop-clause-test.false ∙ c.as_slice-clause-items.ensures)
    ∙ above-clauses c.args.limit.now (map clause_syntax c.args.clauses.now)

pub pass_functions-loop-function-preserved : goal.pass_functions-loop-function-preserved
pass_functions-loop-function-preserved _ c =
    above_step above_definition function_syntax c.args.limit.now
    c.as_slice-function-items.result.now
    c.loop-function.function-index c.function-item.result c.loop-function-test.true
    c.function-item.is
    c.loop-function.invariant c.pass_function.ensures

pub pass_functions-returns : goal.pass_functions-returns
pass_functions-returns _ c =
    c.loop-function.invariant
    ∙ ap (λ l. above_each above_definition c.args.limit.now (map function_syntax l))
    (take_all _ _ c.loop-function-test.false ∙ c.as_slice-function-items.ensures)
    ∙ above-definitions c.args.limit.now (map function_syntax c.args.functions.now)

pub pass_expr-returns-in-Case : goal.pass_expr-returns-in-Case
pass_expr-returns-in-Case _ c =
    let n = c.args.limit.now in
    above-Case n _ _ _ _ _ c.in-Case.is
    (c.pass_expr-in-Case.ensures ∙ ap (λ e. above_syntax n (syntax_of e)) c.get-in-Case.ensures)
    c.pass_clauses.ensures

pub pass_expr-returns-in-Letrec : goal.pass_expr-returns-in-Letrec
pass_expr-returns-in-Letrec _ c =
    let n = c.pass_functions.new.limit in
    above-Letrec c.args.limit.now _ _ _ _ _ c.in-Letrec.is c.pass_functions.ensures
    (c.pass_expr-in-Letrec.ensures ∙ ap (λ e. above_syntax n (syntax_of e)) c.get-in-Letrec.ensures)

pub pass_expr-returns-in-Receive : goal.pass_expr-returns-in-Receive
pass_expr-returns-in-Receive _ c =
    let n = c.pass_clauses-in-Receive.new.limit in
    let m = c.pass_expr-in-Receive.new.limit in
    above-Receive c.args.limit.now _ _ _ _ _ _ _ c.in-Receive.is
    c.pass_clauses-in-Receive.ensures
    (c.pass_expr-in-Receive.ensures
    ∙ ap (λ e. above_syntax n (syntax_of e)) c.get-in-Receive.ensures)
    (c.pass_expr-in-Receive-2.ensures
    ∙ ap (λ e. above_syntax m (syntax_of e)) c.get-in-Receive-2.ensures)
