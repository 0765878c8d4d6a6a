use Rattle.std.proofs.Common.{◌∙◌, ap}
use Rattle.std.proofs.lemmas.Result.{on_ok_weaker}
use Rattle.hy_core.specs.Syntax.{syntax_of}
use Rattle.letrec_names.specs.code.Passed.{passed}
use Rattle.letrec_names.proofs.PassedForms.{passed-Case, passed-Letrec, passed-Receive}
use Rattle.letrec_names.proofs.expressions.+pass_expr.Goals as goal

pub pass_expr-returns-in_ok-pass_expr-in-Case : goal.pass_expr-returns-in_ok-pass_expr-in-Case
pass_expr-returns-in_ok-pass_expr-in-Case _ c =
    let n = c.args.counts.now.items in
    let value = c.in_ok-pass_expr-in-Case.ensures
    ∙ ap (λ e. passed n (syntax_of e)) c.get-in-Case.ensures in
    on_ok_weaker c.pass_clauses.result (λ h. h ∙ passed-Case n _ _ c.in-Case.is value)
    c.pass_clauses.ensures

pub pass_expr-returns-in_ok-pass_definitions-in-Letrec :
    goal.pass_expr-returns-in_ok-pass_definitions-in-Letrec
pass_expr-returns-in_ok-pass_definitions-in-Letrec _ c =
    let n = c.args.counts.now.items in
    let m = c.pass_definitions.new.counts.items in
    let body = ap (λ e. passed m (syntax_of e)) c.get-in-Letrec.ensures in
    on_ok_weaker c.pass_expr-in-Letrec.result
    (λ h. h ∙ body
    ∙ passed-Letrec n _ _ c.in-Letrec.is c.in_ok-pass_definitions-in-Letrec.ensures)
    c.pass_expr-in-Letrec.ensures

pub pass_expr-returns-in_ok-pass_clauses-in-Receive :
    goal.pass_expr-returns-in_ok-pass_clauses-in-Receive
pass_expr-returns-in_ok-pass_clauses-in-Receive _ c =
    let n = c.args.counts.now.items in
    let m = c.pass_clauses-in-Receive.new.counts.items in
    let body = ap (λ e. passed m (syntax_of e)) c.get-in-Receive.ensures in
    on_ok_weaker c.pass_expr-in-Receive.result
    (λ h. h ∙ body
    ∙ passed-Receive n _ _ _ c.in-Receive.is c.in_ok-pass_clauses-in-Receive.ensures)
    c.pass_expr-in-Receive.ensures
