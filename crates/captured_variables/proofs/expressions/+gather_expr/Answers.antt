use Rattle.std.proofs.Common.{◌∙◌, ap}
use Rattle.std.proofs.lemmas.Result.{on_ok_weaker}
use Rattle.hy_core.specs.Syntax.{syntax_of}
use Rattle.captured_variables.specs.code.Walked.{walked}
use Rattle.captured_variables.proofs.WalkedForms.{walked-Case, walked-Letrec, walked-Receive}
use Rattle.captured_variables.proofs.expressions.+gather_expr.Goals as goal

pub gather_expr-returns-in_ok-gather_expr-in-Case :
    goal.gather_expr-returns-in_ok-gather_expr-in-Case
gather_expr-returns-in_ok-gather_expr-in-Case _ c =
    let counts = c.args.counts.now in
    let o = c.args.owner in
    let w = c.args.walk.now in
    let value = c.in_ok-gather_expr-in-Case.ensures
    ∙ ap (λ e. walked counts o w (syntax_of e)) c.get-in-Case.ensures in
    on_ok_weaker c.gather_clauses.result
    (λ h. h ∙ walked-Case counts o w _ _ c.in-Case.is value)
    c.gather_clauses.ensures

pub gather_expr-returns-in_ok-gather_expr-in-Letrec :
    goal.gather_expr-returns-in_ok-gather_expr-in-Letrec
gather_expr-returns-in_ok-gather_expr-in-Letrec _ c =
    walked-Letrec c.args.counts.now c.args.owner c.args.walk.now _ _ _ _ c.in-Letrec.is
    c.height-height.ensures c.as_slice.ensures c.in_ok-enter-in-Letrec.ensures
    c.in_ok-gather_definitions-in-Letrec.ensures c.get-in-Letrec.ensures
    c.in_ok-gather_expr-in-Letrec.ensures c.leave.ensures

pub gather_expr-returns-in_ok-gather_clauses-in-Receive :
    goal.gather_expr-returns-in_ok-gather_clauses-in-Receive
gather_expr-returns-in_ok-gather_clauses-in-Receive _ c =
    let counts = c.args.counts.now in
    let o = c.args.owner in
    let w = c.args.walk.now in
    let v = c.gather_clauses-in-Receive.new.walk in
    let body = ap (λ e. walked counts o v (syntax_of e)) c.get-in-Receive.ensures in
    on_ok_weaker c.gather_expr-in-Receive.result
    (λ h. h ∙ body
    ∙ walked-Receive counts o w _ _ _ c.in-Receive.is c.in_ok-gather_clauses-in-Receive.ensures)
    c.gather_expr-in-Receive.ensures
