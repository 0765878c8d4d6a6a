use Rattle.std.proofs.lemmas.Result.{on_ok_weaker}
use Rattle.event_nodes.proofs.WalkedForms.{walked-Case, walked-Letrec, walked-Receive, walked-Try}
use Rattle.event_nodes.proofs.expressions.+walk_expr.Goals as goal

pub walk_parts-returns-in_ok-walk_expr-in-Case : goal.walk_parts-returns-in_ok-walk_expr-in-Case
walk_parts-returns-in_ok-walk_expr-in-Case _ c =
    on_ok_weaker c.walk_clauses.result
    (walked-Case c.args.atoms.now c.args.owner c.args.walk.now c.in-Case.value c.in-Case.clauses
    c.in-Case.is c.get-in-Case.ensures c.in_ok-walk_expr-in-Case.ensures) c.walk_clauses.ensures

pub walk_parts-returns-in_ok-walk_definitions-in-Letrec :
    goal.walk_parts-returns-in_ok-walk_definitions-in-Letrec
walk_parts-returns-in_ok-walk_definitions-in-Letrec _ c =
    on_ok_weaker c.walk_expr-in-Letrec.result
    (walked-Letrec c.args.atoms.now c.args.owner c.args.walk.now c.in-Letrec.functions
    c.in-Letrec.body c.in-Letrec.is c.get-in-Letrec.ensures
    c.in_ok-walk_definitions-in-Letrec.ensures) c.walk_expr-in-Letrec.ensures

pub walk_parts-returns-in_ok-walk_expr-in-Receive :
    goal.walk_parts-returns-in_ok-walk_expr-in-Receive
walk_parts-returns-in_ok-walk_expr-in-Receive _ c =
    on_ok_weaker c.walk_expr-in-Receive-2.result
    (walked-Receive c.args.atoms.now c.args.owner c.args.walk.now c.in-Receive.clauses
    c.in-Receive.timeout c.in-Receive.body c.in-Receive.is c.get-in-Receive.ensures
    c.get-in-Receive-2.ensures c.next-first.ensures c.in_ok-walk_clauses-in-Receive.ensures
    c.next-behind.ensures c.back_to.ensures c.in_ok-walk_expr-in-Receive.ensures
    c.back_to-in-Receive.ensures) c.walk_expr-in-Receive-2.ensures

pub walk_parts-returns-in_ok-walk_expr-in-Try-2 : goal.walk_parts-returns-in_ok-walk_expr-in-Try-2
walk_parts-returns-in_ok-walk_expr-in-Try-2 _ c =
    walked-Try c.args.atoms.now c.args.owner c.args.walk.now c.in-Try.value c.in-Try.vars
    c.in-Try.body c.in-Try.catch_vars c.in-Try.catch_body c.in-Try.is c.get-in-Try.ensures
    c.get-in-Try-2.ensures c.get-in-Try-3.ensures c.next-first-in-Try.ensures
    c.in_ok-walk_expr-in-Try.ensures c.next-behind-in-Try.ensures c.back_to-in-Try.ensures
    c.in_ok-walk_aside-in-Try.ensures c.in_ok-walk_expr-in-Try-2.ensures
    c.back_to-in-Try-2.ensures
