use Rattle.std.proofs.Common.{◌≡◌, ◌+◌, [], ◌∷◌, ◌++◌, drop, length, Ok, Err, sym, ap, ◌∙◌, subst, append_assoc}
use Rattle.std.proofs.lemmas.List.{append-nil}
use Rattle.hy_core.specs.declared.place.Place.TheVariants.{Applied, Timeout}
use Rattle.hy_core.specs.declared.tree.Expr.TheViews.{outs-List, outs-Let, outs-Do, outs-Case, outs-Letrec, outs-Apply, outs-Call, outs-Receive, outs-Try}
use Rattle.hy_core.specs.Nodes.{AnExpr, node, nodes, clause_nodes, definition_nodes, pattern_nodes, at_place, binding, guarding, for_one, for_values, inside}
use Rattle.hy_core.specs.SubPatterns.{clause_variables}
use Rattle.hy_core.specs.NodeParts.{each_node, end_nodes, part_nodes}
use Rattle.core_walk.specs.Walk.{IsPassed, Reports, context_of, form_at, walked}
use Rattle.hy_core.proofs.NodesLemmas.{nodes-parts, clause_nodes-parts, definition_nodes-parts, shaped, each_node-take, each_node-rest}
use Rattle.core_walk.proofs.WalkLemmas.{body_context, guard_context, left, over_same, passed-then, reports-then, stops_in, then_part}
use Rattle.core_walk.proofs.walk.+walk.Goals as goal

pub walk_expr-returns-in_err-visit : goal.walk_expr-returns-in_err-visit
walk_expr-returns-in_err-visit t g c =
    let k = context_of c.args.at.now c.args.demand in
    stops_in _ (node (AnExpr c.args.expr.now) k ∷ []) (part_nodes c.args.expr.now k) _ _ _ _ _ (nodes-parts c.args.expr.now k) c.from_residual.ensures.1 c.in_err-visit.ensures

pub walk_expr-returns : goal.walk_expr-returns
walk_expr-returns t g c =
    let k = context_of c.args.at.now c.args.demand in
    over_same _ _ _ _ _ _ (nodes-parts c.args.expr.now k) (then_part (part_nodes c.args.expr.now) c.args.demand _ _ c.in_ok-visit.ensures c.walk_parts.ensures)

pub walk_parts-returns-in_err-walk_each-in-List : goal.walk_parts-returns-in_err-walk_each-in-List
walk_parts-returns-in_err-walk_each-in-List t g c =
    let k = context_of c.args.at.now c.args.demand in
    let shape = shaped c.in-List.is (outs-List _ _ _) k in
    stops_in _ (each_node nodes c.as_slice-in-List.result.now (for_one k)) (end_nodes c.in-List.tail (for_one k)) _ _ _ _ _ (shape ∙ cc) c.from_residual.ensures.1 c.in_err-walk_each-in-List.ensures

pub walk_parts-returns-in_ok-walk_each-in-List : goal.walk_parts-returns-in_ok-walk_each-in-List
walk_parts-returns-in_ok-walk_each-in-List t g c =
    let k = context_of c.args.at.now c.args.demand in
    over_same _ _ _ _ _ _ (shaped c.in-List.is (outs-List _ _ _) k ∙ cc) (then_part (λ k. end_nodes c.get.result.now (for_one k)) c.args.demand _ _ c.in_ok-walk_each-in-List.ensures c.walk_end.ensures)

pub walk_parts-returns-in_err-walk_values-in-Let : goal.walk_parts-returns-in_err-walk_values-in-Let
walk_parts-returns-in_err-walk_values-in-Let t g c =
    let k = context_of c.args.at.now c.args.demand in
    let shape = shaped c.in-Let.is (outs-Let _ _ _) k in
    stops_in _ (nodes c.get-in-Let.result.now (for_values c.len.result k)) (nodes c.in-Let.body (binding c.in-Let.vars k)) _ _ _ _ _ (shape ∙ cc) c.from_residual-in_err-walk_values-in-Let.ensures.1 c.in_err-walk_values-in-Let.ensures

pub walk_parts-returns-in_ok-walk_values-in-Let : goal.walk_parts-returns-in_ok-walk_values-in-Let
walk_parts-returns-in_ok-walk_values-in-Let t g c =
    let k = context_of c.args.at.now c.args.demand in
    over_same _ _ _ _ _ _ (shaped c.in-Let.is (outs-Let _ _ _) k ∙ cc) (then_part (λ k. nodes c.get-in-Let-2.result.now (binding c.as_slice-in-Let.result.now k)) c.args.demand _ _ c.in_ok-walk_values-in-Let.ensures c.walk_under.ensures)

pub walk_parts-returns-in_err-walk_values-in-Do : goal.walk_parts-returns-in_err-walk_values-in-Do
walk_parts-returns-in_err-walk_values-in-Do t g c =
    let k = context_of c.args.at.now c.args.demand in
    let shape = shaped c.in-Do.is (outs-Do _ _) k in
    stops_in _ (nodes c.get-in-Do.result.now (for_one k)) (nodes c.in-Do.second (inside k)) _ _ _ _ _ (shape ∙ cc) c.from_residual-in_err-walk_values-in-Do.ensures.1 c.in_err-walk_values-in-Do.ensures

pub walk_parts-returns-in_ok-walk_values-in-Do : goal.walk_parts-returns-in_ok-walk_values-in-Do
walk_parts-returns-in_ok-walk_values-in-Do t g c =
    let k = context_of c.args.at.now c.args.demand in
    over_same _ _ _ _ _ _ (shaped c.in-Do.is (outs-Do _ _) k ∙ cc) (then_part (λ k. nodes c.get-in-Do-2.result.now (inside k)) c.args.demand _ _ c.in_ok-walk_values-in-Do.ensures c.walk_inside.ensures)

pub walk_parts-returns-in_err-walk_values-in-Case : goal.walk_parts-returns-in_err-walk_values-in-Case
walk_parts-returns-in_err-walk_values-in-Case t g c =
    let k = context_of c.args.at.now c.args.demand in
    let shape = shaped c.in-Case.is (outs-Case _ _) k in
    stops_in _ (nodes c.get-in-Case.result.now (for_values c.needs_of_case-needs.result k)) (each_node clause_nodes c.in-Case.clauses (inside k)) _ _ _ _ _ (shape ∙ cc) c.from_residual-in_err-walk_values-in-Case.ensures.1 c.in_err-walk_values-in-Case.ensures

pub walk_parts-returns-in_ok-walk_values-in-Case : goal.walk_parts-returns-in_ok-walk_values-in-Case
walk_parts-returns-in_ok-walk_values-in-Case t g c =
    let k = context_of c.args.at.now c.args.demand in
    over_same _ _ _ _ _ _ (shaped c.in-Case.is (outs-Case _ _) k ∙ cc) (then_part (λ k. each_node clause_nodes c.as_slice-in-Case-2.result.now (inside k)) c.args.demand _ _ c.in_ok-walk_values-in-Case.ensures c.walk_clauses.ensures)

pub walk_parts-returns-in_err-walk_place-in-Apply : goal.walk_parts-returns-in_err-walk_place-in-Apply
walk_parts-returns-in_err-walk_place-in-Apply t g c =
    let k = context_of c.args.at.now c.args.demand in
    let shape = shaped c.in-Apply.is (outs-Apply _ _) k in
    stops_in _ (nodes c.get-in-Apply.result.now (at_place Applied k)) (each_node nodes c.in-Apply.args (for_one k)) _ _ _ _ _ (shape ∙ cc) c.from_residual-in_err-walk_place-in-Apply.ensures.1 c.in_err-walk_place-in-Apply.ensures

pub walk_parts-returns-in_ok-walk_place-in-Apply : goal.walk_parts-returns-in_ok-walk_place-in-Apply
walk_parts-returns-in_ok-walk_place-in-Apply t g c =
    let k = context_of c.args.at.now c.args.demand in
    over_same _ _ _ _ _ _ (shaped c.in-Apply.is (outs-Apply _ _) k ∙ cc) (then_part (λ k. each_node nodes c.as_slice-in-Apply.result.now (for_one k)) c.args.demand _ _ c.in_ok-walk_place-in-Apply.ensures c.walk_each-in-Apply.ensures)

pub walk_parts-returns-in_err-walk_values-in-Call : goal.walk_parts-returns-in_err-walk_values-in-Call
walk_parts-returns-in_err-walk_values-in-Call t g c =
    let k = context_of c.args.at.now c.args.demand in
    let shape = shaped c.in-Call.is (outs-Call _ _ _) k in
    stops_in _ (nodes c.get-in-Call.result.now (for_one k)) (nodes c.in-Call.name (for_one k) ++ each_node nodes c.in-Call.args (for_one k)) _ _ _ _ _ (shape ∙ append_assoc (nodes c.in-Call.«module» (for_one k)) (nodes c.in-Call.name (for_one k)) (each_node nodes c.in-Call.args (for_one k)) ∙ cc) c.from_residual-in_err-walk_values-in-Call.ensures.1 c.in_err-walk_values-in-Call.ensures

pub walk_parts-returns-in_err-walk_values-in-Call-2 : goal.walk_parts-returns-in_err-walk_values-in-Call-2
walk_parts-returns-in_err-walk_values-in-Call-2 t g c =
    let k = context_of c.args.at.now c.args.demand in
    let shape = shaped c.in-Call.is (outs-Call _ _ _) k in
    let both = then_part (λ k. nodes c.get-in-Call-2.result.now (for_one k)) c.args.demand (Err c.in_err-walk_values-in-Call-2.field-0.0) c.walk_values-in-Call-2.new.at c.in_ok-walk_values-in-Call.ensures c.in_err-walk_values-in-Call-2.ensures in
    stops_in _ (nodes c.get-in-Call.result.now (for_one k) ++ nodes c.get-in-Call-2.result.now (for_one k)) (each_node nodes c.in-Call.args (for_one k)) _ _ _ _ _ (shape ∙ cc) c.from_residual-in_err-walk_values-in-Call-2.ensures.1 both

pub walk_parts-returns-in_ok-walk_values-in-Call-2 : goal.walk_parts-returns-in_ok-walk_values-in-Call-2
walk_parts-returns-in_ok-walk_values-in-Call-2 t g c =
    let k = context_of c.args.at.now c.args.demand in
    let both = then_part (λ k. nodes c.get-in-Call-2.result.now (for_one k)) c.args.demand (Ok tt) c.walk_values-in-Call-2.new.at c.in_ok-walk_values-in-Call.ensures c.in_ok-walk_values-in-Call-2.ensures in
    over_same _ _ _ _ _ _ (shaped c.in-Call.is (outs-Call _ _ _) k ∙ cc) (then_part (λ k. each_node nodes c.as_slice-in-Call.result.now (for_one k)) c.args.demand _ _ both c.walk_each-in-Call.ensures)

pub walk_parts-returns-in_err-walk_clauses-in-Receive : goal.walk_parts-returns-in_err-walk_clauses-in-Receive
walk_parts-returns-in_err-walk_clauses-in-Receive t g c =
    let k = context_of c.args.at.now c.args.demand in
    let shape = shaped c.in-Receive.is (outs-Receive _ _ _) k in
    stops_in _ (each_node clause_nodes c.as_slice-in-Receive.result.now (inside k)) (nodes c.in-Receive.timeout (at_place Timeout k) ++ nodes c.in-Receive.body (inside k)) _ _ _ _ _ (shape ∙ append_assoc (each_node clause_nodes c.in-Receive.clauses (inside k)) (nodes c.in-Receive.timeout (at_place Timeout k)) (nodes c.in-Receive.body (inside k)) ∙ cc) c.from_residual-in_err-walk_clauses-in-Receive.ensures.1 c.in_err-walk_clauses-in-Receive.ensures

pub walk_parts-returns-in_err-walk_place-in-Receive : goal.walk_parts-returns-in_err-walk_place-in-Receive
walk_parts-returns-in_err-walk_place-in-Receive t g c =
    let k = context_of c.args.at.now c.args.demand in
    let shape = shaped c.in-Receive.is (outs-Receive _ _ _) k in
    let both = then_part (λ k. nodes c.get-in-Receive.result.now (at_place Timeout k)) c.args.demand (Err c.in_err-walk_place-in-Receive.field-0.0) c.walk_place-in-Receive.new.at c.in_ok-walk_clauses-in-Receive.ensures c.in_err-walk_place-in-Receive.ensures in
    stops_in _ (each_node clause_nodes c.as_slice-in-Receive.result.now (inside k) ++ nodes c.get-in-Receive.result.now (at_place Timeout k)) (nodes c.in-Receive.body (inside k)) _ _ _ _ _ (shape ∙ cc) c.from_residual-in_err-walk_place-in-Receive.ensures.1 both

pub walk_parts-returns-in_ok-walk_place-in-Receive : goal.walk_parts-returns-in_ok-walk_place-in-Receive
walk_parts-returns-in_ok-walk_place-in-Receive t g c =
    let k = context_of c.args.at.now c.args.demand in
    let both = then_part (λ k. nodes c.get-in-Receive.result.now (at_place Timeout k)) c.args.demand (Ok tt) c.walk_place-in-Receive.new.at c.in_ok-walk_clauses-in-Receive.ensures c.in_ok-walk_place-in-Receive.ensures in
    over_same _ _ _ _ _ _ (shaped c.in-Receive.is (outs-Receive _ _ _) k ∙ cc) (then_part (λ k. nodes c.get-in-Receive-2.result.now (inside k)) c.args.demand _ _ both c.walk_inside-in-Receive.ensures)

pub walk_parts-returns-in_err-walk_values-in-Try : goal.walk_parts-returns-in_err-walk_values-in-Try
walk_parts-returns-in_err-walk_values-in-Try t g c =
    let k = context_of c.args.at.now c.args.demand in
    let shape = shaped c.in-Try.is (outs-Try _ _ _ _ _) k in
    stops_in _ (nodes c.get-in-Try.result.now (for_values c.len-in-Try.result k)) (nodes c.in-Try.body (binding c.in-Try.vars k) ++ nodes c.in-Try.catch_body (binding c.in-Try.catch_vars k)) _ _ _ _ _ (shape ∙ append_assoc (nodes c.in-Try.value (for_values (length c.in-Try.vars) k)) (nodes c.in-Try.body (binding c.in-Try.vars k)) (nodes c.in-Try.catch_body (binding c.in-Try.catch_vars k)) ∙ cc) c.from_residual-in_err-walk_values-in-Try.ensures.1 c.in_err-walk_values-in-Try.ensures

pub walk_parts-returns-in_err-walk_under-in-Try : goal.walk_parts-returns-in_err-walk_under-in-Try
walk_parts-returns-in_err-walk_under-in-Try t g c =
    let k = context_of c.args.at.now c.args.demand in
    let shape = shaped c.in-Try.is (outs-Try _ _ _ _ _) k in
    let both = then_part (λ k. nodes c.get-in-Try-2.result.now (binding c.as_slice-in-Try.result.now k)) c.args.demand (Err c.in_err-walk_under-in-Try.field-0.0) c.walk_under-in-Try.new.at c.in_ok-walk_values-in-Try.ensures c.in_err-walk_under-in-Try.ensures in
    stops_in _ (nodes c.get-in-Try.result.now (for_values c.len-in-Try.result k) ++ nodes c.get-in-Try-2.result.now (binding c.as_slice-in-Try.result.now k)) (nodes c.in-Try.catch_body (binding c.in-Try.catch_vars k)) _ _ _ _ _ (shape ∙ cc) c.from_residual-in_err-walk_under-in-Try.ensures.1 both

pub walk_parts-returns-in_ok-walk_under-in-Try : goal.walk_parts-returns-in_ok-walk_under-in-Try
walk_parts-returns-in_ok-walk_under-in-Try t g c =
    let k = context_of c.args.at.now c.args.demand in
    let both = then_part (λ k. nodes c.get-in-Try-2.result.now (binding c.as_slice-in-Try.result.now k)) c.args.demand (Ok tt) c.walk_under-in-Try.new.at c.in_ok-walk_values-in-Try.ensures c.in_ok-walk_under-in-Try.ensures in
    over_same _ _ _ _ _ _ (shaped c.in-Try.is (outs-Try _ _ _ _ _) k ∙ cc) (then_part (λ k. nodes c.get-in-Try-3.result.now (binding c.as_slice-in-Try-2.result.now k)) c.args.demand _ _ both c.walk_under-in-Try-2.ensures)

pub walk_parts-returns-in_err-walk_functions-in-Letrec : goal.walk_parts-returns-in_err-walk_functions-in-Letrec
walk_parts-returns-in_err-walk_functions-in-Letrec t g c =
    let k = context_of c.args.at.now c.args.demand in
    let within = context_of (record c.args.at.now { locals = c.define.new.self }) c.args.demand in
    let defined = c.in_ok-define-in-Letrec.ensures in
    let shape = shaped c.in-Letrec.is (outs-Letrec _ _) k in
    stops_in _ (each_node definition_nodes c.as_slice-in-Letrec-2.result.now (inside within)) (nodes c.in-Letrec.body (inside within)) _ _ _ _ _ (shape ∙ cc) c.from_residual-in_err-walk_functions-in-Letrec.ensures.1 c.in_err-walk_functions-in-Letrec.ensures

pub walk_parts-returns-in_err-walk_inside-in-Letrec : goal.walk_parts-returns-in_err-walk_inside-in-Letrec
walk_parts-returns-in_err-walk_inside-in-Letrec t g c =
    let k = context_of c.args.at.now c.args.demand in
    let within = context_of (record c.args.at.now { locals = c.define.new.self }) c.args.demand in
    let defined = c.in_ok-define-in-Letrec.ensures in
    let shape = shaped c.in-Letrec.is (outs-Letrec _ _) k in
    let both = then_part (λ k. nodes c.get-in-Letrec.result.now (inside k)) c.args.demand (Err c.in_err-walk_inside-in-Letrec.field-0.0) c.walk_inside-in-Letrec.new.at c.in_ok-walk_functions-in-Letrec.ensures c.in_err-walk_inside-in-Letrec.ensures in
    let whole = each_node definition_nodes c.as_slice-in-Letrec-2.result.now (inside within) ++ nodes c.get-in-Letrec.result.now (inside within) in
    stops_in _ whole [] _ _ _ _ _ (shape ∙ cc (append-nil whole)) c.from_residual-in_err-walk_inside-in-Letrec.ensures.1 both

pub walk_parts-returns-in_ok-walk_inside-in-Letrec : goal.walk_parts-returns-in_ok-walk_inside-in-Letrec
walk_parts-returns-in_ok-walk_inside-in-Letrec t g c =
    let k = context_of c.args.at.now c.args.demand in
    let within = context_of (record c.args.at.now { locals = c.define.new.self }) c.args.demand in
    let defined = c.in_ok-define-in-Letrec.ensures in
    let shape = shaped c.in-Letrec.is (outs-Letrec _ _) k in
    let both = then_part (λ k. nodes c.get-in-Letrec.result.now (inside k)) c.args.demand (Ok tt) c.walk_inside-in-Letrec.new.at c.in_ok-walk_functions-in-Letrec.ensures c.in_ok-walk_inside-in-Letrec.ensures in
    let whole = each_node definition_nodes c.as_slice-in-Letrec-2.result.now (inside within) ++ nodes c.get-in-Letrec.result.now (inside within) in
    let same : part_nodes c.args.expr.now k ≡ whole = shape ∙ cc in
    record {
      passed = ap (λ ns. walked (form_at (t.C.Check.forms c.args.check.now) c.args.names.now) ns c.args.at.now.node) same ∙ both.passed;
      same_scope = both.same_scope;
      same_locals = c.leave.ensures ∙ left c.args.at.now.locals _ _ c.len-depth.result c.len-depth.ensures (both.same_locals ∙ defined);
    }

pub walk_each-loop-expr-preserved : goal.walk_each-loop-expr-preserved
walk_each-loop-expr-preserved t g c =
    let k = context_of c.args.at.now c.args.demand in
    let xs = c.args.exprs.now in
    let x = c.expr-item.result in
    let check = form_at (t.C.Check.forms c.args.check.now) c.args.names.now in
    over_same check _ _ (Ok tt) c.args.at.now c.walk_values.new.at (each_node-take nodes xs c.loop-expr.expr-index x (for_one k) c.loop-expr-test.true c.expr-item.is) (then_part (λ k. nodes x (for_one k)) c.args.demand (Ok tt) c.walk_values.new.at c.loop-expr.invariant c.in_ok-walk_values.ensures)

pub walk_each-returns-in_err-walk_values : goal.walk_each-returns-in_err-walk_values
walk_each-returns-in_err-walk_values t g c =
    let k = context_of c.args.at.now c.args.demand in
    let xs = c.args.exprs.now in
    let x = c.expr-item.result in
    let check = form_at (t.C.Check.forms c.args.check.now) c.args.names.now in
    let both = then_part (λ k. nodes x (for_one k)) c.args.demand (Err c.in_err-walk_values.field-0.0) c.walk_values.new.at c.loop-expr.invariant c.in_err-walk_values.ensures in
    stops_in check _ (each_node nodes (drop (c.loop-expr.expr-index + 1) xs) (for_one k)) _ _ _ _ _ (each_node-rest nodes xs c.loop-expr.expr-index x (for_one k) c.loop-expr-test.true c.expr-item.is) c.from_residual.ensures.1 both

pub walk_clauses-loop-clause-preserved : goal.walk_clauses-loop-clause-preserved
walk_clauses-loop-clause-preserved t g c =
    let k = context_of c.args.at.now c.args.demand in
    let xs = c.args.clauses.now in
    let x = c.clause-item.result in
    let check = form_at (t.C.Check.forms c.args.check.now) c.args.names.now in
    let passed = subst (λ demand. IsPassed check (clause_nodes x (context_of c.loop-clause.at demand)) c.loop-clause.at c.walk_clause.new.at) c.inside.ensures c.in_ok-walk_clause.ensures in
    over_same check _ _ (Ok tt) c.args.at.now c.walk_clause.new.at (each_node-take clause_nodes xs c.loop-clause.clause-index x (inside k) c.loop-clause-test.true c.clause-item.is) (then_part (λ k. clause_nodes x (inside k)) c.args.demand (Ok tt) c.walk_clause.new.at c.loop-clause.invariant passed)

pub walk_clauses-returns-in_err-walk_clause : goal.walk_clauses-returns-in_err-walk_clause
walk_clauses-returns-in_err-walk_clause t g c =
    let k = context_of c.args.at.now c.args.demand in
    let xs = c.args.clauses.now in
    let x = c.clause-item.result in
    let check = form_at (t.C.Check.forms c.args.check.now) c.args.names.now in
    let stopped = subst (λ demand. Reports c.in_err-walk_clause.field-0.0 (walked check (clause_nodes x (context_of c.loop-clause.at demand)) c.loop-clause.at.node)) c.inside.ensures c.in_err-walk_clause.ensures in
    let both = then_part (λ k. clause_nodes x (inside k)) c.args.demand (Err c.in_err-walk_clause.field-0.0) c.walk_clause.new.at c.loop-clause.invariant stopped in
    stops_in check _ (each_node clause_nodes (drop (c.loop-clause.clause-index + 1) xs) (inside k)) _ _ _ _ _ (each_node-rest clause_nodes xs c.loop-clause.clause-index x (inside k) c.loop-clause-test.true c.clause-item.is) c.from_residual.ensures.1 both

pub walk_functions-loop-function-preserved : goal.walk_functions-loop-function-preserved
walk_functions-loop-function-preserved t g c =
    let k = context_of c.args.at.now c.args.demand in
    let xs = c.args.functions.now in
    let x = c.function-item.result in
    let check = form_at (t.C.Check.forms c.args.check.now) c.args.names.now in
    let m = c.loop-function.at in
    let same : nodes x.body (binding c.as_slice.result.now (context_of m c.for_values.result)) ≡ definition_nodes x (inside (context_of m c.args.demand)) =
    ap (λ demand. nodes x.body (binding c.as_slice.result.now (context_of m demand))) c.for_values.ensures
    ∙ ap (λ params. nodes x.body (for_one (binding params (inside (context_of m c.args.demand))))) c.as_slice.ensures
    ∙ sym (definition_nodes-parts x (inside (context_of m c.args.demand))) in
    let passed = subst (λ ns. IsPassed check ns m c.walk_under.new.at) same c.in_ok-walk_under.ensures in
    over_same check _ _ (Ok tt) c.args.at.now c.walk_under.new.at (each_node-take definition_nodes xs c.loop-function.function-index x (inside k) c.loop-function-test.true c.function-item.is) (then_part (λ k. definition_nodes x (inside k)) c.args.demand (Ok tt) c.walk_under.new.at c.loop-function.invariant passed)

pub walk_functions-returns-in_err-walk_under : goal.walk_functions-returns-in_err-walk_under
walk_functions-returns-in_err-walk_under t g c =
    let k = context_of c.args.at.now c.args.demand in
    let xs = c.args.functions.now in
    let x = c.function-item.result in
    let check = form_at (t.C.Check.forms c.args.check.now) c.args.names.now in
    let m = c.loop-function.at in
    let same : nodes x.body (binding c.as_slice.result.now (context_of m c.for_values.result)) ≡ definition_nodes x (inside (context_of m c.args.demand)) =
    ap (λ demand. nodes x.body (binding c.as_slice.result.now (context_of m demand))) c.for_values.ensures
    ∙ ap (λ params. nodes x.body (for_one (binding params (inside (context_of m c.args.demand))))) c.as_slice.ensures
    ∙ sym (definition_nodes-parts x (inside (context_of m c.args.demand))) in
    let stopped = subst (λ ns. Reports c.in_err-walk_under.field-0.0 (walked check ns m.node)) same c.in_err-walk_under.ensures in
    let both = then_part (λ k. definition_nodes x (inside k)) c.args.demand (Err c.in_err-walk_under.field-0.0) c.walk_under.new.at c.loop-function.invariant stopped in
    stops_in check _ (each_node definition_nodes (drop (c.loop-function.function-index + 1) xs) (inside k)) _ _ _ _ _ (each_node-rest definition_nodes xs c.loop-function.function-index x (inside k) c.loop-function-test.true c.function-item.is) c.from_residual.ensures.1 both

pub walk_clause-returns-in_err-visit_patterns : goal.walk_clause-returns-in_err-visit_patterns
walk_clause-returns-in_err-visit_patterns t g c =
    let k = context_of c.args.at.now c.args.demand in
    let x = c.args.clause.now in
    let variables = clause_variables x.patterns in
    let shape = clause_nodes-parts x k ∙ append_assoc (pattern_nodes x.patterns k) (nodes x.guard (guarding variables k)) (nodes x.body (binding variables k)) in
    stops_in _ (pattern_nodes c.as_slice.result.now k) (nodes x.guard (guarding variables k) ++ nodes x.body (binding variables k)) _ _ _ _ _ (shape ∙ cc) c.from_residual.ensures.1 c.in_err-visit_patterns.ensures

pub walk_clause-returns-in_err-walk_expr : goal.walk_clause-returns-in_err-walk_expr
walk_clause-returns-in_err-walk_expr t g c =
    let k = context_of c.args.at.now c.args.demand in
    let x = c.args.clause.now in
    let variables = clause_variables x.patterns in
    let check = form_at (t.C.Check.forms c.args.check.now) c.args.names.now in
    let patterns = c.in_ok-visit_patterns.ensures in
    let bound = c.in_ok-bind_patterns.ensures ∙ ap (λ ps. c.visit_patterns.new.at.scope ++ clause_variables ps) c.as_slice-2.ensures in
    let same = guard_context c.args.demand c.guarding.result c.bind_patterns.new.scope variables patterns bound c.guarding.ensures in
    let guard = subst (λ k. Reports c.in_err-walk_expr.field-0.0 (walked check (nodes x.guard k) c.visit_patterns.new.at.node)) same c.in_err-walk_expr.ensures in
    let both = reports-then check (pattern_nodes c.as_slice.result.now k) (nodes x.guard (guarding variables k)) _ c.args.at.now.node _ patterns.passed guard in
    stops_in check (pattern_nodes c.as_slice.result.now k ++ nodes x.guard (guarding variables k)) (nodes x.body (binding variables k)) _ _ _ _ _ (clause_nodes-parts x k ∙ cc) c.from_residual-in_err-walk_expr.ensures.1 both

pub walk_clause-returns-in_err-walk_inside : goal.walk_clause-returns-in_err-walk_inside
walk_clause-returns-in_err-walk_inside t g c =
    let k = context_of c.args.at.now c.args.demand in
    let x = c.args.clause.now in
    let variables = clause_variables x.patterns in
    let check = form_at (t.C.Check.forms c.args.check.now) c.args.names.now in
    let patterns = c.in_ok-visit_patterns.ensures in
    let bound = c.in_ok-bind_patterns.ensures ∙ ap (λ ps. c.visit_patterns.new.at.scope ++ clause_variables ps) c.as_slice-2.ensures in
    let guards = c.in_ok-walk_expr.ensures in
    let same = guard_context c.args.demand c.guarding.result c.bind_patterns.new.scope variables patterns bound c.guarding.ensures in
    let guard = ap (λ k. walked check (nodes x.guard k) c.visit_patterns.new.at.node) (sym same) ∙ guards.passed in
    let both = passed-then check (pattern_nodes c.as_slice.result.now k) (nodes x.guard (guarding variables k)) c.args.at.now.node _ _ patterns.passed guard in
    let same_body = body_context c.args.demand c.walk_expr.new.at c.bind_patterns.new.scope variables patterns bound guards.same_scope guards.same_locals in
    let body = subst (λ k. Reports c.in_err-walk_inside.field-0.0 (walked check (nodes x.body k) c.walk_expr.new.at.node)) same_body c.in_err-walk_inside.ensures in
    let whole = pattern_nodes c.as_slice.result.now k ++ nodes x.guard (guarding variables k) ++ nodes x.body (binding variables k) in
    let stopped = reports-then check (pattern_nodes c.as_slice.result.now k ++ nodes x.guard (guarding variables k)) (nodes x.body (binding variables k)) _ c.args.at.now.node _ both body in
    stops_in check whole [] _ _ _ _ _ (clause_nodes-parts x k ∙ cc (append-nil whole)) c.from_residual-in_err-walk_inside.ensures.1 stopped

pub walk_clause-returns : goal.walk_clause-returns
walk_clause-returns t g c =
    let k = context_of c.args.at.now c.args.demand in
    let x = c.args.clause.now in
    let variables = clause_variables x.patterns in
    let check = form_at (t.C.Check.forms c.args.check.now) c.args.names.now in
    let patterns = c.in_ok-visit_patterns.ensures in
    let bound = c.in_ok-bind_patterns.ensures ∙ ap (λ ps. c.visit_patterns.new.at.scope ++ clause_variables ps) c.as_slice-2.ensures in
    let guards = c.in_ok-walk_expr.ensures in
    let bodies = c.in_ok-walk_inside.ensures in
    let same = guard_context c.args.demand c.guarding.result c.bind_patterns.new.scope variables patterns bound c.guarding.ensures in
    let guard = ap (λ k. walked check (nodes x.guard k) c.visit_patterns.new.at.node) (sym same) ∙ guards.passed in
    let both = passed-then check (pattern_nodes c.as_slice.result.now k) (nodes x.guard (guarding variables k)) c.args.at.now.node _ _ patterns.passed guard in
    let same_body = body_context c.args.demand c.walk_expr.new.at c.bind_patterns.new.scope variables patterns bound guards.same_scope guards.same_locals in
    let body = ap (λ k. walked check (nodes x.body k) c.walk_expr.new.at.node) (sym same_body) ∙ bodies.passed in
    let whole = pattern_nodes c.as_slice.result.now k ++ nodes x.guard (guarding variables k) ++ nodes x.body (binding variables k) in
    let all = passed-then check (pattern_nodes c.as_slice.result.now k ++ nodes x.guard (guarding variables k)) (nodes x.body (binding variables k)) c.args.at.now.node _ _ both body in
    let parts : clause_nodes x k ≡ whole = clause_nodes-parts x k ∙ cc in
    record {
      passed = ap (λ ns. walked check ns c.args.at.now.node) parts ∙ all;
      same_scope = c.leave.ensures ∙ left c.visit_patterns.new.at.scope _ _ c.len-depth.result c.len-depth.ensures (bodies.same_scope ∙ guards.same_scope ∙ bound) ∙ patterns.same_scope;
      same_locals = bodies.same_locals ∙ guards.same_locals ∙ patterns.same_locals;
    }
