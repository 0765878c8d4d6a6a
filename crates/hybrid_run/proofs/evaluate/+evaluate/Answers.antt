use Rattle.std.proofs.Common.{rules, ◌≡◌, ◌∷◌, [], refl, sym, subst, arith, length, w64, SFits}
use Rattle.std.proofs.lemmas.Int.{to_z-of_z}
use Rattle.hybrid_run.specs.Built.{IsClosed}
use Rattle.hy_core.specs.declared.tree.Expr.{Expr}
use Rattle.hybrid_run.specs.Arithmetic.{variables_of}
use Rattle.hybrid_run.specs.declared.value.Ending.TheVariants.{Gives, Raises}
use Rattle.hybrid_run.proofs.Evaluating.{int_evaluates, variable_evaluates, let_gives, let_raises, do_gives, do_raises, display_raises, sum_gives, sum_left_raises, sum_right_raises, call_evaluates, module_of, moved, moved_under, moved_call, if_ok, one_item, two_items, shown_call, under_built}
use Rattle.hybrid_run.proofs.evaluate.+evaluate.Goals as goal

pub evaluate-returns-in-Int-clause-evaluates : goal.evaluate-returns-in-Int-clause-evaluates
evaluate-returns-in-Int-clause-evaluates t c =
    let fits : SFits w64 c.in-Int.n = search rules in
    rw (to_z-of_z w64 c.in-Int.n fits, c.in-Int.is) (int_evaluates c.in-Int.n c.args.env.now.items c.args.printed.now.items)

pub evaluate-returns-in-Var-clause-evaluates : goal.evaluate-returns-in-Var-clause-evaluates
evaluate-returns-in-Var-clause-evaluates t c = rw c.in-Var.is (variable_evaluates c.in-Var.var c.value_of.result c.args.env.now.items c.args.printed.now.items (rw c.as_slice.ensures.value at c.value_of.ensures))

pub evaluate-returns-in-Gives-clause-evaluates : goal.evaluate-returns-in-Gives-clause-evaluates
evaluate-returns-in-Gives-clause-evaluates t c =
    let env = c.args.env.now.items in
    let before = c.args.printed.now.items in
    let mid = c.evaluate.new.printed.items in
    let now = c.evaluate_under.new.printed.items in
    let first = moved c.get.result.now c.in-Let.value env env before mid c.in_ok-value-in-Let.field-0 (Gives c.in-Gives.value) c.get.ensures refl c.in-Gives.is c.in_ok-value-in-Let.ensures.evaluates in
    if_ok c.evaluate_under.result
    (λ ending h. rw c.in-Let.is
    (let_gives c.in-Let.vars c.in-Let.value c.in-Let.body env before mid now c.in-Gives.value ending first
    (moved_under c.as_slice-in-Gives.result.now c.in-Let.vars c.in-Gives.value c.get-in-Gives.result.now c.in-Let.body c.evaluate.new.env.items env mid now ending c.as_slice-in-Gives.ensures c.get-in-Gives.ensures c.in_ok-value-in-Let.ensures.env h)))
    c.evaluate_under.ensures.evaluates

pub evaluate-returns-in-Raises-clause-evaluates : goal.evaluate-returns-in-Raises-clause-evaluates
evaluate-returns-in-Raises-clause-evaluates t c =
    let env = c.args.env.now.items in
    let before = c.args.printed.now.items in
    let now = c.evaluate.new.printed.items in
    rw c.in-Let.is
    (let_raises c.in-Let.vars c.in-Let.value c.in-Let.body env before now c.in-Raises.reason
    (moved c.get.result.now c.in-Let.value env env before now c.in_ok-value-in-Let.field-0 (Raises c.in-Raises.reason) c.get.ensures refl c.in-Raises.is c.in_ok-value-in-Let.ensures.evaluates))

pub evaluate-returns-in-Gives-2-clause-evaluates :
    goal.evaluate-returns-in-Gives-2-clause-evaluates
evaluate-returns-in-Gives-2-clause-evaluates t c =
    let env = c.args.env.now.items in
    let before = c.args.printed.now.items in
    let mid = c.evaluate-in-Do.new.printed.items in
    let now = c.evaluate-in-Gives-2.new.printed.items in
    let first = moved c.get-in-Do.result.now c.in-Do.first env env before mid c.in_ok-evaluate-in-Do.field-0 (Gives c.in-Gives-2.field-0) c.get-in-Do.ensures refl c.in-Gives-2.is c.in_ok-evaluate-in-Do.ensures.evaluates in
    if_ok c.evaluate-in-Gives-2.result
    (λ ending h. rw c.in-Do.is
    (do_gives c.in-Do.first c.in-Do.second env before mid now c.in-Gives-2.field-0 ending first
    (moved c.get-in-Gives-2.result.now c.in-Do.second c.evaluate-in-Do.new.env.items env mid now ending ending c.get-in-Gives-2.ensures c.in_ok-evaluate-in-Do.ensures.env refl h)))
    c.evaluate-in-Gives-2.ensures.evaluates

pub evaluate-returns-in-Raises-2-clause-evaluates :
    goal.evaluate-returns-in-Raises-2-clause-evaluates
evaluate-returns-in-Raises-2-clause-evaluates t c =
    let env = c.args.env.now.items in
    let before = c.args.printed.now.items in
    let now = c.evaluate-in-Do.new.printed.items in
    rw c.in-Do.is
    (do_raises c.in-Do.first c.in-Do.second env before now c.in-Raises-2.reason
    (moved c.get-in-Do.result.now c.in-Do.first env env before now c.in_ok-evaluate-in-Do.field-0 (Raises c.in-Raises-2.reason) c.get-in-Do.ensures refl c.in-Raises-2.is c.in_ok-evaluate-in-Do.ensures.evaluates))

pub evaluate-returns-in-Call-clause-evaluates : goal.evaluate-returns-in-Call-clause-evaluates
evaluate-returns-in-Call-clause-evaluates t c =
    let env = c.args.env.now.items in
    let before = c.args.printed.now.items in
    let now = c.evaluate_call.new.printed.items in
    let head = module_of c.requires.0 (variables_of env) c.in-Call.module c.in-Call.name c.in-Call.args (subst (λ (z : Expr). IsClosed c.requires.0 (variables_of env) z) c.in-Call.is c.requires.1) in
    if_ok c.evaluate_call.result
    (λ ending h. rw c.in-Call.is
    (call_evaluates c.in-Call.module c.in-Call.name c.in-Call.args env before now ending head.0 head.1 head.2 head.3
    (moved_call c.as_slice-in-Call.result.now c.in-Call.args env before now ending c.as_slice-in-Call.ensures h)))
    c.evaluate_call.ensures.evaluates

pub evaluate_call-returns-in-Gives-clause-evaluates :
    goal.evaluate_call-returns-in-Gives-clause-evaluates
evaluate_call-returns-in-Gives-clause-evaluates t c =
    let one : length c.args.args.now ≡ 1 = omega arith in
    if_ok c.display.result
    (λ ending h. shown_call c.args.args.now c.shown-item.result c.args.env.now.items c.args.printed.now.items c.evaluate.new.printed.items c.display.new.printed.items c.in-Gives.value c.in_ok-value-in-len1.field-0 ending
    (one_item c.args.args.now c.shown-item.result one c.shown-item.is) c.in_ok-value-in-len1.ensures.evaluates c.in-Gives.is h.0 h.1)
    c.display.ensures

pub evaluate_call-returns-in-Raises-clause-evaluates :
    goal.evaluate_call-returns-in-Raises-clause-evaluates
evaluate_call-returns-in-Raises-clause-evaluates t c =
    let env = c.args.env.now.items in
    let before = c.args.printed.now.items in
    let now = c.evaluate.new.printed.items in
    let x = c.shown-item.result in
    let one : length c.args.args.now ≡ 1 = omega arith in
    moved_call (x ∷ []) c.args.args.now env before now (Raises c.in-Raises.reason) (sym (one_item c.args.args.now x one c.shown-item.is))
    (display_raises x env before now c.in-Raises.reason (moved x x env env before now c.in_ok-value-in-len1.field-0 (Raises c.in-Raises.reason) refl refl c.in-Raises.is c.in_ok-value-in-len1.ensures.evaluates))

pub evaluate_call-returns-in-Gives-3-clause-evaluates :
    goal.evaluate_call-returns-in-Gives-3-clause-evaluates
evaluate_call-returns-in-Gives-3-clause-evaluates t c =
    let env = c.args.env.now.items in
    let before = c.args.printed.now.items in
    let mid = c.evaluate-in-len2.new.printed.items in
    let now = c.evaluate-in-Gives-2.new.printed.items in
    let x = c.left-item.result in
    let y = c.right-item.result in
    let two : length c.args.args.now ≡ 2 = omega arith in
    moved_call (x ∷ y ∷ []) c.args.args.now env before now c.sum.result (sym (two_items c.args.args.now x y two c.left-item.is c.right-item.is))
    (sum_gives x y env before mid now c.in-Gives-2.left c.in-Gives-3.right c.sum.result
    (moved x x env env before mid c.in_ok-left-in-len2.field-0 (Gives c.in-Gives-2.left) refl refl c.in-Gives-2.is c.in_ok-left-in-len2.ensures.evaluates)
    (moved y y c.evaluate-in-len2.new.env.items env mid now c.in_ok-right-in-Gives-2.field-0 (Gives c.in-Gives-3.right) refl c.in_ok-left-in-len2.ensures.env c.in-Gives-3.is c.in_ok-right-in-Gives-2.ensures.evaluates)
    c.sum.ensures)

pub evaluate_call-returns-in-Raises-3-clause-evaluates :
    goal.evaluate_call-returns-in-Raises-3-clause-evaluates
evaluate_call-returns-in-Raises-3-clause-evaluates t c =
    let env = c.args.env.now.items in
    let before = c.args.printed.now.items in
    let mid = c.evaluate-in-len2.new.printed.items in
    let now = c.evaluate-in-Gives-2.new.printed.items in
    let x = c.left-item.result in
    let y = c.right-item.result in
    let two : length c.args.args.now ≡ 2 = omega arith in
    moved_call (x ∷ y ∷ []) c.args.args.now env before now (Raises c.in-Raises-3.reason) (sym (two_items c.args.args.now x y two c.left-item.is c.right-item.is))
    (sum_right_raises x y env before mid now c.in-Gives-2.left c.in-Raises-3.reason
    (moved x x env env before mid c.in_ok-left-in-len2.field-0 (Gives c.in-Gives-2.left) refl refl c.in-Gives-2.is c.in_ok-left-in-len2.ensures.evaluates)
    (moved y y c.evaluate-in-len2.new.env.items env mid now c.in_ok-right-in-Gives-2.field-0 (Raises c.in-Raises-3.reason) refl c.in_ok-left-in-len2.ensures.env c.in-Raises-3.is c.in_ok-right-in-Gives-2.ensures.evaluates))

pub evaluate_call-returns-in-Raises-2-clause-evaluates :
    goal.evaluate_call-returns-in-Raises-2-clause-evaluates
evaluate_call-returns-in-Raises-2-clause-evaluates t c =
    let env = c.args.env.now.items in
    let before = c.args.printed.now.items in
    let now = c.evaluate-in-len2.new.printed.items in
    let x = c.left-item.result in
    let y = c.right-item.result in
    let two : length c.args.args.now ≡ 2 = omega arith in
    moved_call (x ∷ y ∷ []) c.args.args.now env before now (Raises c.in-Raises-2.reason) (sym (two_items c.args.args.now x y two c.left-item.is c.right-item.is))
    (sum_left_raises x y env before now c.in-Raises-2.reason (moved x x env env before now c.in_ok-left-in-len2.field-0 (Raises c.in-Raises-2.reason) refl refl c.in-Raises-2.is c.in_ok-left-in-len2.ensures.evaluates))

pub evaluate_under-evaluate-ending-requires : goal.evaluate_under-evaluate-ending-requires
evaluate_under-evaluate-ending-requires t c =
    (search rules, (c.requires.0, under_built c.requires.0 c.requires.1 c.args.vars.now c.args.value c.args.env.now.items c.push.new.self.items c.args.body.now _ c.requires.2 c.in_ok-push.ensures.items c.requires.3))
