use Rattle.std.proofs.Common.{rules, w64, SFits, [], ◌∷◌, refl, sym, ap, ◌∙◌}
use Rattle.std.proofs.lemmas.Int.{to_z-of_z}
use Rattle.std.proofs.lemmas.List.{take_all}
use Rattle.hy_core.specs.Counting.{made, next, at_node}
use Rattle.hy_core.specs.Numbered.{numbered_tree}
use Rattle.hy_core.specs.declared.info.SiteKind.TheVariants as kind
use Rattle.hy_core.specs.declared.tree.Expr.TheVariants as e
use Rattle.hy_core.specs.declared.tree.Expr.TheViews.{outs-Int, outs-Atom, outs-Nil, outs-Str, outs-Var, outs-Name, outs-Tuple, outs-Values, outs-Let, outs-Do, outs-Case, outs-Letrec, outs-Apply, outs-Call, outs-Primop, outs-Receive, outs-Try, outs-Catch, outs-Fun}
use Rattle.core_tables.specs.code.NumberedParts.{each, numbered_each, numbered_clause, numbered_definition}
use Rattle.core_tables.proofs.CallLemmas.{called-does}
use Rattle.core_tables.proofs.FormLemmas.{call-made, clause-made, definition-made, leaf-made, list-made, spawned_list-made, spawned_other-made, spawn_args-made, three_items}
use Rattle.core_tables.proofs.CountingLemmas.{each-take, of_one, of_two, of_three, then}
use Rattle.core_tables.proofs.NumberedLemmas.{by_form}
use Rattle.core_tables.proofs.expr.+number.Goals as goal

pub number_expr-returns-in-Int : goal.number_expr-returns-in-Int
number_expr-returns-in-Int _ c =
    let t = c.args.places.now in
    let m = c.args.names.now in
    let k = c.args.function in
    let n = c.args.numbers.now in
    let fits : SFits w64 c.in-Int.value = search rules in
    leaf-made t m _ _ _ _ k n _ c.in-Int.is (outs-Int _) (ap (λ z. at_node [] (λ _. made (e.Int z)) k n) (to_z-of_z w64 c.in-Int.value fits)) c.leaf.ensures

pub number_expr-returns-in-Atom : goal.number_expr-returns-in-Atom
number_expr-returns-in-Atom _ c =
    let t = c.args.places.now in
    let m = c.args.names.now in
    let k = c.args.function in
    let n = c.args.numbers.now in
    leaf-made t m _ _ _ _ k n _ c.in-Atom.is (outs-Atom _) (ap (λ a. at_node [] (λ _. made (e.Atom a)) k n) c.renamed.ensures) c.leaf-in-Atom.ensures

pub number_expr-returns-in-Nil : goal.number_expr-returns-in-Nil
number_expr-returns-in-Nil _ c =
    let t = c.args.places.now in
    let m = c.args.names.now in
    let k = c.args.function in
    let n = c.args.numbers.now in
    leaf-made t m _ _ _ _ k n _ c.in-Nil.is outs-Nil refl c.leaf-in-Nil.ensures

pub number_expr-returns-in-Var : goal.number_expr-returns-in-Var
number_expr-returns-in-Var _ c =
    let t = c.args.places.now in
    let m = c.args.names.now in
    let k = c.args.function in
    let n = c.args.numbers.now in
    leaf-made t m _ _ _ _ k n _ c.in-Var.is (outs-Var _) refl c.leaf-in-Var.ensures

pub number_expr-returns-in-Name : goal.number_expr-returns-in-Name
number_expr-returns-in-Name _ c =
    let t = c.args.places.now in
    let m = c.args.names.now in
    let k = c.args.function in
    let n = c.args.numbers.now in
    leaf-made t m _ _ _ _ k n _ c.in-Name.is (outs-Name _) (ap (λ f. at_node [] (λ _. made (e.Name f)) k n) c.renamed_name.ensures) c.leaf-in-Name.ensures

pub number_expr-returns-in_ok-copied_text-in-Str : goal.number_expr-returns-in_ok-copied_text-in-Str
number_expr-returns-in_ok-copied_text-in-Str _ c =
    let t = c.args.places.now in
    let m = c.args.names.now in
    let k = c.args.function in
    let n = c.args.numbers.now in
    by_form t m c.in-Str.is (outs-Str _) k n
    (then (at_node (kind.String ∷ []) made) (λ _. made (e.Str c.in-Str.text)) k c.in_ok-build-in-Str.ensures (ap (λ text. (e.Str text, c.build.new.self)) c.in_ok-copied_text-in-Str.ensures))

pub number_expr-returns-in_ok-parts-in-Tuple : goal.number_expr-returns-in_ok-parts-in-Tuple
number_expr-returns-in_ok-parts-in-Tuple _ c =
    let t = c.args.places.now in
    let m = c.args.names.now in
    let k = c.args.function in
    let n = c.args.numbers.now in
    by_form t m c.in-Tuple.is (outs-Tuple _ _) k n
    (then (at_node (kind.Tuple ∷ []) made) (λ site. next (numbered_each t m c.in-Tuple.parts) λ xs. made (e.Tuple site xs)) k c.in_ok-site-in-Tuple.ensures
    (then (numbered_each t m c.in-Tuple.parts) (λ xs. made (e.Tuple c.in_ok-site-in-Tuple.site xs)) k c.in_ok-parts-in-Tuple.ensures refl))

pub number_expr-returns-in_ok-tail-in-List : goal.number_expr-returns-in_ok-tail-in-List
number_expr-returns-in_ok-tail-in-List _ c =
    let t = c.args.places.now in
    let m = c.args.names.now in
    let k = c.args.function in
    let n = c.args.numbers.now in
    list-made t m _ _ _ _ k _ _ n _ _ _ _ _ c.in-List.is c.len.ensures c.in_ok-site-in-List.ensures c.in_ok-heads-in-List.ensures c.in_ok-tail-in-List.ensures

pub number_expr-returns-in_ok-parts-in-Values : goal.number_expr-returns-in_ok-parts-in-Values
number_expr-returns-in_ok-parts-in-Values _ c =
    let t = c.args.places.now in
    let m = c.args.names.now in
    let k = c.args.function in
    let n = c.args.numbers.now in
    by_form t m c.in-Values.is (outs-Values _) k n
    (of_one (numbered_each t m c.in-Values.parts) e.Values k c.in_ok-pass-in-Values.ensures c.in_ok-parts-in-Values.ensures)

pub number_expr-returns-in_ok-vars-in-Let : goal.number_expr-returns-in_ok-vars-in-Let
number_expr-returns-in_ok-vars-in-Let _ c =
    let t = c.args.places.now in
    let m = c.args.names.now in
    let k = c.args.function in
    let n = c.args.numbers.now in
    by_form t m c.in-Let.is (outs-Let _ _ _) k n
    (ap (λ vars. (e.Let vars c.in_ok-value-in-Let.value c.in_ok-body-in-Let.body, c.number_boxed-in-Let.new.numbers)) c.in_ok-vars-in-Let.ensures
    ∙ of_two (numbered_tree t m c.in-Let.value) (numbered_tree t m c.in-Let.body) (e.Let c.in-Let.vars) k c.in_ok-pass-in-Let.ensures c.in_ok-value-in-Let.ensures c.in_ok-body-in-Let.ensures)

pub number_expr-returns-in_ok-second-in-Do : goal.number_expr-returns-in_ok-second-in-Do
number_expr-returns-in_ok-second-in-Do _ c =
    let t = c.args.places.now in
    let m = c.args.names.now in
    let k = c.args.function in
    let n = c.args.numbers.now in
    by_form t m c.in-Do.is (outs-Do _ _) k n
    (of_two (numbered_tree t m c.in-Do.first) (numbered_tree t m c.in-Do.second) e.Do k c.in_ok-pass-in-Do.ensures c.in_ok-first-in-Do.ensures c.in_ok-second-in-Do.ensures)

pub number_expr-returns-in_ok-clauses-in-Case : goal.number_expr-returns-in_ok-clauses-in-Case
number_expr-returns-in_ok-clauses-in-Case _ c =
    let t = c.args.places.now in
    let m = c.args.names.now in
    let k = c.args.function in
    let n = c.args.numbers.now in
    by_form t m c.in-Case.is (outs-Case _ _) k n
    (of_two (numbered_tree t m c.in-Case.value) (each (numbered_clause t m) c.in-Case.clauses) e.Case k c.in_ok-pass-in-Case.ensures c.in_ok-value-in-Case.ensures c.in_ok-clauses-in-Case.ensures)

pub number_expr-returns-in_ok-body-in-Letrec : goal.number_expr-returns-in_ok-body-in-Letrec
number_expr-returns-in_ok-body-in-Letrec _ c =
    let t = c.args.places.now in
    let m = c.args.names.now in
    let k = c.args.function in
    let n = c.args.numbers.now in
    by_form t m c.in-Letrec.is (outs-Letrec _ _) k n
    (of_two (each (numbered_definition t m) c.in-Letrec.functions) (numbered_tree t m c.in-Letrec.body) e.Letrec k c.in_ok-pass-in-Letrec.ensures (c.in_ok-functions-in-Letrec.ensures k) c.in_ok-body-in-Letrec.ensures)

pub number_expr-returns-in_ok-args-in-Apply : goal.number_expr-returns-in_ok-args-in-Apply
number_expr-returns-in_ok-args-in-Apply _ c =
    let t = c.args.places.now in
    let m = c.args.names.now in
    let k = c.args.function in
    let n = c.args.numbers.now in
    by_form t m c.in-Apply.is (outs-Apply _ _) k n
    (of_two (numbered_tree t m c.in-Apply.what) (numbered_each t m c.in-Apply.args) e.Apply k c.in_ok-pass-in-Apply.ensures c.in_ok-what-in-Apply.ensures c.in_ok-args-in-Apply.ensures)

pub number_expr-returns-in_ok-args-in-Call : goal.number_expr-returns-in_ok-args-in-Call
number_expr-returns-in_ok-args-in-Call _ c =
    let t = c.args.places.now in
    let m = c.args.names.now in
    let k = c.args.function in
    let n = c.args.numbers.now in
    let is = c.called-built_in.ensures ∙ called-does t m _ _ _ ∙ cc in
    by_form t m c.in-Call.is (outs-Call _ _ _) k n
    (call-made t m c.in-Call.«module» c.in-Call.name c.in-Call.args k c.call_sites.result c.called-built_in.result n is c.call_sites.ensures c.in_ok-build-in-Call.ensures c.in_ok-module-in-Call.ensures c.in_ok-name-in-Call.ensures c.in_ok-args-in-Call.ensures)

pub number_expr-returns-in_ok-args-in-Primop : goal.number_expr-returns-in_ok-args-in-Primop
number_expr-returns-in_ok-args-in-Primop _ c =
    let t = c.args.places.now in
    let m = c.args.names.now in
    let k = c.args.function in
    let n = c.args.numbers.now in
    by_form t m c.in-Primop.is (outs-Primop _ _) k n
    (ap (λ name. (e.Primop name c.in_ok-args-in-Primop.args, c.number_each-in-Primop.new.numbers)) c.renamed-name.ensures
    ∙ of_one (numbered_each t m c.in-Primop.args) (e.Primop _) k c.in_ok-pass-in-Primop.ensures c.in_ok-args-in-Primop.ensures)

pub number_expr-returns-in_ok-body-in-Receive : goal.number_expr-returns-in_ok-body-in-Receive
number_expr-returns-in_ok-body-in-Receive _ c =
    let t = c.args.places.now in
    let m = c.args.names.now in
    let k = c.args.function in
    let n = c.args.numbers.now in
    by_form t m c.in-Receive.is (outs-Receive _ _ _) k n
    (of_three (each (numbered_clause t m) c.in-Receive.clauses) (numbered_tree t m c.in-Receive.timeout) (numbered_tree t m c.in-Receive.body) e.Receive k c.in_ok-pass-in-Receive.ensures c.in_ok-clauses-in-Receive.ensures c.in_ok-timeout-in-Receive.ensures c.in_ok-body-in-Receive.ensures)

pub number_expr-returns-in_ok-catch_vars-in-Try : goal.number_expr-returns-in_ok-catch_vars-in-Try
number_expr-returns-in_ok-catch_vars-in-Try _ c =
    let t = c.args.places.now in
    let m = c.args.names.now in
    let k = c.args.function in
    let n = c.args.numbers.now in
    let value = c.in_ok-value-in-Try.value in
    let body = c.in_ok-body-in-Try.body in
    let catch_body = c.in_ok-catch_body-in-Try.catch_body in
    let after = c.number_boxed-in-Try-3.new.numbers in
    by_form t m c.in-Try.is (outs-Try _ _ _ _ _) k n
    ((λ i. (e.Try value (c.in_ok-vars-in-Try.ensures i) body (c.in_ok-catch_vars-in-Try.ensures i) catch_body, after))
    ∙ of_three (numbered_tree t m c.in-Try.value) (numbered_tree t m c.in-Try.body) (numbered_tree t m c.in-Try.catch_body) (λ v b w. e.Try v c.in-Try.vars b c.in-Try.catch_vars w) k c.in_ok-pass-in-Try.ensures c.in_ok-value-in-Try.ensures c.in_ok-body-in-Try.ensures c.in_ok-catch_body-in-Try.ensures)

pub number_expr-returns-in_ok-body-in-Catch : goal.number_expr-returns-in_ok-body-in-Catch
number_expr-returns-in_ok-body-in-Catch _ c =
    let t = c.args.places.now in
    let m = c.args.names.now in
    let k = c.args.function in
    let n = c.args.numbers.now in
    by_form t m c.in-Catch.is (outs-Catch _) k n
    (of_one (numbered_tree t m c.in-Catch.body) e.Catch k c.in_ok-pass-in-Catch.ensures c.in_ok-body-in-Catch.ensures)

pub number_expr-returns-in_ok-params-in-Fun : goal.number_expr-returns-in_ok-params-in-Fun
number_expr-returns-in_ok-params-in-Fun _ c =
    let t = c.args.places.now in
    let m = c.args.names.now in
    let k = c.args.function in
    let n = c.args.numbers.now in
    by_form t m c.in-Fun.is (outs-Fun _ _) k n
    (ap (λ params. (e.Fun params c.in_ok-body-in-Fun.body, c.number_boxed-in-Fun.new.numbers)) c.in_ok-params-in-Fun.ensures
    ∙ of_one (numbered_tree t m c.in-Fun.body) (e.Fun c.in-Fun.params) k c.in_ok-pass-in-Fun.ensures c.in_ok-body-in-Fun.ensures)

pub number_definitions-returns : goal.number_definitions-returns
number_definitions-returns _ c =
    let t = c.args.places.now in
    let m = c.args.names.now in
    let n = c.args.numbers.now in
    λ k. c.loop-definition.invariant k ∙ ap (λ xs. each (numbered_definition t m) xs k n) (take_all _ _ c.loop-definition-test.false ∙ c.as_slice-definition-items.ensures)

pub number_spawn_args-returns-in_ok-push-3 : goal.number_spawn_args-returns-in_ok-push-3
number_spawn_args-returns-in_ok-push-3 _ c =
    let t = c.args.places.now in
    let m = c.args.names.now in
    let k = c.args.function in
    let n = c.args.numbers.now in
    let args = sym c.as_slice.ensures ∙ three_items c.as_slice.result.now _ _ _ c.in-len3.len_at_least c.in-len3.len_below c.module-item.is c.name-item.is c.list-item.is in
    spawn_args-made t m _ c.module-item.result c.name-item.result c.list-item.result k n _ _ _ _ _ _ _ _ _ _ args c.new-trees.ensures c.in_ok-number_expr.ensures c.in_ok-push.ensures.ok c.in_ok-number_expr-2.ensures c.in_ok-push-2.ensures.ok c.in_ok-number_spawned.ensures c.in_ok-push-3.ensures.ok

pub number_spawned-returns-in_ok-tail : goal.number_spawned-returns-in_ok-tail
number_spawned-returns-in_ok-tail _ c =
    let t = c.args.places.now in
    let m = c.args.names.now in
    let k = c.args.function in
    let n = c.args.numbers.now in
    spawned_list-made t m _ _ _ _ k n _ _ _ _ _ c.in-List.is c.in_ok-pass.ensures c.in_ok-heads.ensures c.in_ok-tail.ensures

pub number_spawned-returns-in_default : goal.number_spawned-returns-in_default
number_spawned-returns-in_default _ c =
    let t = c.args.places.now in
    let m = c.args.names.now in
    let k = c.args.function in
    let n = c.args.numbers.now in
    spawned_other-made t m _ _ k n _ c.in_default.not-List c.number_expr.ensures

pub number_clause-returns : goal.number_clause-returns
number_clause-returns _ c =
    let t = c.args.places.now in
    let m = c.args.names.now in
    let k = c.args.function in
    let n = c.args.numbers.now in
    clause-made t m c.args.clause.now k n c.in_ok-pass_patterns.ensures c.as_slice.ensures c.in_ok-guard.ensures c.in_ok-body.ensures c.in_ok-patterns.ensures c.as_slice-2.ensures

pub number_definition-returns : goal.number_definition-returns
number_definition-returns _ c =
    let t = c.args.places.now in
    let m = c.args.names.now in
    let n = c.args.numbers.now in
    definition-made t m c.args.definition.now c.in_ok-own.own n c.in_ok-own.ensures c.in_ok-body.ensures c.renamed_name.ensures c.in_ok-copied.ensures

pub number_each-loop-expr-preserved : goal.number_each-loop-expr-preserved
number_each-loop-expr-preserved _ c =
    let t = c.args.places.now in
    let m = c.args.names.now in
    let k = c.args.function in
    let n = c.args.numbers.now in
    each-take (numbered_tree t m) c.as_slice-expr-items.result.now c.loop-expr.expr-index c.expr-item.result k n c.loop-expr-test.true c.expr-item.is c.loop-expr.invariant c.in_ok-number_expr.ensures c.in_ok-push.ensures.ok

pub number_clauses-loop-clause-preserved : goal.number_clauses-loop-clause-preserved
number_clauses-loop-clause-preserved _ c =
    let t = c.args.places.now in
    let m = c.args.names.now in
    let k = c.args.function in
    let n = c.args.numbers.now in
    each-take (numbered_clause t m) c.as_slice-clause-items.result.now c.loop-clause.clause-index c.clause-item.result k n c.loop-clause-test.true c.clause-item.is c.loop-clause.invariant c.in_ok-number_clause.ensures c.in_ok-push.ensures.ok

pub number_definitions-loop-definition-preserved : goal.number_definitions-loop-definition-preserved
number_definitions-loop-definition-preserved _ c =
    let t = c.args.places.now in
    let m = c.args.names.now in
    let n = c.args.numbers.now in
    λ k. each-take (numbered_definition t m) c.as_slice-definition-items.result.now c.loop-definition.definition-index c.definition-item.result k n c.loop-definition-test.true c.definition-item.is (c.loop-definition.invariant k) (c.in_ok-number_definition.ensures k) c.in_ok-push.ensures.ok
