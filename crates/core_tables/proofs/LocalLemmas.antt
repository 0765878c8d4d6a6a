-- The functions of letrecs among the nodes are as many as those counted part by part.
use Rattle.std.proofs.Common.{◌≡◌, ℕ, ◌+◌, if◌then◌else◌, List, [], ◌∷◌, ◌++◌, length, map, sum, refl, sym, ap, ◌∙◌, subst, arith, append_assoc, length-append}
use Rattle.std.proofs.lemmas.Grind.{common_steps}
use Rattle.std.proofs.lemmas.List.{length-map}
use Rattle.hy_core.specs.Nodes.{Context, Node, Nodes, node, APattern, nodes, clause_nodes, definition_nodes, pattern_nodes, is_nil_layer, for_one, for_values, inside, at_place, binding, defining, guarding, names_of, patterns_of_first}
use Rattle.hy_core.specs.SubPatterns.{within, patterns_in, clause_variables}
use Rattle.hy_core.specs.Tables.{definitions_at, definitions_layer}
use Rattle.hy_core.specs.declared.place.Place.TheVariants.{Applied, Timeout}
use Rattle.hy_core.specs.declared.tree.Clause.{Clause}
use Rattle.hy_core.specs.declared.tree.Expr.{Expr}
use Rattle.hy_core.specs.declared.tree.Expr.TheFolds.{ind-Expr, map-Expr, fold-roll-Expr, fold-roll-Clause, fold-roll-Function}
use Rattle.hy_core.specs.declared.tree.Expr.TheOpen as layer
use Rattle.hy_core.specs.declared.tree.Expr.TheOpen.{Expr-F}
use Rattle.hy_core.specs.declared.tree.Expr.TheViews.{out-Expr, roll-Expr, roll-out-Expr, out-roll-Expr, roll-Clause, roll-Function}
use Rattle.hy_core.specs.declared.tree.Function.{Function}
use Rattle.hy_core.specs.declared.tree.Pattern.{Pattern}
use Rattle.hy_core.proofs.NodesLemmas.{nodes-parts, clause_nodes-parts, definition_nodes-parts}
use Rattle.core_tables.specs.code.LocalCount.{definitions_in, local_count, clause_count, definition_count, count_step, clause_count_step, function_count_step}
use Rattle.hy_core.specs.NodeParts.{each_node, end_nodes, parts_layer}

pub definitions_in-append : (xs ys : List Node) → definitions_in (xs ++ ys) ≡ definitions_in xs ++ definitions_in ys
definitions_in-append [] ys = refl
definitions_in-append (x ∷ xs) ys = ap (λ fs. definitions_at x.piece ++ fs) (definitions_in-append xs ys) ∙ sym (append_assoc (definitions_at x.piece) (definitions_in xs) (definitions_in ys))

both : (xs ys : List Node) → length (definitions_in (xs ++ ys)) ≡ length (definitions_in xs) + length (definitions_in ys)
both xs ys = ap length (definitions_in-append xs ys) ∙ length-append (definitions_in xs) (definitions_in ys)

abbrev Counted : Expr → Type 0
Counted x = (c : Context) → length (definitions_in (nodes x c)) ≡ local_count x

abbrev CountedClause : Clause → Type 0
CountedClause k = (c : Context) → length (definitions_in (clause_nodes k c)) ≡ clause_count k

abbrev CountedDefinition : Function → Type 0
CountedDefinition f = (c : Context) → length (definitions_in (definition_nodes f c)) ≡ definition_count f

module _ {A : Type 0} (f : A → Nodes) (g : A → ℕ) where
  abbrev Item : Type 0
  Item = (x : A) × ((c : Context) → length (definitions_in (f x c)) ≡ g x)

  each-counted : (ys : List Item) (c : Context) → length (definitions_in (each_node f (map (λ y. y.0) ys) c)) ≡ sum (map g (map (λ y. y.0) ys))
  each-counted [] c = refl
  each-counted (y ∷ ys) c =
      let rest = map (λ (y : Item). y.0) ys in
      let more : sum (g y.0 ∷ map g rest) ≡ g y.0 + sum (map g rest) = grind (arith, common_steps) in
      omega (arith, both (f y.0 c) (each_node f rest c), y.1 c, each-counted ys c, more)

abbrev CountedExpr : Type 0
CountedExpr = (x : Expr) × Counted x

abbrev Layer : Type 0
Layer = Expr-F CountedExpr ((k : Clause) × CountedClause k) ((f : Function) × CountedDefinition f)

abbrev bare : Layer → Expr-F Expr Clause Function
bare = map-Expr CountedExpr ((k : Clause) × CountedClause k) ((f : Function) × CountedDefinition f) Expr Clause Function (λ x. x.0) (λ x. x.0) (λ x. x.0)

folded : (z : Expr-F Expr Clause Function) → local_count (roll-Expr z) ≡ count_step (map-Expr Expr Clause Function ℕ ℕ ℕ local_count clause_count definition_count z)
folded = fold-roll-Expr ℕ ℕ ℕ count_step clause_count_step function_count_step

by_layer : (z : Expr-F Expr Clause Function) (c : Context) → length (definitions_in (nodes (roll-Expr z) c)) ≡ length (definitions_layer z) + length (definitions_in (parts_layer z c))
by_layer z c =
    ap (λ ns. length (definitions_in ns)) (nodes-parts (roll-Expr z) c)
    ∙ length-append (definitions_layer (out-Expr (roll-Expr z))) (definitions_in (parts_layer (out-Expr (roll-Expr z)) c))
    ∙ ap (λ w. length (definitions_layer w) + length (definitions_in (parts_layer w c))) (out-roll-Expr z)

end_by : (z : Expr-F Expr Clause Function) (x : Expr) (c : Context) → local_count x ≡ local_count (roll-Expr z) → length (definitions_in (nodes x c)) ≡ local_count x
    → length (definitions_in (if is_nil_layer z then [] else nodes x c)) ≡ local_count x
end_by layer.Nil x c e h = sym (e ∙ folded layer.Nil)
end_by _ x c e h = h

end-counted : (x : CountedExpr) (c : Context) → length (definitions_in (end_nodes x.0 c)) ≡ local_count x.0
end-counted x c = end_by (out-Expr x.0) x.0 c (ap local_count (sym (roll-out-Expr x.0))) (x.1 c)

parts-counted : (y : Layer) (c : Context) → length (definitions_layer (bare y)) + length (definitions_in (parts_layer (bare y) c)) ≡ count_step (map-Expr Expr Clause Function ℕ ℕ ℕ local_count clause_count definition_count (bare y))
parts-counted (layer.Tuple site xs) c = omega (arith, each-counted nodes local_count xs (for_one c))
parts-counted (layer.List site xs x) c = omega (arith, both (each_node nodes (map (λ x. x.0) xs) (for_one c)) (end_nodes x.0 (for_one c)), each-counted nodes local_count xs (for_one c), end-counted x (for_one c))
parts-counted (layer.Values xs) c = omega (arith, each-counted nodes local_count xs (for_one c))
parts-counted (layer.Let vars x y) c = omega (arith, both (nodes x.0 (for_values (length vars) c)) (nodes y.0 (binding vars c)), x.1 (for_values (length vars) c), y.1 (binding vars c))
parts-counted (layer.Do x y) c = omega (arith, both (nodes x.0 (for_one c)) (nodes y.0 (inside c)), x.1 (for_one c), y.1 (inside c))
parts-counted (layer.Case x ks) c =
    let needs = for_values (patterns_of_first (map (λ k. k.0) ks)) c in
    omega (arith, both (nodes x.0 needs) (each_node clause_nodes (map (λ k. k.0) ks) (inside c)), x.1 needs, each-counted clause_nodes clause_count ks (inside c))
parts-counted (layer.Letrec fs x) c =
    let within = defining (names_of (map (λ f. f.0) fs)) c in
    omega (arith, length-map (map (λ (f : (f : Function) × CountedDefinition f). f.0) fs) definition_count, both (each_node definition_nodes (map (λ f. f.0) fs) within) (nodes x.0 within), each-counted definition_nodes definition_count fs within, x.1 within)
parts-counted (layer.Apply x xs) c = omega (arith, both (nodes x.0 (at_place Applied c)) (each_node nodes (map (λ x. x.0) xs) (for_one c)), x.1 (at_place Applied c), each-counted nodes local_count xs (for_one c))
parts-counted (layer.Call x y xs) c =
    let args = each_node nodes (map (λ (x : CountedExpr). x.0) xs) (for_one c) in
    omega (arith, both (nodes x.0 (for_one c) ++ nodes y.0 (for_one c)) args, both (nodes x.0 (for_one c)) (nodes y.0 (for_one c)), x.1 (for_one c), y.1 (for_one c), each-counted nodes local_count xs (for_one c))
parts-counted (layer.Primop a xs) c = omega (arith, each-counted nodes local_count xs (for_one c))
parts-counted (layer.Receive ks x y) c =
    let clauses = each_node clause_nodes (map (λ (k : (k : Clause) × CountedClause k). k.0) ks) (inside c) in
    omega (arith, both (clauses ++ nodes x.0 (at_place Timeout c)) (nodes y.0 (inside c)), both clauses (nodes x.0 (at_place Timeout c)), x.1 (at_place Timeout c), y.1 (inside c), each-counted clause_nodes clause_count ks (inside c))
parts-counted (layer.Try x vs y ws z) c =
    omega (arith, both (nodes x.0 (for_values (length vs) c) ++ nodes y.0 (binding vs c)) (nodes z.0 (binding ws c)), both (nodes x.0 (for_values (length vs) c)) (nodes y.0 (binding vs c)), x.1 (for_values (length vs) c), y.1 (binding vs c), z.1 (binding ws c))
parts-counted (layer.Catch x) c = omega (arith, x.1 (for_one c))
parts-counted (layer.Fun vs x) c = omega (arith, x.1 (for_one (binding vs c)))
parts-counted (layer.Int n) c = refl
parts-counted (layer.Atom a) c = refl
parts-counted layer.Nil c = refl
parts-counted (layer.Str text) c = refl
parts-counted (layer.Var x) c = refl
parts-counted (layer.Name f) c = refl

counted_at : (y : Layer) → Counted (roll-Expr (bare y))
counted_at y c = by_layer (bare y) c ∙ parts-counted y c ∙ sym (folded (bare y))

none_at_patterns : (qs : List Pattern) (c : Context) → definitions_in (map (λ q. node (APattern q) c) qs) ≡ []
none_at_patterns [] c = refl
none_at_patterns (q ∷ qs) c = none_at_patterns qs c

none_in_patterns : (ps : List Pattern) (c : Context) → definitions_in (pattern_nodes ps c) ≡ []
none_in_patterns [] c = refl
none_in_patterns (p ∷ ps) c = none_at_patterns (within p ++ patterns_in ps) c

pub counted : (x : Expr) → Counted x
counted = ind-Expr Counted CountedClause CountedDefinition
    (λ x y is. subst (λ z. Counted (roll-Expr z)) is (counted_at y))
    (λ x y is. subst (λ z. CountedClause (roll-Clause z)) is (λ c.
    let vs = clause_variables y.patterns in
    let guard = nodes y.guard.0 (guarding vs c) in
    let body = nodes y.body.0 (binding vs c) in
    let parts = ap (λ ns. length (definitions_in ns)) (clause_nodes-parts (record { patterns = y.patterns; guard = y.guard.0; body = y.body.0 }) c) in
    let total = fold-roll-Clause ℕ ℕ ℕ count_step clause_count_step function_count_step (record { patterns = y.patterns; guard = y.guard.0; body = y.body.0 }) in
    parts ∙ omega (arith, both (pattern_nodes y.patterns c ++ guard) body, both (pattern_nodes y.patterns c) guard, ap length (none_in_patterns y.patterns c), y.guard.1 (guarding vs c), y.body.1 (binding vs c)) ∙ sym total))
    (λ x y is. subst (λ z. CountedDefinition (roll-Function z)) is (λ c.
    let parts = ap (λ ns. length (definitions_in ns)) (definition_nodes-parts (record { name = y.name; params = y.params; body = y.body.0 }) c) in
    let total = fold-roll-Function ℕ ℕ ℕ count_step clause_count_step function_count_step (record { name = y.name; params = y.params; body = y.body.0 }) in
    parts ∙ y.body.1 (for_one (binding y.params c)) ∙ sym total))
