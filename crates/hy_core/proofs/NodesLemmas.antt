-- The nodes of an expression are its own and then those of its parts.
use Rattle.std.proofs.Common.{◌≡◌, ℕ, ◌+◌, ◌<◌, List, [], ◌∷◌, ◌++◌, length, map, take, drop, refl, sym, ap, ◌∙◌, subst, append_assoc}
use Rattle.std.proofs.lemmas.List.{append-nil, take_more, take-append-drop}
use Rattle.std.specs.List.{slice_index_or}
use Rattle.hy_core.specs.Nodes.{Nodes, Context, Node, node, AnExpr, all_nodes, expr_step, clause_step, function_step, nodes, clause_nodes, definition_nodes, pattern_nodes, guarding, binding, defining, for_one, for_values, inside, names_of, patterns_of_first}
use Rattle.hy_core.specs.SubPatterns.{clause_variables}
use Rattle.hy_core.specs.declared.tree.Clause.{Clause}
use Rattle.hy_core.specs.declared.tree.Expr.{Expr}
use Rattle.hy_core.specs.declared.tree.Expr.TheFolds.{para-roll-Expr, para-roll-Clause, para-roll-Function}
use Rattle.hy_core.specs.declared.tree.Expr.TheOpen as layer
use Rattle.hy_core.specs.declared.tree.Expr.TheOpen.{Expr-F, Clause-F, Function-F}
use Rattle.hy_core.specs.declared.tree.Expr.TheVariants as e
use Rattle.hy_core.specs.declared.tree.Expr.TheViews.{out-Expr, roll-Expr, roll-out-Expr}
use Rattle.hy_core.specs.declared.tree.Function.{Function}
use Rattle.hy_core.specs.NodeParts.{each_node, parts_layer, part_nodes}

-- parts as pairs with their nodes
pub all_nodes-each : {A : Type 0} (f : A → Nodes) (xs : List A) (c : Context) → all_nodes (map (λ x. (x, f x)) xs) c ≡ each_node f xs c
all_nodes-each f [] c = refl
all_nodes-each f (x ∷ xs) c = ap (λ ns. f x c ++ ns) (all_nodes-each f xs c)

firsts : {A : Type 0} (f : A → Nodes) (xs : List A) → map (λ (part : A × Nodes). part.0) (map (λ x. (x, f x)) xs) ≡ xs
firsts f [] = refl
firsts f (x ∷ xs) = ap (λ ys. x ∷ ys) (firsts f xs)

-- the same expression with the same nodes behind it
same_nodes : {x y : Expr} {ns ms : List Node} (c : Context) → x ≡ y → ns ≡ ms → node (AnExpr x) c ∷ ns ≡ node (AnExpr y) c ∷ ms
same_nodes c p q = λ i. node (AnExpr (p i)) c ∷ q i

beside : {ns ms ks js : List Node} → ns ≡ ms → ks ≡ js → ns ++ ks ≡ ms ++ js
beside p q = λ i. p i ++ q i

abbrev exprs : (xs : List Expr) (c : Context) → all_nodes (map (λ x. (x, nodes x)) xs) c ≡ each_node nodes xs c
exprs = all_nodes-each nodes

-- at one layer
at_layer : (y : Expr-F Expr Clause Function) (c : Context) → nodes (roll-Expr y) c ≡ node (AnExpr (roll-Expr y)) c ∷ parts_layer y c
at_layer (layer.Int n) c = ap (λ f. f c) (para-roll-Expr Nodes Nodes Nodes expr_step clause_step function_step (layer.Int n)) ∙ same_nodes c (sym (e.rolls-Int n)) refl
at_layer (layer.Atom a) c = ap (λ f. f c) (para-roll-Expr Nodes Nodes Nodes expr_step clause_step function_step (layer.Atom a)) ∙ same_nodes c (sym (e.rolls-Atom a)) refl
at_layer layer.Nil c = ap (λ f. f c) (para-roll-Expr Nodes Nodes Nodes expr_step clause_step function_step layer.Nil) ∙ same_nodes c (sym (e.rolls-Nil)) refl
at_layer (layer.Str text) c = ap (λ f. f c) (para-roll-Expr Nodes Nodes Nodes expr_step clause_step function_step (layer.Str text)) ∙ same_nodes c (sym (e.rolls-Str text)) refl
at_layer (layer.Var x) c = ap (λ f. f c) (para-roll-Expr Nodes Nodes Nodes expr_step clause_step function_step (layer.Var x)) ∙ same_nodes c (sym (e.rolls-Var x)) refl
at_layer (layer.Name f) c = ap (λ f. f c) (para-roll-Expr Nodes Nodes Nodes expr_step clause_step function_step (layer.Name f)) ∙ same_nodes c (sym (e.rolls-Name f)) refl
at_layer (layer.Tuple site xs) c = ap (λ f. f c) (para-roll-Expr Nodes Nodes Nodes expr_step clause_step function_step (layer.Tuple site xs)) ∙ same_nodes c (ap (e.Tuple site) (firsts nodes xs) ∙ sym (e.rolls-Tuple site xs)) (exprs xs (for_one c))
at_layer (layer.List site xs x) c = ap (λ f. f c) (para-roll-Expr Nodes Nodes Nodes expr_step clause_step function_step (layer.List site xs x)) ∙ same_nodes c (ap (λ ys. e.List site ys x) (firsts nodes xs) ∙ sym (e.rolls-List site xs x)) (beside (exprs xs (for_one c)) refl)
at_layer (layer.Values xs) c = ap (λ f. f c) (para-roll-Expr Nodes Nodes Nodes expr_step clause_step function_step (layer.Values xs)) ∙ same_nodes c (ap e.Values (firsts nodes xs) ∙ sym (e.rolls-Values xs)) (exprs xs (for_one c))
at_layer (layer.Let vars x y) c = ap (λ f. f c) (para-roll-Expr Nodes Nodes Nodes expr_step clause_step function_step (layer.Let vars x y)) ∙ same_nodes c (sym (e.rolls-Let vars x y)) refl
at_layer (layer.Do x y) c = ap (λ f. f c) (para-roll-Expr Nodes Nodes Nodes expr_step clause_step function_step (layer.Do x y)) ∙ same_nodes c (sym (e.rolls-Do x y)) refl
at_layer (layer.Case x ks) c = ap (λ f. f c) (para-roll-Expr Nodes Nodes Nodes expr_step clause_step function_step (layer.Case x ks)) ∙ same_nodes c (ap (e.Case x) (firsts clause_nodes ks) ∙ sym (e.rolls-Case x ks)) (beside (ap (λ cs. nodes x (for_values (patterns_of_first cs) c)) (firsts clause_nodes ks)) (all_nodes-each clause_nodes ks (inside c)))
at_layer (layer.Letrec fs x) c = ap (λ f. f c) (para-roll-Expr Nodes Nodes Nodes expr_step clause_step function_step (layer.Letrec fs x)) ∙ same_nodes c (ap (λ gs. e.Letrec gs x) (firsts definition_nodes fs) ∙ sym (e.rolls-Letrec fs x)) (λ i. let within = defining (names_of (firsts definition_nodes fs i)) c in all_nodes-each definition_nodes fs within i ++ nodes x within)
at_layer (layer.Apply x xs) c = ap (λ f. f c) (para-roll-Expr Nodes Nodes Nodes expr_step clause_step function_step (layer.Apply x xs)) ∙ same_nodes c (ap (e.Apply x) (firsts nodes xs) ∙ sym (e.rolls-Apply x xs)) (beside refl (exprs xs (for_one c)))
at_layer (layer.Call x y xs) c = ap (λ f. f c) (para-roll-Expr Nodes Nodes Nodes expr_step clause_step function_step (layer.Call x y xs)) ∙ same_nodes c (ap (e.Call x y) (firsts nodes xs) ∙ sym (e.rolls-Call x y xs)) (beside refl (exprs xs (for_one c)))
at_layer (layer.Primop a xs) c = ap (λ f. f c) (para-roll-Expr Nodes Nodes Nodes expr_step clause_step function_step (layer.Primop a xs)) ∙ same_nodes c (ap (e.Primop a) (firsts nodes xs) ∙ sym (e.rolls-Primop a xs)) (exprs xs (for_one c))
at_layer (layer.Receive ks x y) c = ap (λ f. f c) (para-roll-Expr Nodes Nodes Nodes expr_step clause_step function_step (layer.Receive ks x y)) ∙ same_nodes c (ap (λ cs. e.Receive cs x y) (firsts clause_nodes ks) ∙ sym (e.rolls-Receive ks x y)) (beside (beside (all_nodes-each clause_nodes ks (inside c)) refl) refl)
at_layer (layer.Try x vs y ws z) c = ap (λ f. f c) (para-roll-Expr Nodes Nodes Nodes expr_step clause_step function_step (layer.Try x vs y ws z)) ∙ same_nodes c (sym (e.rolls-Try x vs y ws z)) refl
at_layer (layer.Catch x) c = ap (λ f. f c) (para-roll-Expr Nodes Nodes Nodes expr_step clause_step function_step (layer.Catch x)) ∙ same_nodes c (sym (e.rolls-Catch x)) refl
at_layer (layer.Fun vs x) c = ap (λ f. f c) (para-roll-Expr Nodes Nodes Nodes expr_step clause_step function_step (layer.Fun vs x)) ∙ same_nodes c (sym (e.rolls-Fun vs x)) refl

-- an expression's own node, and then those of its parts
pub nodes-parts : (x : Expr) (c : Context) → nodes x c ≡ node (AnExpr x) c ∷ part_nodes x c
nodes-parts x c = subst (λ y. nodes y c ≡ node (AnExpr y) c ∷ part_nodes x c) (roll-out-Expr x) (at_layer (out-Expr x) c)

pub clause_nodes-parts : (k : Clause) (c : Context) → clause_nodes k c ≡ pattern_nodes k.patterns c ++ nodes k.guard (guarding (clause_variables k.patterns) c) ++ nodes k.body (binding (clause_variables k.patterns) c)
clause_nodes-parts k c = ap (λ f. f c) (para-roll-Clause Nodes Nodes Nodes expr_step clause_step function_step (record { patterns = k.patterns; guard = k.guard; body = k.body }))

pub definition_nodes-parts : (f : Function) (c : Context) → definition_nodes f c ≡ nodes f.body (for_one (binding f.params c))
definition_nodes-parts f c = ap (λ g. g c) (para-roll-Function Nodes Nodes Nodes expr_step clause_step function_step (record { name = f.name; params = f.params; body = f.body }))

-- the nodes behind an expression's own, by its form
pub shaped : {x y : Expr} {z : Expr-F Expr Clause Function} → x ≡ y → out-Expr y ≡ z → (c : Context) → part_nodes x c ≡ parts_layer z c
shaped p q c = ap (λ x. part_nodes x c) p ∙ ap (λ z. parts_layer z c) q

each_node-append : {A : Type 0} (f : A → Nodes) (xs ys : List A) (c : Context) → each_node f (xs ++ ys) c ≡ each_node f xs c ++ each_node f ys c
each_node-append f [] ys c = refl
each_node-append f (x ∷ xs) ys c = ap (λ ns. f x c ++ ns) (each_node-append f xs ys c) ∙ sym (append_assoc (f x c) (each_node f xs c) (each_node f ys c))

-- one more of them
pub each_node-take : {A : Type 0} (f : A → Nodes) (xs : List A) (i : ℕ) (x : A) (c : Context) → i < length xs → x ≡ slice_index_or xs i x → each_node f (take (i + 1) xs) c ≡ each_node f (take i xs) c ++ f x c
each_node-take f xs i x c below is =
    ap (λ ys. each_node f ys c) (take_more xs i x below ∙ ap (λ y. take i xs ++ y ∷ []) (sym is))
    ∙ each_node-append f (take i xs) (x ∷ []) c
    ∙ ap (λ ns. each_node f (take i xs) c ++ ns) (append-nil (f x c))

-- the further ones behind them
pub each_node-rest : {A : Type 0} (f : A → Nodes) (xs : List A) (i : ℕ) (x : A) (c : Context) → i < length xs → x ≡ slice_index_or xs i x
    → each_node f xs c ≡ each_node f (take i xs) c ++ f x c ++ each_node f (drop (i + 1) xs) c
each_node-rest f xs i x c below is =
    ap (λ ys. each_node f ys c) (sym (take-append-drop (i + 1) xs))
    ∙ each_node-append f (take (i + 1) xs) (drop (i + 1) xs) c
    ∙ ap (λ ns. ns ++ each_node f (drop (i + 1) xs) c) (each_node-take f xs i x c below is)
