-- The canonical text of a module doesn't look at its sites.
use Rattle.std.proofs.Common.{◌≡◌, ℕ, List, [], ◌∷◌, ◌++◌, codes, map, refl, sym, ap, subst, ◌∙◌}
use Rattle.hy_core.specs.Canonical.{Part, canonical_text, expr_step, clause_step, function_step, expr_part, clause_text, function_text, atom_token, name_text, with_commas, one_after_another}
use Rattle.hy_core.specs.Expressions.{function, clause_of}
use Rattle.hy_core.specs.Sites.{unsited_step, unsited_clause_step, unsited_function_step, unsited_expr, unsited_function, unsited}
use Rattle.hy_core.specs.declared.tree.Clause.{Clause}
use Rattle.hy_core.specs.declared.tree.Expr.{Expr}
use Rattle.hy_core.specs.declared.tree.Expr.TheVariants as e
use Rattle.hy_core.specs.declared.tree.Expr.TheOpen as layer
use Rattle.hy_core.specs.declared.tree.Expr.TheOpen.{Expr-F}
use Rattle.hy_core.specs.declared.tree.Expr.TheFolds.{ind-Function, fold-Clause, fold-roll-Expr, fold_out-Clause, fold_out-Function, map-Expr}
use Rattle.hy_core.specs.declared.tree.Expr.TheViews.{roll-Expr}
use Rattle.hy_core.specs.declared.tree.Function.{Function}
use Rattle.hy_core.specs.declared.tree.Module.{Module}

abbrev unsited_clause : Clause → Clause
unsited_clause = fold-Clause Expr Clause Function unsited_step unsited_clause_step unsited_function_step

-- where g gives the same of f x and of x, it gives the same of lists of them
all_same : {A B : Type 0} (f : A → A) (g : A → B) (xs : List ((x : A) × (g (f x) ≡ g x))) → map g (map f (map (λ y. y.0) xs)) ≡ map g (map (λ y. y.0) xs)
all_same f g [] = refl
all_same f g (x ∷ xs) = λ i. x.1 i ∷ all_same f g xs i

module _ (names : Module) where
  abbrev SameExpr : Expr → Type 0
  SameExpr x = expr_part names (unsited_expr x) ≡ expr_part names x

  abbrev SameClause : Clause → Type 0
  SameClause x = clause_text names (unsited_clause x) ≡ clause_text names x

  abbrev SameFunction : Function → Type 0
  SameFunction x = function_text names (unsited_function x) ≡ function_text names x

  abbrev OneExpr : Type 0
  OneExpr = (x : Expr) × SameExpr x

  abbrev OneClause : Type 0
  OneClause = (x : Clause) × SameClause x

  abbrev OneFunction : Type 0
  OneFunction = (x : Function) × SameFunction x

  abbrev exprs : List OneExpr → List Expr
  exprs xs = map (λ y. y.0) xs

  abbrev clauses : List OneClause → List Clause
  clauses xs = map (λ y. y.0) xs

  abbrev functions : List OneFunction → List Function
  functions xs = map (λ y. y.0) xs

  same_exprs : (xs : List OneExpr) → map (expr_part names) (map unsited_expr (exprs xs)) ≡ map (expr_part names) (exprs xs)
  same_exprs xs = all_same unsited_expr (expr_part names) xs

  same_clauses : (xs : List OneClause) → map (clause_text names) (map unsited_clause (clauses xs)) ≡ map (clause_text names) (clauses xs)
  same_clauses xs = all_same unsited_clause (clause_text names) xs

  same_functions : (xs : List OneFunction) → map (function_text names) (map unsited_function (functions xs)) ≡ map (function_text names) (functions xs)
  same_functions xs = all_same unsited_function (function_text names) xs

  abbrev parts : Expr-F Expr Clause Function → Expr-F Part (List ℕ) (List ℕ)
  parts = map-Expr Expr Clause Function Part (List ℕ) (List ℕ) (expr_part names) (clause_text names) (function_text names)

  abbrev unsited_parts : Expr-F Expr Clause Function → Expr-F Expr Clause Function
  unsited_parts = map-Expr Expr Clause Function Expr Clause Function unsited_expr unsited_clause unsited_function

  -- an expression is one layer x, and with its sites aside another, u: these give the same text
  by_layers : (x u : Expr-F Expr Clause Function) → roll-Expr u ≡ unsited_step (unsited_parts x) → expr_step names (parts u) ≡ expr_step names (parts x) → SameExpr (roll-Expr x)
  by_layers x u unsited_is same =
      ap (expr_part names) (fold-roll-Expr Expr Clause Function unsited_step unsited_clause_step unsited_function_step x ∙ sym unsited_is)
      ∙ fold-roll-Expr Part (List ℕ) (List ℕ) (expr_step names) (clause_step names) (function_step names) u
      ∙ same
      ∙ sym (fold-roll-Expr Part (List ℕ) (List ℕ) (expr_step names) (clause_step names) (function_step names) x)

  -- an expression, from its parts
  expr_at : (x : Expr-F OneExpr OneClause OneFunction) → SameExpr (roll-Expr (map-Expr OneExpr OneClause OneFunction Expr Clause Function (λ y. y.0) (λ y. y.0) (λ y. y.0) x))
  expr_at (layer.Int n) = by_layers (layer.Int n) _ (e.rolls-Int n) refl
  expr_at (layer.Atom a) = by_layers (layer.Atom a) _ (e.rolls-Atom a) refl
  expr_at layer.Nil = by_layers layer.Nil _ e.rolls-Nil refl
  expr_at (layer.Str text) = by_layers (layer.Str text) _ (e.rolls-Str text) refl
  expr_at (layer.Var x) = by_layers (layer.Var x) _ (e.rolls-Var x) refl
  expr_at (layer.Name f) = by_layers (layer.Name f) _ (e.rolls-Name f) refl
  expr_at (layer.Tuple site xs) = by_layers (layer.Tuple site (exprs xs)) _ (e.rolls-Tuple 0 (map unsited_expr (exprs xs))) (λ i. expr_step names (layer.Tuple site (same_exprs xs i)))
  expr_at (layer.List site xs x) = by_layers (layer.List site (exprs xs) x.0) _ (e.rolls-List 0 (map unsited_expr (exprs xs)) (unsited_expr x.0)) (λ i. expr_step names (layer.List site (same_exprs xs i) (x.1 i)))
  expr_at (layer.Values xs) = by_layers (layer.Values (exprs xs)) _ (e.rolls-Values (map unsited_expr (exprs xs))) (λ i. expr_step names (layer.Values (same_exprs xs i)))
  expr_at (layer.Let vars x y) = by_layers (layer.Let vars x.0 y.0) _ (e.rolls-Let vars (unsited_expr x.0) (unsited_expr y.0)) (λ i. expr_step names (layer.Let vars (x.1 i) (y.1 i)))
  expr_at (layer.Do x y) = by_layers (layer.Do x.0 y.0) _ (e.rolls-Do (unsited_expr x.0) (unsited_expr y.0)) (λ i. expr_step names (layer.Do (x.1 i) (y.1 i)))
  expr_at (layer.Case x cs) = by_layers (layer.Case x.0 (clauses cs)) _ (e.rolls-Case (unsited_expr x.0) (map unsited_clause (clauses cs))) (λ i. expr_step names (layer.Case (x.1 i) (same_clauses cs i)))
  expr_at (layer.Letrec fs x) = by_layers (layer.Letrec (functions fs) x.0) _ (e.rolls-Letrec (map unsited_function (functions fs)) (unsited_expr x.0)) (λ i. expr_step names (layer.Letrec (same_functions fs i) (x.1 i)))
  expr_at (layer.Apply x xs) = by_layers (layer.Apply x.0 (exprs xs)) _ (e.rolls-Apply (unsited_expr x.0) (map unsited_expr (exprs xs))) (λ i. expr_step names (layer.Apply (x.1 i) (same_exprs xs i)))
  expr_at (layer.Call m f xs) = by_layers (layer.Call m.0 f.0 (exprs xs)) _ (e.rolls-Call (unsited_expr m.0) (unsited_expr f.0) (map unsited_expr (exprs xs))) (λ i. expr_step names (layer.Call (m.1 i) (f.1 i) (same_exprs xs i)))
  expr_at (layer.Primop name xs) = by_layers (layer.Primop name (exprs xs)) _ (e.rolls-Primop name (map unsited_expr (exprs xs))) (λ i. expr_step names (layer.Primop name (same_exprs xs i)))
  expr_at (layer.Receive cs x y) = by_layers (layer.Receive (clauses cs) x.0 y.0) _ (e.rolls-Receive (map unsited_clause (clauses cs)) (unsited_expr x.0) (unsited_expr y.0)) (λ i. expr_step names (layer.Receive (same_clauses cs i) (x.1 i) (y.1 i)))
  expr_at (layer.Try x vars y catch_vars z) = by_layers (layer.Try x.0 vars y.0 catch_vars z.0) _ (e.rolls-Try (unsited_expr x.0) vars (unsited_expr y.0) catch_vars (unsited_expr z.0)) (λ i. expr_step names (layer.Try (x.1 i) vars (y.1 i) catch_vars (z.1 i)))
  expr_at (layer.Catch x) = by_layers (layer.Catch x.0) _ (e.rolls-Catch (unsited_expr x.0)) (λ i. expr_step names (layer.Catch (x.1 i)))
  expr_at (layer.Fun params x) = by_layers (layer.Fun params x.0) _ (e.rolls-Fun params (unsited_expr x.0)) (λ i. expr_step names (layer.Fun params (x.1 i)))

  -- a clause, from its guard and its body
  clause_at : (x : Clause) → SameExpr x.guard → SameExpr x.body → SameClause x
  clause_at x guard body =
      ap (clause_text names) (fold_out-Clause Expr Clause Function unsited_step unsited_clause_step unsited_function_step x)
      ∙ fold_out-Clause Part (List ℕ) (List ℕ) (expr_step names) (clause_step names) (function_step names) (clause_of x.patterns (unsited_expr x.guard) (unsited_expr x.body))
      ∙ (λ i. clause_step names (record { patterns = x.patterns; guard = guard i; body = body i }))
      ∙ sym (fold_out-Clause Part (List ℕ) (List ℕ) (expr_step names) (clause_step names) (function_step names) x)

  -- a function, from its body
  function_at : (x : Function) → SameExpr x.body → SameFunction x
  function_at x body =
      ap (function_text names) (fold_out-Function Expr Clause Function unsited_step unsited_clause_step unsited_function_step x)
      ∙ fold_out-Function Part (List ℕ) (List ℕ) (expr_step names) (clause_step names) (function_step names) (function x.name x.params (unsited_expr x.body))
      ∙ (λ i. function_step names (record { name = x.name; params = x.params; body = body i }))
      ∙ sym (fold_out-Function Part (List ℕ) (List ℕ) (expr_step names) (clause_step names) (function_step names) x)

  same_function : (x : Function) → SameFunction x
  same_function =
      ind-Function SameExpr SameClause SameFunction
      (λ x y is. subst (λ z. SameExpr (roll-Expr z)) is (expr_at y))
      (λ x y is. subst (λ z. SameClause (clause_of z.patterns z.guard z.body)) is (clause_at (clause_of y.patterns y.guard.0 y.body.0) y.guard.1 y.body.1))
      (λ x y is. subst (λ z. SameFunction (function z.name z.params z.body)) is (function_at (function y.name y.params y.body.0) y.body.1))

  texts_same : (fs : List Function) → map (function_text names) (map unsited_function fs) ≡ map (function_text names) fs
  texts_same [] = refl
  texts_same (f ∷ fs) = λ i. same_function f i ∷ texts_same fs i

-- a module has the same text with its sites aside
pub unsited_text : (z : Module) → canonical_text (unsited z) ≡ canonical_text z
unsited_text z =
    λ i. codes "module" ++ atom_token z z.name ++ codes " [" ++ with_commas (map (name_text z) z.exports) ++ codes " ] attributes [ ]" ++ one_after_another (texts_same z z.functions i) ++ codes " end\n"
