-- What the folds of canonical texts give at each form of a tree.
use Rattle.std.proofs.Common.{◌≡◌, ℕ, ℤ, List, map, sym, ap, ◌∙◌}
use Rattle.hy_core.specs.Canonical.{Part, pattern_step, pattern_part, expr_step, clause_step, function_step, expr_part, clause_text, function_text}
use Rattle.hy_core.specs.declared.tree.Clause.{Clause}
use Rattle.hy_core.specs.declared.tree.Expr.{Expr}
use Rattle.hy_core.specs.declared.tree.Expr.TheVariants as e
use Rattle.hy_core.specs.declared.tree.Expr.TheOpen as layer
use Rattle.hy_core.specs.declared.tree.Expr.TheFolds.{fold-roll-Expr, fold_out-Clause, fold_out-Function}
use Rattle.hy_core.specs.declared.tree.FunName.{FunName}
use Rattle.hy_core.specs.declared.tree.Function.{Function}
use Rattle.hy_core.specs.declared.tree.Module.{Module}
use Rattle.hy_core.specs.declared.tree.Pattern.{Pattern}
use Rattle.hy_core.specs.declared.tree.Pattern.TheVariants as p
use Rattle.hy_core.specs.declared.tree.Pattern.TheOpen as pattern_layer
use Rattle.hy_core.specs.declared.tree.Pattern.TheFolds.{fold-roll-Pattern}

module _ (names : Module) where
  abbrev whole : Expr → Part
  whole = expr_part names

  abbrev whole_pattern : Pattern → Part
  whole_pattern = pattern_part names

  pub part-Int : (n : ℤ) → whole (e.Int n) ≡ expr_step names (layer.Int n)
  part-Int n = ap whole (sym (e.rolls-Int n)) ∙ fold-roll-Expr Part (List ℕ) (List ℕ) (expr_step names) (clause_step names) (function_step names) (layer.Int n)

  pub part-Atom : (a : ℕ) → whole (e.Atom a) ≡ expr_step names (layer.Atom a)
  part-Atom a = ap whole (sym (e.rolls-Atom a)) ∙ fold-roll-Expr Part (List ℕ) (List ℕ) (expr_step names) (clause_step names) (function_step names) (layer.Atom a)

  pub part-Nil : whole e.Nil ≡ expr_step names layer.Nil
  part-Nil = ap whole (sym e.rolls-Nil) ∙ fold-roll-Expr Part (List ℕ) (List ℕ) (expr_step names) (clause_step names) (function_step names) layer.Nil

  pub part-Str : (text : List ℕ) → whole (e.Str text) ≡ expr_step names (layer.Str text)
  part-Str text = ap whole (sym (e.rolls-Str text)) ∙ fold-roll-Expr Part (List ℕ) (List ℕ) (expr_step names) (clause_step names) (function_step names) (layer.Str text)

  pub part-Var : (x : ℕ) → whole (e.Var x) ≡ expr_step names (layer.Var x)
  part-Var x = ap whole (sym (e.rolls-Var x)) ∙ fold-roll-Expr Part (List ℕ) (List ℕ) (expr_step names) (clause_step names) (function_step names) (layer.Var x)

  pub part-Name : (f : FunName) → whole (e.Name f) ≡ expr_step names (layer.Name f)
  part-Name f = ap whole (sym (e.rolls-Name f)) ∙ fold-roll-Expr Part (List ℕ) (List ℕ) (expr_step names) (clause_step names) (function_step names) (layer.Name f)

  pub part-Tuple : (site : ℕ) (parts : List Expr) → whole (e.Tuple site parts) ≡ expr_step names (layer.Tuple site (map whole parts))
  part-Tuple site parts = ap whole (sym (e.rolls-Tuple site parts)) ∙ fold-roll-Expr Part (List ℕ) (List ℕ) (expr_step names) (clause_step names) (function_step names) (layer.Tuple site parts)

  pub part-List : (site : ℕ) (heads : List Expr) (tail : Expr) → whole (e.List site heads tail) ≡ expr_step names (layer.List site (map whole heads) (whole tail))
  part-List site heads tail = ap whole (sym (e.rolls-List site heads tail)) ∙ fold-roll-Expr Part (List ℕ) (List ℕ) (expr_step names) (clause_step names) (function_step names) (layer.List site heads tail)

  pub part-Values : (parts : List Expr) → whole (e.Values parts) ≡ expr_step names (layer.Values (map whole parts))
  part-Values parts = ap whole (sym (e.rolls-Values parts)) ∙ fold-roll-Expr Part (List ℕ) (List ℕ) (expr_step names) (clause_step names) (function_step names) (layer.Values parts)

  pub part-Let : (vars : List ℕ) (value body : Expr) → whole (e.Let vars value body) ≡ expr_step names (layer.Let vars (whole value) (whole body))
  part-Let vars value body = ap whole (sym (e.rolls-Let vars value body)) ∙ fold-roll-Expr Part (List ℕ) (List ℕ) (expr_step names) (clause_step names) (function_step names) (layer.Let vars value body)

  pub part-Do : (first second : Expr) → whole (e.Do first second) ≡ expr_step names (layer.Do (whole first) (whole second))
  part-Do first second = ap whole (sym (e.rolls-Do first second)) ∙ fold-roll-Expr Part (List ℕ) (List ℕ) (expr_step names) (clause_step names) (function_step names) (layer.Do first second)

  pub part-Case : (value : Expr) (clauses : List Clause) → whole (e.Case value clauses) ≡ expr_step names (layer.Case (whole value) (map (clause_text names) clauses))
  part-Case value clauses = ap whole (sym (e.rolls-Case value clauses)) ∙ fold-roll-Expr Part (List ℕ) (List ℕ) (expr_step names) (clause_step names) (function_step names) (layer.Case value clauses)

  pub part-Letrec : (functions : List Function) (body : Expr) → whole (e.Letrec functions body) ≡ expr_step names (layer.Letrec (map (function_text names) functions) (whole body))
  part-Letrec functions body = ap whole (sym (e.rolls-Letrec functions body)) ∙ fold-roll-Expr Part (List ℕ) (List ℕ) (expr_step names) (clause_step names) (function_step names) (layer.Letrec functions body)

  pub part-Apply : (what : Expr) (args : List Expr) → whole (e.Apply what args) ≡ expr_step names (layer.Apply (whole what) (map whole args))
  part-Apply what args = ap whole (sym (e.rolls-Apply what args)) ∙ fold-roll-Expr Part (List ℕ) (List ℕ) (expr_step names) (clause_step names) (function_step names) (layer.Apply what args)

  pub part-Call : (m f : Expr) (args : List Expr) → whole (e.Call m f args) ≡ expr_step names (layer.Call (whole m) (whole f) (map whole args))
  part-Call m f args = ap whole (sym (e.rolls-Call m f args)) ∙ fold-roll-Expr Part (List ℕ) (List ℕ) (expr_step names) (clause_step names) (function_step names) (layer.Call m f args)

  pub part-Primop : (name : ℕ) (args : List Expr) → whole (e.Primop name args) ≡ expr_step names (layer.Primop name (map whole args))
  part-Primop name args = ap whole (sym (e.rolls-Primop name args)) ∙ fold-roll-Expr Part (List ℕ) (List ℕ) (expr_step names) (clause_step names) (function_step names) (layer.Primop name args)

  pub part-Receive : (clauses : List Clause) (timeout body : Expr) → whole (e.Receive clauses timeout body) ≡ expr_step names (layer.Receive (map (clause_text names) clauses) (whole timeout) (whole body))
  part-Receive clauses timeout body = ap whole (sym (e.rolls-Receive clauses timeout body)) ∙ fold-roll-Expr Part (List ℕ) (List ℕ) (expr_step names) (clause_step names) (function_step names) (layer.Receive clauses timeout body)

  pub part-Try : (value : Expr) (vars : List ℕ) (body : Expr) (catch_vars : List ℕ) (catch_body : Expr) → whole (e.Try value vars body catch_vars catch_body) ≡ expr_step names (layer.Try (whole value) vars (whole body) catch_vars (whole catch_body))
  part-Try value vars body catch_vars catch_body = ap whole (sym (e.rolls-Try value vars body catch_vars catch_body)) ∙ fold-roll-Expr Part (List ℕ) (List ℕ) (expr_step names) (clause_step names) (function_step names) (layer.Try value vars body catch_vars catch_body)

  pub part-Catch : (body : Expr) → whole (e.Catch body) ≡ expr_step names (layer.Catch (whole body))
  part-Catch body = ap whole (sym (e.rolls-Catch body)) ∙ fold-roll-Expr Part (List ℕ) (List ℕ) (expr_step names) (clause_step names) (function_step names) (layer.Catch body)

  pub part-Fun : (params : List ℕ) (body : Expr) → whole (e.Fun params body) ≡ expr_step names (layer.Fun params (whole body))
  part-Fun params body = ap whole (sym (e.rolls-Fun params body)) ∙ fold-roll-Expr Part (List ℕ) (List ℕ) (expr_step names) (clause_step names) (function_step names) (layer.Fun params body)

  pub clause_text-is : (c : Clause) → clause_text names c ≡ clause_step names (record { patterns = c.patterns; guard = whole c.guard; body = whole c.body })
  clause_text-is c = fold_out-Clause Part (List ℕ) (List ℕ) (expr_step names) (clause_step names) (function_step names) c

  pub function_text-is : (f : Function) → function_text names f ≡ function_step names (record { name = f.name; params = f.params; body = whole f.body })
  function_text-is f = fold_out-Function Part (List ℕ) (List ℕ) (expr_step names) (clause_step names) (function_step names) f

  pub pattern-Var : (x : ℕ) → whole_pattern (p.Var x) ≡ pattern_step names (pattern_layer.Var x)
  pattern-Var x = ap whole_pattern (sym (p.rolls-Var x)) ∙ fold-roll-Pattern Part (pattern_step names) (pattern_layer.Var x)

  pub pattern-Int : (n : ℤ) → whole_pattern (p.Int n) ≡ pattern_step names (pattern_layer.Int n)
  pattern-Int n = ap whole_pattern (sym (p.rolls-Int n)) ∙ fold-roll-Pattern Part (pattern_step names) (pattern_layer.Int n)

  pub pattern-Atom : (a : ℕ) → whole_pattern (p.Atom a) ≡ pattern_step names (pattern_layer.Atom a)
  pattern-Atom a = ap whole_pattern (sym (p.rolls-Atom a)) ∙ fold-roll-Pattern Part (pattern_step names) (pattern_layer.Atom a)

  pub pattern-Nil : whole_pattern p.Nil ≡ pattern_step names pattern_layer.Nil
  pattern-Nil = ap whole_pattern (sym p.rolls-Nil) ∙ fold-roll-Pattern Part (pattern_step names) pattern_layer.Nil

  pub pattern-Str : (text : List ℕ) → whole_pattern (p.Str text) ≡ pattern_step names (pattern_layer.Str text)
  pattern-Str text = ap whole_pattern (sym (p.rolls-Str text)) ∙ fold-roll-Pattern Part (pattern_step names) (pattern_layer.Str text)

  pub pattern-Tuple : (parts : List Pattern) → whole_pattern (p.Tuple parts) ≡ pattern_step names (pattern_layer.Tuple (map whole_pattern parts))
  pattern-Tuple parts = ap whole_pattern (sym (p.rolls-Tuple parts)) ∙ fold-roll-Pattern Part (pattern_step names) (pattern_layer.Tuple parts)

  pub pattern-List : (heads : List Pattern) (tail : Pattern) → whole_pattern (p.List heads tail) ≡ pattern_step names (pattern_layer.List (map whole_pattern heads) (whole_pattern tail))
  pattern-List heads tail = ap whole_pattern (sym (p.rolls-List heads tail)) ∙ fold-roll-Pattern Part (pattern_step names) (pattern_layer.List heads tail)

  pub pattern-Alias : (x : ℕ) (pattern : Pattern) → whole_pattern (p.Alias x pattern) ≡ pattern_step names (pattern_layer.Alias x (whole_pattern pattern))
  pattern-Alias x pattern = ap whole_pattern (sym (p.rolls-Alias x pattern)) ∙ fold-roll-Pattern Part (pattern_step names) (pattern_layer.Alias x pattern)
