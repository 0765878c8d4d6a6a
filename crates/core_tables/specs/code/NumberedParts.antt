-- The numbering of an expression by its form, from the numberings of its parts.
use Rattle.std.specs.Prelude.{ℕ, List, [], ◌∷◌, map, length, replicate, Option, Some}
use Rattle.hy_core.specs.BuiltIn.{Operation, Spawns}
use Rattle.hy_core.specs.Counting.{Numbering, made, next, at_node, behind, in_definition}
use Rattle.hy_core.specs.Expressions.{function, clause_of}
use Rattle.hy_core.specs.NodeParts.{atom_layer}
use Rattle.hy_core.specs.Numbered.{called, numbered_tree, sites_of}
use Rattle.hy_core.specs.SubPatterns.{patterns_in}
use Rattle.hy_core.specs.Tables.{renamed, renamed_name}
use Rattle.hy_core.specs.declared.info.SiteKind.{SiteKind}
use Rattle.hy_core.specs.declared.info.SiteKind.TheVariants as kind
use Rattle.hy_core.specs.declared.tree.Clause.{Clause}
use Rattle.hy_core.specs.declared.tree.Expr.{Expr}
use Rattle.hy_core.specs.declared.tree.Expr.TheOpen as layer
use Rattle.hy_core.specs.declared.tree.Expr.TheOpen.{Expr-F}
use Rattle.hy_core.specs.declared.tree.Expr.TheVariants as e
use Rattle.hy_core.specs.declared.tree.Expr.TheViews.{out-Expr}
use Rattle.hy_core.specs.declared.tree.Function.{Function}
use Rattle.hy_core.specs.declared.tree.Module.{Module}
use Rattle.hy_core.specs.declared.tree.Pattern.{Pattern}
use Rattle.hy_core.specs.declared.tree.Pattern.TheFolds.{fold-Pattern}
use Rattle.hy_core.specs.declared.tree.Pattern.TheOpen as open_pattern
use Rattle.hy_core.specs.declared.tree.Pattern.TheOpen.{Pattern-F}
use Rattle.hy_core.specs.declared.tree.Pattern.TheVariants as p

-- each of them, one after another
abbrev pub each : {A B : Type 0} → (A → Numbering B) → List A → Numbering (List B)
each f [] = made []
each f (x ∷ xs) = next (f x) λ y. next (each f xs) λ ys. made (y ∷ ys)

-- nil at the end of a list notation is no node
abbrev pub tail_layer : Numbering Expr → Expr-F Expr Clause Function → Numbering Expr
tail_layer numbering layer.Nil = made e.Nil
tail_layer numbering _ = numbering

module _ (table : List (List ℕ)) (m : Module) where
  -- one pattern, with the program's atoms
  abbrev pub pattern_step : Pattern-F Pattern → Pattern
  pattern_step (open_pattern.Var x) = p.Var x
  pattern_step (open_pattern.Int n) = p.Int n
  pattern_step (open_pattern.Atom a) = p.Atom (renamed table m a)
  pattern_step open_pattern.Nil = p.Nil
  pattern_step (open_pattern.Str text) = p.Str text
  pattern_step (open_pattern.Tuple parts) = p.Tuple parts
  pattern_step (open_pattern.List heads tail) = p.List heads tail
  pattern_step (open_pattern.Alias x pattern) = p.Alias x pattern

  abbrev pub numbered_pattern : Pattern → Pattern
  numbered_pattern = fold-Pattern Pattern pattern_step

  abbrev pub numbered_clause : Clause → Numbering Clause
  numbered_clause k =
      behind (length (patterns_in k.patterns)) (next (numbered_tree table m k.guard) λ g.
      next (numbered_tree table m k.body) λ b. made
      (clause_of (map numbered_pattern k.patterns) g b))

  -- a definition of a letrec
  abbrev pub numbered_definition : Function → Numbering Function
  numbered_definition f =
      in_definition (next (numbered_tree table m f.body) λ b.
      made (function (renamed_name table m f.name) f.params b))

  abbrev pub numbered_each : List Expr → Numbering (List Expr)
  numbered_each = each (numbered_tree table m)

  -- the tail of a list notation
  abbrev pub numbered_tail : Expr → Numbering Expr
  numbered_tail x = tail_layer (numbered_tree table m x) (out-Expr x)

  -- a list notation with these sites
  abbrev pub numbered_list : List SiteKind → (ℕ → ℕ) → List Expr → Expr → Numbering Expr
  numbered_list kinds site heads tail =
      at_node kinds λ first. next (numbered_each heads) λ xs. next (numbered_tail tail) λ t.
      made (e.List (site first) xs t)

  -- an expression of this form as the list of a `spawn`: a list notation has no sites of its own
  -- there
  abbrev pub spawned_by : Numbering Expr → Expr-F Expr Clause Function → Numbering Expr
  spawned_by others (layer.List _ heads tail) = numbered_list [] (λ _. 0) heads tail
  spawned_by others _ = others

  abbrev pub spawned : Expr → Numbering Expr
  spawned x = spawned_by (numbered_tree table m x) (out-Expr x)

  -- the built-in that a call names, where it is one
  abbrev pub operation_of : Expr → Expr → List Expr → Option Operation
  operation_of x y args =
      called table m (atom_layer (out-Expr x)) (atom_layer (out-Expr y)) (length args)

  abbrev pub spawn_args : List Expr → Numbering (List Expr)
  spawn_args (x ∷ y ∷ list ∷ []) =
      next (numbered_tree table m x) λ a. next (numbered_tree table m y) λ b. next
      (spawned list) λ l.
      made (a ∷ b ∷ l ∷ [])
  spawn_args args = numbered_each args

  -- the arguments of a call of this built-in
  abbrev pub call_args : Option Operation → List Expr → Numbering (List Expr)
  call_args (Some Spawns) args = spawn_args args
  call_args _ args = numbered_each args

  abbrev pub numbered_layer : Expr-F Expr Clause Function → Numbering Expr
  numbered_layer (layer.Int n) = at_node [] λ _. made (e.Int n)
  numbered_layer (layer.Atom a) = at_node [] λ _. made (e.Atom (renamed table m a))
  numbered_layer layer.Nil = at_node [] λ _. made e.Nil
  numbered_layer (layer.Str text) = at_node (kind.String ∷ []) λ _. made (e.Str text)
  numbered_layer (layer.Var x) = at_node [] λ _. made (e.Var x)
  numbered_layer (layer.Name f) = at_node [] λ _. made (e.Name (renamed_name table m f))
  numbered_layer (layer.Tuple _ parts) =
      at_node (kind.Tuple ∷ []) λ site. next (numbered_each parts) λ xs. made (e.Tuple site xs)
  numbered_layer (layer.List _ heads tail) =
      numbered_list (replicate (length heads) kind.Cons) (λ first. first) heads tail
  numbered_layer (layer.Values parts) =
      at_node [] λ _. next (numbered_each parts) λ xs. made (e.Values xs)
  numbered_layer (layer.Let vars value body) = at_node [] λ _. next (numbered_tree table m value)
      λ v. next (numbered_tree table m body) λ b. made (e.Let vars v b)
  numbered_layer (layer.Do first second) = at_node [] λ _. next (numbered_tree table m first)
      λ a. next (numbered_tree table m second) λ b. made (e.Do a b)
  numbered_layer (layer.Case value clauses) = at_node [] λ _. next (numbered_tree table m value)
      λ v. next (each numbered_clause clauses) λ cs. made (e.Case v cs)
  numbered_layer (layer.Letrec functions body) = at_node [] λ _. next
      (each numbered_definition functions) λ fs. next (numbered_tree table m body) λ b.
      made (e.Letrec fs b)
  numbered_layer (layer.Apply what args) = at_node [] λ _. next (numbered_tree table m what)
      λ w. next (numbered_each args) λ xs. made (e.Apply w xs)
  numbered_layer (layer.Call x y args) =
      let operation = operation_of x y args in
      at_node (sites_of operation) λ _. next (numbered_tree table m x) λ a. next
      (numbered_tree table m y) λ b. next (call_args operation args) λ xs. made (e.Call a b xs)
  numbered_layer (layer.Primop name args) =
      at_node [] λ _. next (numbered_each args) λ xs. made (e.Primop (renamed table m name) xs)
  numbered_layer (layer.Receive clauses timeout body) =
      at_node [] λ _. next (each numbered_clause clauses) λ cs. next (numbered_tree table m timeout)
      λ t. next (numbered_tree table m body) λ b. made (e.Receive cs t b)
  numbered_layer (layer.Try value vars body catch_vars catch_body) =
      at_node [] λ _. next (numbered_tree table m value) λ v. next (numbered_tree table m body)
      λ b. next (numbered_tree table m catch_body) λ c. made (e.Try v vars b catch_vars c)
  numbered_layer (layer.Catch body) =
      at_node [] λ _. next (numbered_tree table m body) λ b. made (e.Catch b)
  numbered_layer (layer.Fun params body) =
      at_node [] λ _. next (numbered_tree table m body) λ b. made (e.Fun params b)

  -- an expression of this form as the list of a `spawn`
  abbrev pub spawned_layer : Expr-F Expr Clause Function → Numbering Expr
  spawned_layer (layer.List _ heads tail) = numbered_list [] (λ _. 0) heads tail
  spawned_layer z = numbered_layer z
