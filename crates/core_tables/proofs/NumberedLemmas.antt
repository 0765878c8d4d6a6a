-- The numbering of an expression is that of its form, from the numberings of its parts.
use Rattle.std.proofs.Common.{◌≡◌, ℕ, suc, List, [], ◌∷◌, map, length, replicate, Option, Some, None, refl, sym, ap, ◌∙◌, subst}
use Rattle.hy_core.specs.BuiltIn as built
use Rattle.hy_core.specs.BuiltIn.{Operation}
use Rattle.hy_core.specs.Counting.{Counts, Numbering, made, next, at_node, behind, in_definition}
use Rattle.hy_core.specs.Expressions.{function, clause_of as made_clause}
use Rattle.hy_core.specs.NodeParts.{atom_layer}
use Rattle.hy_core.specs.Numbered.{all_numbered, arguments, atom_of, called, clauses_numbered, definitions_numbered, list_numbered, numbered, numbered_tree, renamed_pattern, renamed_patterns, sites_of, spawn_numbered, tail_numbered}
use Rattle.hy_core.specs.Resolved as r
use Rattle.hy_core.specs.SubPatterns.{patterns_in}
use Rattle.hy_core.specs.Syntax.{Syntax, Syntaxes, MoreSyntax, ClauseSyntax, DefinitionSyntax, clauses_of, clause_trees, count, definitions_of, definition_trees, pattern_of, patterns_of, pattern_tree, pattern_trees, syntax_of, syntax_step, clause_step, definition_step, syntaxes_of, tree, trees}
use Rattle.hy_core.specs.Syntax as s
use Rattle.hy_core.specs.Tables.{renamed, renamed_name}
use Rattle.hy_core.specs.declared.info.SiteKind.{SiteKind}
use Rattle.hy_core.specs.declared.info.SiteKind.TheVariants as kind
use Rattle.hy_core.specs.declared.tree.Clause.{Clause}
use Rattle.hy_core.specs.declared.tree.Expr.{Expr}
use Rattle.hy_core.specs.declared.tree.Expr.TheFolds.{map-Expr, fold-roll-Expr}
use Rattle.hy_core.specs.declared.tree.Expr.TheOpen as layer
use Rattle.hy_core.specs.declared.tree.Expr.TheOpen.{Expr-F}
use Rattle.hy_core.specs.declared.tree.Expr.TheVariants as e
use Rattle.hy_core.specs.declared.tree.Expr.TheViews.{out-Expr, roll-Expr, roll-out-Expr}
use Rattle.hy_core.specs.declared.tree.Function.{Function}
use Rattle.hy_core.specs.declared.tree.Module.{Module}
use Rattle.hy_core.specs.declared.tree.Pattern.{Pattern}
use Rattle.hy_core.specs.declared.tree.Pattern.TheFolds.{ind-Pattern, fold-roll-Pattern, map-Pattern}
use Rattle.hy_core.specs.declared.tree.Pattern.TheOpen as pattern_layer
use Rattle.hy_core.specs.declared.tree.Pattern.TheOpen.{Pattern-F}
use Rattle.hy_core.specs.declared.tree.Pattern.TheVariants as p
use Rattle.hy_core.specs.declared.tree.Pattern.TheViews.{roll-Pattern}
use Rattle.hy_core.proofs.SyntaxLemmas.{clause_of, clause_of-is, definition_of, definition_of-is, patterns_come_back}
use Rattle.core_tables.specs.code.NumberedParts.{each, tail_layer, numbered_pattern, pattern_step, numbered_clause, numbered_definition, numbered_each, numbered_tail, numbered_list, spawned, spawned_by, spawn_args, call_args, numbered_layer, spawned_layer}

-- what a form is as a syntax, from the syntaxes of its parts
abbrev form : Expr-F Expr Clause Function → Syntax
form y = syntax_step (map-Expr Expr Clause Function Syntax ClauseSyntax DefinitionSyntax syntax_of clause_of definition_of y)

form_of : (y : Expr-F Expr Clause Function) → syntax_of (roll-Expr y) ≡ form y
form_of = fold-roll-Expr Syntax ClauseSyntax DefinitionSyntax syntax_step clause_step definition_step

count-is : (xs : List Expr) → count (syntaxes_of (map syntax_of xs)) ≡ length xs
count-is [] = refl
count-is (x ∷ xs) = ap suc (count-is xs)

-- a numbering of a syntax as one of its tree
abbrev planted : Numbering Syntax → Numbering Expr
planted numbering = next numbering λ s. made (tree s)

abbrev all_planted : Numbering Syntaxes → Numbering (List Expr)
all_planted numbering = next numbering λ ss. made (trees ss)

-- nil at the end, by its form
tail_form : (y : Expr-F Expr Clause Function) (numbering : Numbering Syntax) → planted (tail_numbered (form y) numbering) ≡ tail_layer (planted numbering) y
tail_form (layer.Int n) numbering = refl
tail_form (layer.Atom a) numbering = refl
tail_form layer.Nil numbering = refl
tail_form (layer.Str text) numbering = refl
tail_form (layer.Var x) numbering = refl
tail_form (layer.Name f) numbering = refl
tail_form (layer.Tuple site xs) numbering = refl
tail_form (layer.List site xs x) numbering = refl
tail_form (layer.Values xs) numbering = refl
tail_form (layer.Let vars x y) numbering = refl
tail_form (layer.Do x y) numbering = refl
tail_form (layer.Case x ks) numbering = refl
tail_form (layer.Letrec fs x) numbering = refl
tail_form (layer.Apply x xs) numbering = refl
tail_form (layer.Call x y xs) numbering = refl
tail_form (layer.Primop a xs) numbering = refl
tail_form (layer.Receive ks x y) numbering = refl
tail_form (layer.Try x vs y ws z) numbering = refl
tail_form (layer.Catch x) numbering = refl
tail_form (layer.Fun vs x) numbering = refl

-- the atom that an expression is, by its form
atom_form : (y : Expr-F Expr Clause Function) → atom_of (form y) ≡ atom_layer y
atom_form (layer.Int n) = refl
atom_form (layer.Atom a) = refl
atom_form layer.Nil = refl
atom_form (layer.Str text) = refl
atom_form (layer.Var x) = refl
atom_form (layer.Name f) = refl
atom_form (layer.Tuple site xs) = refl
atom_form (layer.List site xs x) = refl
atom_form (layer.Values xs) = refl
atom_form (layer.Let vars x y) = refl
atom_form (layer.Do x y) = refl
atom_form (layer.Case x ks) = refl
atom_form (layer.Letrec fs x) = refl
atom_form (layer.Apply x xs) = refl
atom_form (layer.Call x y xs) = refl
atom_form (layer.Primop a xs) = refl
atom_form (layer.Receive ks x y) = refl
atom_form (layer.Try x vs y ws z) = refl
atom_form (layer.Catch x) = refl
atom_form (layer.Fun vs x) = refl

-- of each expression, since each is one of a form
by_roll : (P : Expr → Expr-F Expr Clause Function → Type 0) → ((y : Expr-F Expr Clause Function) → P (roll-Expr y) y) → (x : Expr) → P x (out-Expr x)
by_roll P h x = subst (λ y. P y (out-Expr x)) (roll-out-Expr x) (h (out-Expr x))

atom-is : (x : Expr) → atom_of (syntax_of x) ≡ atom_layer (out-Expr x)
atom-is = by_roll (λ x y. atom_of (syntax_of x) ≡ atom_layer y) (λ y. ap atom_of (form_of y) ∙ atom_form y)

module _ (table : List (List ℕ)) (m : Module) where
  -- patterns

  abbrev PatternIs : Pattern → Type 0
  PatternIs q = pattern_tree (renamed_pattern table m (pattern_of q)) ≡ numbered_pattern table m q

  abbrev PatternItem : Type 0
  PatternItem = (q : Pattern) × PatternIs q

  pattern_items : (qs : List PatternItem) → pattern_trees (renamed_patterns table m (patterns_of (map pattern_of (map (λ x. x.0) qs)))) ≡ map (numbered_pattern table m) (map (λ x. x.0) qs)
  pattern_items [] = refl
  pattern_items (q ∷ qs) = λ i. q.1 i ∷ pattern_items qs i

  abbrev bare_pattern : Pattern-F PatternItem → Pattern-F Pattern
  bare_pattern = map-Pattern PatternItem Pattern (λ x. x.0)

  abbrev shape : Pattern-F PatternItem → r.Pattern
  shape y = s.pattern_step (map-Pattern Pattern r.Pattern pattern_of (bare_pattern y))

  pattern_form : (y : Pattern-F PatternItem) → pattern_tree (renamed_pattern table m (shape y)) ≡ pattern_step table m (map-Pattern Pattern Pattern (numbered_pattern table m) (bare_pattern y))
  pattern_form (pattern_layer.Var x) = refl
  pattern_form (pattern_layer.Int n) = refl
  pattern_form (pattern_layer.Atom a) = refl
  pattern_form pattern_layer.Nil = refl
  pattern_form (pattern_layer.Str text) = refl
  pattern_form (pattern_layer.Tuple qs) = ap p.Tuple (pattern_items qs)
  pattern_form (pattern_layer.List qs q) = λ i. p.List (pattern_items qs i) (q.1 i)
  pattern_form (pattern_layer.Alias x q) = ap (p.Alias x) q.1

  pattern_at : (y : Pattern-F PatternItem) → PatternIs (roll-Pattern (bare_pattern y))
  pattern_at y =
      ap (λ q. pattern_tree (renamed_pattern table m q)) (fold-roll-Pattern r.Pattern s.pattern_step (bare_pattern y))
      ∙ pattern_form y
      ∙ sym (fold-roll-Pattern Pattern (pattern_step table m) (bare_pattern y))

  pattern-is : (q : Pattern) → PatternIs q
  pattern-is = ind-Pattern PatternIs (λ x y is. subst (λ z. PatternIs (roll-Pattern z)) is (pattern_at y))

  patterns-are : (qs : List Pattern) → pattern_trees (renamed_patterns table m (patterns_of (map pattern_of qs))) ≡ map (numbered_pattern table m) qs
  patterns-are [] = refl
  patterns-are (q ∷ qs) = λ i. pattern-is q i ∷ patterns-are qs i

  -- lists of parts

  expressions-each : (xs : List Expr) → all_planted (all_numbered table m (syntaxes_of (map syntax_of xs))) ≡ numbered_each table m xs
  expressions-each [] = refl
  expressions-each (x ∷ xs) = ap (λ others. next (numbered_tree table m x) λ y. next others λ ys. made (y ∷ ys)) (expressions-each xs)

  -- a clause by its patterns as trees
  abbrev clause : (in_patterns : List Pattern) (made_patterns : List Pattern) (guard body : Expr) → Numbering Clause
  clause counted ps g b = behind (length (patterns_in counted)) (next (numbered_tree table m g) λ g. next (numbered_tree table m b) λ b. made (made_clause ps g b))

  abbrev clause_syntax : ClauseSyntax → Numbering (List Clause) → Numbering (List Clause)
  clause_syntax k others =
      next (behind (length (patterns_in (pattern_trees k.patterns))) (next (planted (numbered table m k.guard)) λ g. next (planted (numbered table m k.body)) λ b. made (made_clause (pattern_trees (renamed_patterns table m k.patterns)) g b))) λ c.
      next others λ cs. made (c ∷ cs)

  clauses-each : (ks : List Clause) → (next (clauses_numbered table m (clauses_of (map clause_of ks))) λ cs. made (clause_trees cs)) ≡ each (numbered_clause table m) ks
  clauses-each [] = refl
  clauses-each (k ∷ ks) =
      ap (λ others. clause_syntax (clause_of k) others) (clauses-each ks)
      ∙ ap (λ c. clause_syntax c (each (numbered_clause table m) ks)) (clause_of-is k)
      ∙ (λ i. next (clause (patterns_come_back k.patterns i) (patterns-are k.patterns i) k.guard k.body) λ c. next (each (numbered_clause table m) ks) λ cs. made (c ∷ cs))

  abbrev definition_syntax : DefinitionSyntax → Numbering (List Function) → Numbering (List Function)
  definition_syntax f others =
      next (in_definition (next (planted (numbered table m f.body)) λ b. made (function (renamed_name table m f.name) f.parameters b))) λ g.
      next others λ fs. made (g ∷ fs)

  definitions-each : (fs : List Function) → (next (definitions_numbered table m (definitions_of (map definition_of fs))) λ gs. made (definition_trees gs)) ≡ each (numbered_definition table m) fs
  definitions-each [] = refl
  definitions-each (f ∷ fs) =
      ap (λ others. definition_syntax (definition_of f) others) (definitions-each fs)
      ∙ ap (λ g. definition_syntax g (each (numbered_definition table m) fs)) (definition_of-is f)

  tail-is : (x : Expr) → planted (tail_numbered (syntax_of x) (numbered table m (syntax_of x))) ≡ numbered_tail table m x
  tail-is x = by_roll (λ z y. planted (tail_numbered (syntax_of z) (numbered table m (syntax_of x))) ≡ tail_layer (numbered_tree table m x) y)
      (λ y. ap (λ s. planted (tail_numbered s (numbered table m (syntax_of x)))) (form_of y) ∙ tail_form y (numbered table m (syntax_of x))) x

  -- a list notation with these sites
  abbrev list : List SiteKind → (ℕ → ℕ) → Numbering (List Expr) → Numbering Expr → Numbering Expr
  list kinds site heads tail = at_node kinds λ first. next heads λ xs. next tail λ t. made (e.List (site first) xs t)

  list-is : (heads : List Expr) (tail : Expr) (kinds : List SiteKind) (site : ℕ → ℕ)
      → list kinds site (all_planted (all_numbered table m (syntaxes_of (map syntax_of heads)))) (planted (tail_numbered (syntax_of tail) (numbered table m (syntax_of tail)))) ≡ numbered_list table m kinds site heads tail
  list-is heads tail kinds site = λ i. list kinds site (expressions-each heads i) (tail-is tail i)

  list_form : (y : Expr-F Expr Clause Function) (numbering : Numbering Syntax) → planted (list_numbered table m (form y) numbering) ≡ spawned_by table m (planted numbering) y
  list_form (layer.Int n) numbering = refl
  list_form (layer.Atom a) numbering = refl
  list_form layer.Nil numbering = refl
  list_form (layer.Str text) numbering = refl
  list_form (layer.Var x) numbering = refl
  list_form (layer.Name f) numbering = refl
  list_form (layer.Tuple site xs) numbering = refl
  list_form (layer.List site xs x) numbering = list-is xs x [] (λ _. 0)
  list_form (layer.Values xs) numbering = refl
  list_form (layer.Let vars x y) numbering = refl
  list_form (layer.Do x y) numbering = refl
  list_form (layer.Case x ks) numbering = refl
  list_form (layer.Letrec fs x) numbering = refl
  list_form (layer.Apply x xs) numbering = refl
  list_form (layer.Call x y xs) numbering = refl
  list_form (layer.Primop a xs) numbering = refl
  list_form (layer.Receive ks x y) numbering = refl
  list_form (layer.Try x vs y ws z) numbering = refl
  list_form (layer.Catch x) numbering = refl
  list_form (layer.Fun vs x) numbering = refl

  spawned-is : (x : Expr) → planted (list_numbered table m (syntax_of x) (numbered table m (syntax_of x))) ≡ spawned table m x
  spawned-is x = by_roll (λ z y. planted (list_numbered table m (syntax_of z) (numbered table m (syntax_of x))) ≡ spawned_by table m (numbered_tree table m x) y)
      (λ y. ap (λ s. planted (list_numbered table m s (numbered table m (syntax_of x)))) (form_of y) ∙ list_form y (numbered table m (syntax_of x))) x

  abbrev as_arguments : List Expr → Numbering Syntaxes → Numbering Syntaxes
  as_arguments xs others = spawn_numbered table m (syntaxes_of (map syntax_of xs)) others

  spawn-is : (xs : List Expr) → all_planted (as_arguments xs (all_numbered table m (syntaxes_of (map syntax_of xs)))) ≡ spawn_args table m xs
  spawn-is (x ∷ y ∷ list ∷ []) = ap (λ last. next (numbered_tree table m x) λ a. next (numbered_tree table m y) λ b. next last λ l. made (a ∷ b ∷ l ∷ [])) (spawned-is list)
  spawn-is [] = refl
  spawn-is (x ∷ []) = expressions-each (x ∷ [])
  spawn-is (x ∷ y ∷ []) = expressions-each (x ∷ y ∷ [])
  spawn-is (x ∷ y ∷ z ∷ w ∷ xs) = expressions-each (x ∷ y ∷ z ∷ w ∷ xs)

  abbrev given : Option Operation → List Expr → Numbering (List Expr)
  given operation xs =
      let all = all_numbered table m (syntaxes_of (map syntax_of xs)) in
      all_planted (arguments operation (as_arguments xs all) all)

  arguments-are : (operation : Option Operation) (xs : List Expr) → given operation xs ≡ call_args table m operation xs
  arguments-are (Some built.Spawns) xs = spawn-is xs
  arguments-are (Some (built.Plain b)) xs = expressions-each xs
  arguments-are (Some built.SetsElement) xs = expressions-each xs
  arguments-are (Some built.Sends) xs = expressions-each xs
  arguments-are (Some built.Displays) xs = expressions-each xs
  arguments-are (Some (built.RaisesAs class)) xs = expressions-each xs
  arguments-are None xs = expressions-each xs

  -- a call, by the built-in that it names and by the numbering of its arguments
  abbrev call : Expr → Expr → Option Operation → Numbering (List Expr) → Numbering Expr
  call x y operation args =
      at_node (sites_of operation) λ _. next (numbered_tree table m x) λ a. next (numbered_tree table m y) λ b. next args λ xs. made (e.Call a b xs)

  at_form : (y : Expr-F Expr Clause Function) → planted (numbered table m (form y)) ≡ numbered_layer table m y
  at_form (layer.Int n) = refl
  at_form (layer.Atom a) = refl
  at_form layer.Nil = refl
  at_form (layer.Str text) = refl
  at_form (layer.Var x) = refl
  at_form (layer.Name f) = refl
  at_form (layer.Tuple site xs) = ap (λ parts. at_node (kind.Tuple ∷ []) λ site. next parts λ xs. made (e.Tuple site xs)) (expressions-each xs)
  at_form (layer.List site xs x) =
      (λ i. list (replicate (count-is xs i) kind.Cons) (λ first. first) (all_planted (all_numbered table m (syntaxes_of (map syntax_of xs)))) (planted (tail_numbered (syntax_of x) (numbered table m (syntax_of x)))))
      ∙ list-is xs x (replicate (length xs) kind.Cons) (λ first. first)
  at_form (layer.Values xs) = ap (λ parts. at_node [] λ _. next parts λ xs. made (e.Values xs)) (expressions-each xs)
  at_form (layer.Let vars x y) = refl
  at_form (layer.Do x y) = refl
  at_form (layer.Case x ks) = ap (λ clauses. at_node [] λ _. next (numbered_tree table m x) λ v. next clauses λ cs. made (e.Case v cs)) (clauses-each ks)
  at_form (layer.Letrec fs x) = ap (λ functions. at_node [] λ _. next functions λ fs. next (numbered_tree table m x) λ b. made (e.Letrec fs b)) (definitions-each fs)
  at_form (layer.Apply x xs) = ap (λ args. at_node [] λ _. next (numbered_tree table m x) λ w. next args λ xs. made (e.Apply w xs)) (expressions-each xs)
  at_form (layer.Call x y xs) =
      (λ i. call x y (called table m (atom-is x i) (atom-is y i) (count-is xs i)) (given (called table m (atom-is x i) (atom-is y i) (count-is xs i)) xs))
      ∙ ap (call x y (called table m (atom_layer (out-Expr x)) (atom_layer (out-Expr y)) (length xs))) (arguments-are (called table m (atom_layer (out-Expr x)) (atom_layer (out-Expr y)) (length xs)) xs)
  at_form (layer.Primop a xs) = ap (λ args. at_node [] λ _. next args λ xs. made (e.Primop (renamed table m a) xs)) (expressions-each xs)
  at_form (layer.Receive ks x y) = ap (λ clauses. at_node [] λ _. next clauses λ cs. next (numbered_tree table m x) λ t. next (numbered_tree table m y) λ b. made (e.Receive cs t b)) (clauses-each ks)
  at_form (layer.Try x vs y ws z) = refl
  at_form (layer.Catch x) = refl
  at_form (layer.Fun vs x) = refl

  pub numbered-parts : (x : Expr) → numbered_tree table m x ≡ numbered_layer table m (out-Expr x)
  numbered-parts = by_roll (λ x y. numbered_tree table m x ≡ numbered_layer table m y) (λ y. ap (λ s. planted (numbered table m s)) (form_of y) ∙ at_form y)

  by_spawned : (z : Expr-F Expr Clause Function) → spawned_by table m (numbered_layer table m z) z ≡ spawned_layer table m z
  by_spawned (layer.List site xs x) = refl
  by_spawned _ = refl

  pub spawned-parts : (x : Expr) → spawned table m x ≡ spawned_layer table m (out-Expr x)
  spawned-parts x = ap (λ others. spawned_by table m others (out-Expr x)) (numbered-parts x) ∙ by_spawned (out-Expr x)

  -- by the form of an expression
  pub by_form : {x y : Expr} {z : Expr-F Expr Clause Function} → x ≡ y → out-Expr y ≡ z → (function : ℕ) (counts : Counts) {r : Expr × Counts} → r ≡ numbered_layer table m z function counts → r ≡ numbered_tree table m x function counts
  by_form {y = y} is outs function counts h =
      h ∙ (λ i. numbered_layer table m (sym outs i) function counts) ∙ (λ i. sym (numbered-parts y) i function counts) ∙ (λ i. numbered_tree table m (sym is i) function counts)

  pub by_spawned_form : {x y : Expr} {z : Expr-F Expr Clause Function} → x ≡ y → out-Expr y ≡ z → (function : ℕ) (counts : Counts) {r : Expr × Counts} → r ≡ spawned_layer table m z function counts → r ≡ spawned table m x function counts
  by_spawned_form {y = y} is outs function counts h =
      h ∙ (λ i. spawned_layer table m (sym outs i) function counts) ∙ (λ i. sym (spawned-parts y) i function counts) ∙ (λ i. spawned table m (sym is i) function counts)
