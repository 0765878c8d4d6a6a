-- Each syntax is one declared tree.
use Rattle.std.proofs.Common.{◌≡◌, ℕ, ℤ, List, [], ◌∷◌, map, refl, ap, sym, subst, ◌∙◌}
use Rattle.hy_core.specs.declared.tree.Clause.{Clause}
use Rattle.hy_core.specs.declared.tree.Expr.{Expr}
use Rattle.hy_core.specs.declared.tree.Expr.TheFolds.{fold-Clause, fold-Function, fold-roll-Expr, fold-roll-Clause, fold-roll-Function, fold_out-Clause, fold_out-Function, ind-Expr, map-Expr}
use Rattle.hy_core.specs.declared.tree.Expr.TheOpen as layer
use Rattle.hy_core.specs.declared.tree.Expr.TheOpen.{Expr-F}
use Rattle.hy_core.specs.declared.tree.Expr.TheVariants as e
use Rattle.hy_core.specs.declared.tree.Expr.TheViews.{roll-Expr, roll-Clause, roll-Function}
use Rattle.hy_core.specs.declared.tree.FunName.{FunName}
use Rattle.hy_core.specs.declared.tree.Function.{Function}
use Rattle.hy_core.specs.declared.tree.Pattern as declared
use Rattle.hy_core.specs.declared.tree.Pattern.TheFolds.{fold-roll-Pattern, ind-Pattern, map-Pattern}
use Rattle.hy_core.specs.declared.tree.Pattern.TheOpen as pattern_layer
use Rattle.hy_core.specs.declared.tree.Pattern.TheOpen.{Pattern-F}
use Rattle.hy_core.specs.declared.tree.Pattern.TheVariants as p
use Rattle.hy_core.specs.declared.tree.Pattern.TheViews.{roll-Pattern}
use Rattle.hy_core.specs.Resolved.{Pattern, AnyTerm, TheInt, TheAtom, TheNil, TheText, TheTuple, TheList, Alias, Patterns, NoPatterns, MorePatterns}
use Rattle.hy_core.specs.Syntax.{Syntax, Int, Atom, Nil, Str, Var, Name, Tuple, ListOf, Values, Let, Do, Case, Letrec, Apply, Call, Primop, Receive, Try, Catch, Fun, Syntaxes, NoSyntax, MoreSyntax, Clauses, NoClauses, MoreClauses, Definitions, NoDefinitions, MoreDefinitions, ClauseSyntax, DefinitionSyntax, syntaxes_of, clauses_of, definitions_of, patterns_of, pattern_step, pattern_of, syntax_step, clause_step, definition_step, syntax_of, pattern_tree, pattern_trees, tree, trees, clause_trees, definition_trees}

-- what the folds give at each form

pattern_of-Var : (x : ℕ) → pattern_of (p.Var x) ≡ pattern_step (pattern_layer.Var x)
pattern_of-Var x = ap pattern_of (sym (p.rolls-Var x)) ∙ fold-roll-Pattern Pattern pattern_step (pattern_layer.Var x)

pattern_of-Int : (n : ℤ) → pattern_of (p.Int n) ≡ pattern_step (pattern_layer.Int n)
pattern_of-Int n = ap pattern_of (sym (p.rolls-Int n)) ∙ fold-roll-Pattern Pattern pattern_step (pattern_layer.Int n)

pattern_of-Atom : (a : ℕ) → pattern_of (p.Atom a) ≡ pattern_step (pattern_layer.Atom a)
pattern_of-Atom a = ap pattern_of (sym (p.rolls-Atom a)) ∙ fold-roll-Pattern Pattern pattern_step (pattern_layer.Atom a)

pattern_of-Nil : pattern_of p.Nil ≡ pattern_step pattern_layer.Nil
pattern_of-Nil = ap pattern_of (sym p.rolls-Nil) ∙ fold-roll-Pattern Pattern pattern_step pattern_layer.Nil

pattern_of-Str : (text : List ℕ) → pattern_of (p.Str text) ≡ pattern_step (pattern_layer.Str text)
pattern_of-Str text = ap pattern_of (sym (p.rolls-Str text)) ∙ fold-roll-Pattern Pattern pattern_step (pattern_layer.Str text)

pattern_of-Tuple : (parts : List declared.Pattern) → pattern_of (p.Tuple parts) ≡ pattern_step (pattern_layer.Tuple (map pattern_of parts))
pattern_of-Tuple parts = ap pattern_of (sym (p.rolls-Tuple parts)) ∙ fold-roll-Pattern Pattern pattern_step (pattern_layer.Tuple parts)

pattern_of-List : (heads : List declared.Pattern) (tail : declared.Pattern) → pattern_of (p.List heads tail) ≡ pattern_step (pattern_layer.List (map pattern_of heads) (pattern_of tail))
pattern_of-List heads tail = ap pattern_of (sym (p.rolls-List heads tail)) ∙ fold-roll-Pattern Pattern pattern_step (pattern_layer.List heads tail)

pattern_of-Alias : (x : ℕ) (q : declared.Pattern) → pattern_of (p.Alias x q) ≡ pattern_step (pattern_layer.Alias x (pattern_of q))
pattern_of-Alias x q = ap pattern_of (sym (p.rolls-Alias x q)) ∙ fold-roll-Pattern Pattern pattern_step (pattern_layer.Alias x q)

abbrev pub clause_of : Clause → ClauseSyntax
clause_of = fold-Clause Syntax ClauseSyntax DefinitionSyntax syntax_step clause_step definition_step

abbrev pub definition_of : Function → DefinitionSyntax
definition_of = fold-Function Syntax ClauseSyntax DefinitionSyntax syntax_step clause_step definition_step

pub syntax_of-Int : (n : ℤ) → syntax_of (e.Int n) ≡ syntax_step (layer.Int n)
syntax_of-Int n = ap syntax_of (sym (e.rolls-Int n)) ∙ fold-roll-Expr Syntax ClauseSyntax DefinitionSyntax syntax_step clause_step definition_step (layer.Int n)

pub syntax_of-Atom : (a : ℕ) → syntax_of (e.Atom a) ≡ syntax_step (layer.Atom a)
syntax_of-Atom a = ap syntax_of (sym (e.rolls-Atom a)) ∙ fold-roll-Expr Syntax ClauseSyntax DefinitionSyntax syntax_step clause_step definition_step (layer.Atom a)

pub syntax_of-Nil : syntax_of e.Nil ≡ syntax_step layer.Nil
syntax_of-Nil = ap syntax_of (sym e.rolls-Nil) ∙ fold-roll-Expr Syntax ClauseSyntax DefinitionSyntax syntax_step clause_step definition_step layer.Nil

pub syntax_of-Str : (text : List ℕ) → syntax_of (e.Str text) ≡ syntax_step (layer.Str text)
syntax_of-Str text = ap syntax_of (sym (e.rolls-Str text)) ∙ fold-roll-Expr Syntax ClauseSyntax DefinitionSyntax syntax_step clause_step definition_step (layer.Str text)

pub syntax_of-Var : (x : ℕ) → syntax_of (e.Var x) ≡ syntax_step (layer.Var x)
syntax_of-Var x = ap syntax_of (sym (e.rolls-Var x)) ∙ fold-roll-Expr Syntax ClauseSyntax DefinitionSyntax syntax_step clause_step definition_step (layer.Var x)

pub syntax_of-Name : (f : FunName) → syntax_of (e.Name f) ≡ syntax_step (layer.Name f)
syntax_of-Name f = ap syntax_of (sym (e.rolls-Name f)) ∙ fold-roll-Expr Syntax ClauseSyntax DefinitionSyntax syntax_step clause_step definition_step (layer.Name f)

pub syntax_of-Tuple : (site : ℕ) (parts : List Expr) → syntax_of (e.Tuple site parts) ≡ syntax_step (layer.Tuple site (map syntax_of parts))
syntax_of-Tuple site parts = ap syntax_of (sym (e.rolls-Tuple site parts)) ∙ fold-roll-Expr Syntax ClauseSyntax DefinitionSyntax syntax_step clause_step definition_step (layer.Tuple site parts)

pub syntax_of-List : (site : ℕ) (heads : List Expr) (tail : Expr) → syntax_of (e.List site heads tail) ≡ syntax_step (layer.List site (map syntax_of heads) (syntax_of tail))
syntax_of-List site heads tail = ap syntax_of (sym (e.rolls-List site heads tail)) ∙ fold-roll-Expr Syntax ClauseSyntax DefinitionSyntax syntax_step clause_step definition_step (layer.List site heads tail)

pub syntax_of-Values : (parts : List Expr) → syntax_of (e.Values parts) ≡ syntax_step (layer.Values (map syntax_of parts))
syntax_of-Values parts = ap syntax_of (sym (e.rolls-Values parts)) ∙ fold-roll-Expr Syntax ClauseSyntax DefinitionSyntax syntax_step clause_step definition_step (layer.Values parts)

pub syntax_of-Let : (vars : List ℕ) (value body : Expr) → syntax_of (e.Let vars value body) ≡ syntax_step (layer.Let vars (syntax_of value) (syntax_of body))
syntax_of-Let vars value body = ap syntax_of (sym (e.rolls-Let vars value body)) ∙ fold-roll-Expr Syntax ClauseSyntax DefinitionSyntax syntax_step clause_step definition_step (layer.Let vars value body)

pub syntax_of-Do : (first second : Expr) → syntax_of (e.Do first second) ≡ syntax_step (layer.Do (syntax_of first) (syntax_of second))
syntax_of-Do first second = ap syntax_of (sym (e.rolls-Do first second)) ∙ fold-roll-Expr Syntax ClauseSyntax DefinitionSyntax syntax_step clause_step definition_step (layer.Do first second)

pub syntax_of-Case : (value : Expr) (clauses : List Clause) → syntax_of (e.Case value clauses) ≡ syntax_step (layer.Case (syntax_of value) (map clause_of clauses))
syntax_of-Case value clauses = ap syntax_of (sym (e.rolls-Case value clauses)) ∙ fold-roll-Expr Syntax ClauseSyntax DefinitionSyntax syntax_step clause_step definition_step (layer.Case value clauses)

pub syntax_of-Letrec : (functions : List Function) (body : Expr) → syntax_of (e.Letrec functions body) ≡ syntax_step (layer.Letrec (map definition_of functions) (syntax_of body))
syntax_of-Letrec functions body = ap syntax_of (sym (e.rolls-Letrec functions body)) ∙ fold-roll-Expr Syntax ClauseSyntax DefinitionSyntax syntax_step clause_step definition_step (layer.Letrec functions body)

pub syntax_of-Apply : (what : Expr) (args : List Expr) → syntax_of (e.Apply what args) ≡ syntax_step (layer.Apply (syntax_of what) (map syntax_of args))
syntax_of-Apply what args = ap syntax_of (sym (e.rolls-Apply what args)) ∙ fold-roll-Expr Syntax ClauseSyntax DefinitionSyntax syntax_step clause_step definition_step (layer.Apply what args)

pub syntax_of-Call : (m f : Expr) (args : List Expr) → syntax_of (e.Call m f args) ≡ syntax_step (layer.Call (syntax_of m) (syntax_of f) (map syntax_of args))
syntax_of-Call m f args = ap syntax_of (sym (e.rolls-Call m f args)) ∙ fold-roll-Expr Syntax ClauseSyntax DefinitionSyntax syntax_step clause_step definition_step (layer.Call m f args)

pub syntax_of-Primop : (name : ℕ) (args : List Expr) → syntax_of (e.Primop name args) ≡ syntax_step (layer.Primop name (map syntax_of args))
syntax_of-Primop name args = ap syntax_of (sym (e.rolls-Primop name args)) ∙ fold-roll-Expr Syntax ClauseSyntax DefinitionSyntax syntax_step clause_step definition_step (layer.Primop name args)

pub syntax_of-Receive : (clauses : List Clause) (timeout body : Expr) → syntax_of (e.Receive clauses timeout body) ≡ syntax_step (layer.Receive (map clause_of clauses) (syntax_of timeout) (syntax_of body))
syntax_of-Receive clauses timeout body = ap syntax_of (sym (e.rolls-Receive clauses timeout body)) ∙ fold-roll-Expr Syntax ClauseSyntax DefinitionSyntax syntax_step clause_step definition_step (layer.Receive clauses timeout body)

pub syntax_of-Try : (value : Expr) (vars : List ℕ) (body : Expr) (catch_vars : List ℕ) (catch_body : Expr) → syntax_of (e.Try value vars body catch_vars catch_body) ≡ syntax_step (layer.Try (syntax_of value) vars (syntax_of body) catch_vars (syntax_of catch_body))
syntax_of-Try value vars body catch_vars catch_body = ap syntax_of (sym (e.rolls-Try value vars body catch_vars catch_body)) ∙ fold-roll-Expr Syntax ClauseSyntax DefinitionSyntax syntax_step clause_step definition_step (layer.Try value vars body catch_vars catch_body)

pub syntax_of-Catch : (body : Expr) → syntax_of (e.Catch body) ≡ syntax_step (layer.Catch (syntax_of body))
syntax_of-Catch body = ap syntax_of (sym (e.rolls-Catch body)) ∙ fold-roll-Expr Syntax ClauseSyntax DefinitionSyntax syntax_step clause_step definition_step (layer.Catch body)

pub syntax_of-Fun : (params : List ℕ) (body : Expr) → syntax_of (e.Fun params body) ≡ syntax_step (layer.Fun params (syntax_of body))
syntax_of-Fun params body = ap syntax_of (sym (e.rolls-Fun params body)) ∙ fold-roll-Expr Syntax ClauseSyntax DefinitionSyntax syntax_step clause_step definition_step (layer.Fun params body)

pub clause_of-is : (c : Clause) → clause_of c ≡ clause_step (record { patterns = c.patterns; guard = syntax_of c.guard; body = syntax_of c.body })
clause_of-is c = fold_out-Clause Syntax ClauseSyntax DefinitionSyntax syntax_step clause_step definition_step c

pub definition_of-is : (f : Function) → definition_of f ≡ definition_step (record { name = f.name; params = f.params; body = syntax_of f.body })
definition_of-is f = fold_out-Function Syntax ClauseSyntax DefinitionSyntax syntax_step clause_step definition_step f

-- there and back, from the syntax

mutual
  pattern_back : (q : Pattern) → pattern_of (pattern_tree q) ≡ q
  pattern_back (AnyTerm x) = pattern_of-Var x
  pattern_back (TheInt n) = pattern_of-Int n
  pattern_back (TheAtom a) = pattern_of-Atom a
  pattern_back TheNil = pattern_of-Nil
  pattern_back (TheText text) = pattern_of-Str text
  pattern_back (TheTuple ps) = pattern_of-Tuple (pattern_trees ps) ∙ ap TheTuple (patterns_back ps)
  pattern_back (TheList ps q) =
      pattern_of-List (pattern_trees ps) (pattern_tree q) ∙ (λ i. TheList (patterns_back ps i) (pattern_back q i))
  pattern_back (Alias x q) = pattern_of-Alias x (pattern_tree q) ∙ ap (Alias x) (pattern_back q)

  patterns_back : (ps : Patterns) → patterns_of (map pattern_of (pattern_trees ps)) ≡ ps
  patterns_back NoPatterns = refl
  patterns_back (MorePatterns q ps) = λ i. MorePatterns (pattern_back q i) (patterns_back ps i)

mutual
  pub syntax_back : (s : Syntax) → syntax_of (tree s) ≡ s
  syntax_back (Int n) = syntax_of-Int n
  syntax_back (Atom a) = syntax_of-Atom a
  syntax_back Nil = syntax_of-Nil
  syntax_back (Str text) = syntax_of-Str text
  syntax_back (Var x) = syntax_of-Var x
  syntax_back (Name f) = syntax_of-Name f
  syntax_back (Tuple site ss) = syntax_of-Tuple site (trees ss) ∙ ap (Tuple site) (syntaxes_back ss)
  syntax_back (ListOf site ss s) =
      syntax_of-List site (trees ss) (tree s) ∙ (λ i. ListOf site (syntaxes_back ss i) (syntax_back s i))
  syntax_back (Values ss) = syntax_of-Values (trees ss) ∙ ap Values (syntaxes_back ss)
  syntax_back (Let xs s t) = syntax_of-Let xs (tree s) (tree t) ∙ (λ i. Let xs (syntax_back s i) (syntax_back t i))
  syntax_back (Do s t) = syntax_of-Do (tree s) (tree t) ∙ (λ i. Do (syntax_back s i) (syntax_back t i))
  syntax_back (Case s cs) =
      syntax_of-Case (tree s) (clause_trees cs) ∙ (λ i. Case (syntax_back s i) (clauses_back cs i))
  syntax_back (Letrec fs s) =
      syntax_of-Letrec (definition_trees fs) (tree s) ∙ (λ i. Letrec (definitions_back fs i) (syntax_back s i))
  syntax_back (Apply s ss) = syntax_of-Apply (tree s) (trees ss) ∙ (λ i. Apply (syntax_back s i) (syntaxes_back ss i))
  syntax_back (Call m f ss) =
      syntax_of-Call (tree m) (tree f) (trees ss)
      ∙ (λ i. Call (syntax_back m i) (syntax_back f i) (syntaxes_back ss i))
  syntax_back (Primop a ss) = syntax_of-Primop a (trees ss) ∙ ap (Primop a) (syntaxes_back ss)
  syntax_back (Receive cs t s) =
      syntax_of-Receive (clause_trees cs) (tree t) (tree s)
      ∙ (λ i. Receive (clauses_back cs i) (syntax_back t i) (syntax_back s i))
  syntax_back (Try s xs t ys u) =
      syntax_of-Try (tree s) xs (tree t) ys (tree u)
      ∙ (λ i. Try (syntax_back s i) xs (syntax_back t i) ys (syntax_back u i))
  syntax_back (Catch s) = syntax_of-Catch (tree s) ∙ ap Catch (syntax_back s)
  syntax_back (Fun xs s) = syntax_of-Fun xs (tree s) ∙ ap (Fun xs) (syntax_back s)

  pub syntaxes_back : (ss : Syntaxes) → syntaxes_of (map syntax_of (trees ss)) ≡ ss
  syntaxes_back NoSyntax = refl
  syntaxes_back (MoreSyntax s ss) = λ i. MoreSyntax (syntax_back s i) (syntaxes_back ss i)

  clauses_back : (cs : Clauses) → clauses_of (map clause_of (clause_trees cs)) ≡ cs
  clauses_back NoClauses = refl
  clauses_back (MoreClauses ps g b cs) =
      let c : Clause = record { patterns = pattern_trees ps; guard = tree g; body = tree b } in
      ap (λ k. MoreClauses k.patterns k.guard k.body (clauses_of (map clause_of (clause_trees cs)))) (clause_of-is c)
      ∙ (λ i. MoreClauses (patterns_back ps i) (syntax_back g i) (syntax_back b i) (clauses_back cs i))

  definitions_back : (fs : Definitions) → definitions_of (map definition_of (definition_trees fs)) ≡ fs
  definitions_back NoDefinitions = refl
  definitions_back (MoreDefinitions f xs s fs) =
      let d : Function = record { name = f; params = xs; body = tree s } in
      ap (λ k. MoreDefinitions k.name k.parameters k.body (definitions_of (map definition_of (definition_trees fs)))) (definition_of-is d)
      ∙ (λ i. MoreDefinitions f xs (syntax_back s i) (definitions_back fs i))

-- each syntax is a declared tree
pub syntax_of-onto : (s : Syntax) → (x : Expr) × (syntax_of x ≡ s)
syntax_of-onto s = (tree s, syntax_back s)

-- there and back, from the declared trees

abbrev PatternComesBack : declared.Pattern → Type 0
PatternComesBack q = pattern_tree (pattern_of q) ≡ q

abbrev PatternItem : Type 0
PatternItem = (q : declared.Pattern) × PatternComesBack q

pattern_items_back : (qs : List PatternItem) → pattern_trees (patterns_of (map pattern_of (map (λ x. x.0) qs))) ≡ map (λ x. x.0) qs
pattern_items_back [] = refl
pattern_items_back (q ∷ qs) = λ i. q.1 i ∷ pattern_items_back qs i

abbrev bare_pattern : Pattern-F PatternItem → Pattern-F declared.Pattern
bare_pattern = map-Pattern PatternItem declared.Pattern (λ x. x.0)

pattern_comes_back_at : (y : Pattern-F PatternItem) → PatternComesBack (roll-Pattern (bare_pattern y))
pattern_comes_back_at y = ap pattern_tree (fold-roll-Pattern Pattern pattern_step (bare_pattern y)) ∙ again y
  where
    again : (y : Pattern-F PatternItem) → pattern_tree (pattern_step (map-Pattern declared.Pattern Pattern pattern_of (bare_pattern y))) ≡ roll-Pattern (bare_pattern y)
    again (pattern_layer.Var x) = sym (p.rolls-Var x)
    again (pattern_layer.Int n) = sym (p.rolls-Int n)
    again (pattern_layer.Atom a) = sym (p.rolls-Atom a)
    again pattern_layer.Nil = sym p.rolls-Nil
    again (pattern_layer.Str text) = sym (p.rolls-Str text)
    again (pattern_layer.Tuple qs) = ap p.Tuple (pattern_items_back qs) ∙ sym (p.rolls-Tuple (map (λ x. x.0) qs))
    again (pattern_layer.List qs q) =
        (λ i. p.List (pattern_items_back qs i) (q.1 i)) ∙ sym (p.rolls-List (map (λ x. x.0) qs) q.0)
    again (pattern_layer.Alias x q) = ap (p.Alias x) q.1 ∙ sym (p.rolls-Alias x q.0)

pub pattern_comes_back : (q : declared.Pattern) → PatternComesBack q
pattern_comes_back = ind-Pattern PatternComesBack (λ x y is. subst (λ z. PatternComesBack (roll-Pattern z)) is (pattern_comes_back_at y))

pub patterns_come_back : (qs : List declared.Pattern) → pattern_trees (patterns_of (map pattern_of qs)) ≡ qs
patterns_come_back [] = refl
patterns_come_back (q ∷ qs) = λ i. pattern_comes_back q i ∷ patterns_come_back qs i

abbrev pub ComesBack : Expr → Type 0
ComesBack x = tree (syntax_of x) ≡ x

abbrev clause_again : ClauseSyntax → Clause
clause_again c = record { patterns = pattern_trees c.patterns; guard = tree c.guard; body = tree c.body }

abbrev ClauseComesBack : Clause → Type 0
ClauseComesBack c = clause_again (clause_of c) ≡ c

abbrev definition_again : DefinitionSyntax → Function
definition_again f = record { name = f.name; params = f.parameters; body = tree f.body }

abbrev DefinitionComesBack : Function → Type 0
DefinitionComesBack f = definition_again (definition_of f) ≡ f

abbrev Item : Type 0
Item = (x : Expr) × ComesBack x

abbrev ClauseItem : Type 0
ClauseItem = (c : Clause) × ClauseComesBack c

abbrev DefinitionItem : Type 0
DefinitionItem = (f : Function) × DefinitionComesBack f

items_back : (xs : List Item) → trees (syntaxes_of (map syntax_of (map (λ x. x.0) xs))) ≡ map (λ x. x.0) xs
items_back [] = refl
items_back (x ∷ xs) = λ i. x.1 i ∷ items_back xs i

clause_items_back : (cs : List ClauseItem) → clause_trees (clauses_of (map clause_of (map (λ x. x.0) cs))) ≡ map (λ x. x.0) cs
clause_items_back [] = refl
clause_items_back (c ∷ cs) = λ i. c.1 i ∷ clause_items_back cs i

definition_items_back : (fs : List DefinitionItem) → definition_trees (definitions_of (map definition_of (map (λ x. x.0) fs))) ≡ map (λ x. x.0) fs
definition_items_back [] = refl
definition_items_back (f ∷ fs) = λ i. f.1 i ∷ definition_items_back fs i

abbrev Layer : Type 0
Layer = Expr-F Item ClauseItem DefinitionItem

abbrev bare : Layer → Expr-F Expr Clause Function
bare = map-Expr Item ClauseItem DefinitionItem Expr Clause Function (λ x. x.0) (λ x. x.0) (λ x. x.0)

again : (y : Layer) → tree (syntax_step (map-Expr Expr Clause Function Syntax ClauseSyntax DefinitionSyntax syntax_of clause_of definition_of (bare y))) ≡ roll-Expr (bare y)
again (layer.Int n) = sym (e.rolls-Int n)
again (layer.Atom a) = sym (e.rolls-Atom a)
again layer.Nil = sym e.rolls-Nil
again (layer.Str text) = sym (e.rolls-Str text)
again (layer.Var x) = sym (e.rolls-Var x)
again (layer.Name f) = sym (e.rolls-Name f)
again (layer.Tuple site xs) = ap (e.Tuple site) (items_back xs) ∙ sym (e.rolls-Tuple site (map (λ x. x.0) xs))
again (layer.List site xs x) =
    (λ i. e.List site (items_back xs i) (x.1 i)) ∙ sym (e.rolls-List site (map (λ x. x.0) xs) x.0)
again (layer.Values xs) = ap e.Values (items_back xs) ∙ sym (e.rolls-Values (map (λ x. x.0) xs))
again (layer.Let vars x y) = (λ i. e.Let vars (x.1 i) (y.1 i)) ∙ sym (e.rolls-Let vars x.0 y.0)
again (layer.Do x y) = (λ i. e.Do (x.1 i) (y.1 i)) ∙ sym (e.rolls-Do x.0 y.0)
again (layer.Case x cs) =
    (λ i. e.Case (x.1 i) (clause_items_back cs i)) ∙ sym (e.rolls-Case x.0 (map (λ x. x.0) cs))
again (layer.Letrec fs x) =
    (λ i. e.Letrec (definition_items_back fs i) (x.1 i)) ∙ sym (e.rolls-Letrec (map (λ x. x.0) fs) x.0)
again (layer.Apply x xs) =
    (λ i. e.Apply (x.1 i) (items_back xs i)) ∙ sym (e.rolls-Apply x.0 (map (λ x. x.0) xs))
again (layer.Call x y xs) =
    (λ i. e.Call (x.1 i) (y.1 i) (items_back xs i)) ∙ sym (e.rolls-Call x.0 y.0 (map (λ x. x.0) xs))
again (layer.Primop a xs) = ap (e.Primop a) (items_back xs) ∙ sym (e.rolls-Primop a (map (λ x. x.0) xs))
again (layer.Receive cs x y) =
    (λ i. e.Receive (clause_items_back cs i) (x.1 i) (y.1 i))
    ∙ sym (e.rolls-Receive (map (λ x. x.0) cs) x.0 y.0)
again (layer.Try x vs y ws z) =
    (λ i. e.Try (x.1 i) vs (y.1 i) ws (z.1 i)) ∙ sym (e.rolls-Try x.0 vs y.0 ws z.0)
again (layer.Catch x) = ap e.Catch x.1 ∙ sym (e.rolls-Catch x.0)
again (layer.Fun vs x) = ap (e.Fun vs) x.1 ∙ sym (e.rolls-Fun vs x.0)

comes_back_at : (y : Layer) → ComesBack (roll-Expr (bare y))
comes_back_at y =
    ap tree (fold-roll-Expr Syntax ClauseSyntax DefinitionSyntax syntax_step clause_step definition_step (bare y)) ∙ again y

pub comes_back : (x : Expr) → ComesBack x
comes_back = ind-Expr ComesBack ClauseComesBack DefinitionComesBack
    (λ x y is. subst (λ z. ComesBack (roll-Expr z)) is (comes_back_at y))
    (λ x y is. subst (λ z. ClauseComesBack (roll-Clause z)) is
    (ap clause_again (fold-roll-Clause Syntax ClauseSyntax DefinitionSyntax syntax_step clause_step definition_step (record { patterns = y.patterns; guard = y.guard.0; body = y.body.0 }))
    ∙ (λ i. record { patterns = patterns_come_back y.patterns i; guard = y.guard.1 i; body = y.body.1 i })))
    (λ x y is. subst (λ z. DefinitionComesBack (roll-Function z)) is
    (ap definition_again (fold-roll-Function Syntax ClauseSyntax DefinitionSyntax syntax_step clause_step definition_step (record { name = y.name; params = y.params; body = y.body.0 }))
    ∙ (λ i. record { name = y.name; params = y.params; body = y.body.1 i })))

-- and two declared trees that are one syntax are the same
pub syntax_of-injective : (x y : Expr) → syntax_of x ≡ syntax_of y → x ≡ y
syntax_of-injective x y h = sym (comes_back x) ∙ ap tree h ∙ comes_back y
