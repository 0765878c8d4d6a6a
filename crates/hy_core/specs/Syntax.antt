-- The trees of the sources, as definitions compute with them: one form for each form of the
-- declared trees, which are sealed outside their crate, so that nothing over them computes there.
use Rattle.std.specs.Prelude.{ℕ, suc, ℤ, List, [], ◌∷◌, map}
use Rattle.hy_core.specs.declared.tree.Clause.{Clause}
use Rattle.hy_core.specs.declared.tree.Expr.{Expr}
use Rattle.hy_core.specs.declared.tree.Expr.TheFolds.{fold-Expr}
use Rattle.hy_core.specs.declared.tree.Expr.TheOpen as layer
use Rattle.hy_core.specs.declared.tree.Expr.TheOpen.{Expr-F, Clause-F, Function-F}
use Rattle.hy_core.specs.declared.tree.Expr.TheVariants as e
use Rattle.hy_core.specs.declared.tree.FunName.{FunName}
use Rattle.hy_core.specs.declared.tree.Function.{Function}
use Rattle.hy_core.specs.declared.tree.Module.{Module}
use Rattle.hy_core.specs.declared.tree.Pattern as declared
use Rattle.hy_core.specs.declared.tree.Pattern.TheFolds.{fold-Pattern}
use Rattle.hy_core.specs.declared.tree.Pattern.TheOpen as pattern_layer
use Rattle.hy_core.specs.declared.tree.Pattern.TheOpen.{Pattern-F}
use Rattle.hy_core.specs.declared.tree.Pattern.TheVariants as p
use Rattle.hy_core.specs.Resolved.{Pattern, AnyTerm, TheInt, TheAtom, TheNil, TheText, TheTuple, TheList, Alias, Patterns, NoPatterns, MorePatterns}

mutual
  pub data Syntax : Type 0 where
    Int : ℤ → Syntax
    Atom : ℕ → Syntax
    Nil : Syntax
    Str : List ℕ → Syntax
    Var : ℕ → Syntax
    Name : FunName → Syntax
    Tuple : (site : ℕ) → Syntaxes → Syntax
    -- a list notation
    ListOf : (site : ℕ) → (heads : Syntaxes) → (tail : Syntax) → Syntax
    Values : Syntaxes → Syntax
    Let : (variables : List ℕ) → (value body : Syntax) → Syntax
    Do : (first second : Syntax) → Syntax
    Case : (value : Syntax) → Clauses → Syntax
    Letrec : Definitions → (body : Syntax) → Syntax
    Apply : (what : Syntax) → (arguments : Syntaxes) → Syntax
    Call : (of_module name : Syntax) → (arguments : Syntaxes) → Syntax
    Primop : (name : ℕ) → (arguments : Syntaxes) → Syntax
    Receive : Clauses → (timeout body : Syntax) → Syntax
    Try : (value : Syntax) → List ℕ → (body : Syntax) → List ℕ → (catch_body : Syntax) → Syntax
    Catch : Syntax → Syntax
    Fun : (parameters : List ℕ) → (body : Syntax) → Syntax

  pub data Syntaxes : Type 0 where
    NoSyntax : Syntaxes
    MoreSyntax : Syntax → Syntaxes → Syntaxes

  pub data Clauses : Type 0 where
    NoClauses : Clauses
    MoreClauses : Patterns → (guard body : Syntax) → Clauses → Clauses

  -- the functions of a letrec
  pub data Definitions : Type 0 where
    NoDefinitions : Definitions
    MoreDefinitions : FunName → (parameters : List ℕ) → (body : Syntax) → Definitions → Definitions

-- from the declared trees

abbrev pub patterns_of : List Pattern → Patterns
patterns_of [] = NoPatterns
patterns_of (x ∷ xs) = MorePatterns x (patterns_of xs)

abbrev pub pattern_step : Pattern-F Pattern → Pattern
pattern_step (pattern_layer.Var x) = AnyTerm x
pattern_step (pattern_layer.Int n) = TheInt n
pattern_step (pattern_layer.Atom a) = TheAtom a
pattern_step pattern_layer.Nil = TheNil
pattern_step (pattern_layer.Str text) = TheText text
pattern_step (pattern_layer.Tuple parts) = TheTuple (patterns_of parts)
pattern_step (pattern_layer.List heads tail) = TheList (patterns_of heads) tail
pattern_step (pattern_layer.Alias x pattern) = Alias x pattern

-- the pattern that a declared one is
abbrev pub pattern_of : declared.Pattern → Pattern
pattern_of = fold-Pattern Pattern pattern_step

pub record ClauseSyntax : Type 0 where
  pub patterns : Patterns
  pub guard : Syntax
  pub body : Syntax

pub record DefinitionSyntax : Type 0 where
  pub name : FunName
  pub parameters : List ℕ
  pub body : Syntax

abbrev pub syntaxes_of : List Syntax → Syntaxes
syntaxes_of [] = NoSyntax
syntaxes_of (x ∷ xs) = MoreSyntax x (syntaxes_of xs)

abbrev pub clauses_of : List ClauseSyntax → Clauses
clauses_of [] = NoClauses
clauses_of (c ∷ cs) = MoreClauses c.patterns c.guard c.body (clauses_of cs)

abbrev pub definitions_of : List DefinitionSyntax → Definitions
definitions_of [] = NoDefinitions
definitions_of (f ∷ fs) = MoreDefinitions f.name f.parameters f.body (definitions_of fs)

abbrev pub syntax_step : Expr-F Syntax ClauseSyntax DefinitionSyntax → Syntax
syntax_step (layer.Int n) = Int n
syntax_step (layer.Atom a) = Atom a
syntax_step layer.Nil = Nil
syntax_step (layer.Str text) = Str text
syntax_step (layer.Var x) = Var x
syntax_step (layer.Name f) = Name f
syntax_step (layer.Tuple site parts) = Tuple site (syntaxes_of parts)
syntax_step (layer.List site heads tail) = ListOf site (syntaxes_of heads) tail
syntax_step (layer.Values parts) = Values (syntaxes_of parts)
syntax_step (layer.Let vars value body) = Let vars value body
syntax_step (layer.Do first second) = Do first second
syntax_step (layer.Case value clauses) = Case value (clauses_of clauses)
syntax_step (layer.Letrec functions body) = Letrec (definitions_of functions) body
syntax_step (layer.Apply what args) = Apply what (syntaxes_of args)
syntax_step (layer.Call m f args) = Call m f (syntaxes_of args)
syntax_step (layer.Primop name args) = Primop name (syntaxes_of args)
syntax_step (layer.Receive clauses timeout body) = Receive (clauses_of clauses) timeout body
syntax_step (layer.Try value vars body catch_vars catch_body) =
    Try value vars body catch_vars catch_body
syntax_step (layer.Catch body) = Catch body
syntax_step (layer.Fun params body) = Fun params body

abbrev pub clause_step : Clause-F Syntax ClauseSyntax DefinitionSyntax → ClauseSyntax
clause_step c =
    record { patterns = patterns_of (map pattern_of c.patterns); guard = c.guard; body = c.body }

abbrev pub definition_step : Function-F Syntax ClauseSyntax DefinitionSyntax → DefinitionSyntax
definition_step f = record { name = f.name; parameters = f.params; body = f.body }

-- the syntax that a declared tree is
abbrev pub syntax_of : Expr → Syntax
syntax_of = fold-Expr Syntax ClauseSyntax DefinitionSyntax syntax_step clause_step definition_step

-- and back

abbrev mutual
  pub pattern_tree : Pattern → declared.Pattern
  pattern_tree (AnyTerm x) = p.Var x
  pattern_tree (TheInt n) = p.Int n
  pattern_tree (TheAtom a) = p.Atom a
  pattern_tree TheNil = p.Nil
  pattern_tree (TheText text) = p.Str text
  pattern_tree (TheTuple ps) = p.Tuple (pattern_trees ps)
  pattern_tree (TheList ps q) = p.List (pattern_trees ps) (pattern_tree q)
  pattern_tree (Alias x q) = p.Alias x (pattern_tree q)

  pub pattern_trees : Patterns → List declared.Pattern
  pattern_trees NoPatterns = []
  pattern_trees (MorePatterns q ps) = pattern_tree q ∷ pattern_trees ps

abbrev mutual
  -- the declared tree that a syntax is
  pub tree : Syntax → Expr
  tree (Int n) = e.Int n
  tree (Atom a) = e.Atom a
  tree Nil = e.Nil
  tree (Str text) = e.Str text
  tree (Var x) = e.Var x
  tree (Name f) = e.Name f
  tree (Tuple site ss) = e.Tuple site (trees ss)
  tree (ListOf site ss s) = e.List site (trees ss) (tree s)
  tree (Values ss) = e.Values (trees ss)
  tree (Let xs s t) = e.Let xs (tree s) (tree t)
  tree (Do s t) = e.Do (tree s) (tree t)
  tree (Case s cs) = e.Case (tree s) (clause_trees cs)
  tree (Letrec fs s) = e.Letrec (definition_trees fs) (tree s)
  tree (Apply s ss) = e.Apply (tree s) (trees ss)
  tree (Call m f ss) = e.Call (tree m) (tree f) (trees ss)
  tree (Primop a ss) = e.Primop a (trees ss)
  tree (Receive cs t s) = e.Receive (clause_trees cs) (tree t) (tree s)
  tree (Try s xs t ys u) = e.Try (tree s) xs (tree t) ys (tree u)
  tree (Catch s) = e.Catch (tree s)
  tree (Fun xs s) = e.Fun xs (tree s)

  pub trees : Syntaxes → List Expr
  trees NoSyntax = []
  trees (MoreSyntax s ss) = tree s ∷ trees ss

  pub clause_trees : Clauses → List Clause
  clause_trees NoClauses = []
  clause_trees (MoreClauses ps g b cs) =
      record { patterns = pattern_trees ps; guard = tree g; body = tree b } ∷ clause_trees cs

  pub definition_trees : Definitions → List Function
  definition_trees NoDefinitions = []
  definition_trees (MoreDefinitions f xs s fs) =
      record { name = f; params = xs; body = tree s } ∷ definition_trees fs

abbrev pub count : Syntaxes → ℕ
count NoSyntax = 0
count (MoreSyntax s ss) = suc (count ss)

-- a module by its syntax, without exports and tables
pub record ModuleSyntax : Type 0 where
  pub name : ℕ
  pub functions : Definitions

abbrev pub module_tree : ModuleSyntax → Module
module_tree m = record {
  name = m.name;
  exports = [];
  functions = definition_trees m.functions;
  atoms = [];
  variables = [];
}

abbrev pub module_trees : List ModuleSyntax → List Module
module_trees [] = []
module_trees (m ∷ ms) = module_tree m ∷ module_trees ms
