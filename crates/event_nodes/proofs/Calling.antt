-- Whether a call is an event, by the built-in that it names.
use Rattle.std.proofs.Common.{◌≡◌, ℕ, List, map, length, Option, Some, None, refl, sym, ap, ◌∙◌}
use Rattle.std.proofs.Common.{subst, suc, [], ◌∷◌}
use Rattle.hy_core.specs.BuiltIn as built
use Rattle.hy_core.specs.BuiltIn.{Operation, operation_named}
use Rattle.hy_core.specs.NodeParts.{atom_layer}
use Rattle.hy_core.specs.Numbered.{atom_of}
use Rattle.hy_core.specs.ProgramTrees.{does_event, is_event}
use Rattle.hy_core.specs.Syntax as s
use Rattle.hy_core.specs.Syntax.{Syntax, Syntaxes, ClauseSyntax, DefinitionSyntax, count}
use Rattle.hy_core.specs.Syntax.{syntax_of, syntaxes_of, syntax_step, clause_step, definition_step}
use Rattle.hy_core.specs.declared.tree.Clause.{Clause}
use Rattle.hy_core.specs.declared.tree.Expr.{Expr}
use Rattle.hy_core.specs.declared.tree.Expr.TheFolds.{fold-roll-Expr, map-Expr}
use Rattle.hy_core.specs.declared.tree.Expr.TheOpen as layer
use Rattle.hy_core.specs.declared.tree.Expr.TheOpen.{Expr-F}
use Rattle.hy_core.specs.declared.tree.Expr.TheVariants as e
use Rattle.hy_core.specs.declared.tree.Expr.TheViews.{out-Expr, roll-Expr, roll-out-Expr}
use Rattle.hy_core.specs.declared.tree.Function.{Function}
use Rattle.hy_core.proofs.SyntaxLemmas.{clause_of, definition_of, syntax_of-Call}
use Rattle.hy_terms.specs.Naming.{text_of}
use Rattle.core_names.specs.Called.{built_in_as, called}
use Rattle.event_nodes.specs.code.Walked.{is_event_of}

does : (o : Option Operation) → is_event_of (built_in_as o) ≡ does_event o
does None = refl
does (Some (built.Plain b)) = refl
does (Some built.SetsElement) = refl
does (Some built.Sends) = refl
does (Some built.Spawns) = refl
does (Some built.Displays) = refl
does (Some (built.RaisesAs class)) = refl

-- the atom that an expression is, by its form

abbrev form : Expr-F Expr Clause Function → Syntax
form y =
    syntax_step
    (map-Expr Expr Clause Function Syntax ClauseSyntax DefinitionSyntax syntax_of clause_of
    definition_of y)

form_is : (y : Expr-F Expr Clause Function) → syntax_of (roll-Expr y) ≡ form y
form_is =
    fold-roll-Expr Syntax ClauseSyntax DefinitionSyntax syntax_step clause_step definition_step

atom_form : (y : Expr-F Expr Clause Function) → atom_of (form y) ≡ atom_layer y
atom_form (layer.Atom a) = refl
atom_form (layer.Int n) = refl
atom_form _ = refl

atom-is : (x : Expr) → atom_of (syntax_of x) ≡ atom_layer (out-Expr x)
atom-is x =
    subst (λ z. atom_of (syntax_of z) ≡ atom_layer (out-Expr x)) (roll-out-Expr x)
    (ap atom_of (form_is (out-Expr x)) ∙ atom_form (out-Expr x))

count-is : (xs : List Expr) → count (syntaxes_of (map syntax_of xs)) ≡ length xs
count-is [] = refl
count-is (x ∷ xs) = ap (λ n. suc n) (count-is xs)

module _ (atoms : List (List ℕ)) where
  by_atoms : (m f : Syntax) (es : Syntaxes)
      → is_event_of (called atoms (atom_of m) (atom_of f) (count es))
      ≡ is_event atoms (s.Call m f es)
  by_atoms (s.Atom m) (s.Atom f) es =
      does (operation_named (text_of atoms m) (text_of atoms f) (count es))
  by_atoms (s.Atom m) _ es = refl
  by_atoms _ f es = refl

  pub call_is : (m f : Expr) (args : List Expr)
      → is_event_of (called atoms (atom_layer (out-Expr m)) (atom_layer (out-Expr f)) (length args))
      ≡ is_event atoms (syntax_of (e.Call m f args))
  call_is m f args =
      sym
      (λ i. is_event_of (called atoms (atom-is m i) (atom-is f i) (count-is args i)))
      ∙ by_atoms (syntax_of m) (syntax_of f) (syntaxes_of (map syntax_of args))
      ∙ sym (ap (is_event atoms) (syntax_of-Call m f args))
