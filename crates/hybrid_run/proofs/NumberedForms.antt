-- What a program's own numbers make of an expression of the six forms, and of its one module. All that is
-- known here of how nodes and sites are numbered stands in this file.
use Rattle.std.proofs.Common.{◌≡◌, ℕ, List, [], ◌∷◌, map, Option, Some, None, refl, sym, ap, subst, ◌∙◌}
use Rattle.hy_core.specs.BuiltIn as operation
use Rattle.hy_core.specs.BuiltIn.{Operation}
use Rattle.hy_core.specs.Counting.{Counts, Numbering, made, next, at_node}
use Rattle.hy_core.specs.Expressions.{function}
use Rattle.hy_core.specs.NameFaults.{modules_of}
use Rattle.hy_core.specs.Numbered.{all_numbered, arguments, called, function_count, numbered, numbered_functions, numbered_program, numbered_tree, sites_of, spawn_numbered}
use Rattle.hy_core.specs.PreludeModules.{with_prelude}
use Rattle.hy_core.specs.Syntax as s
use Rattle.hy_core.specs.Syntax.{MoreSyntax, NoSyntax, Syntax, Syntaxes, syntax_of, syntaxes_of, tree}
use Rattle.hy_core.specs.Tables.{program_atoms, renamed, renamed_name}
use Rattle.hy_core.specs.declared.tree.Expr.{Expr}
use Rattle.hy_core.specs.declared.tree.Expr.TheVariants as e
use Rattle.hy_core.specs.declared.tree.Function.{Function}
use Rattle.hy_core.specs.declared.tree.Module.{Module}
use Rattle.hy_core.proofs.SyntaxLemmas.{syntax_of-Atom, syntax_of-Call, syntax_of-Do, syntax_of-Int, syntax_of-Let, syntax_of-Var}
use Rattle.hybrid_run.specs.Built.{HasText, IsClosed, integer, variable, let_in, do_both, sum, display, call}

-- ---- what holds of all that is made

abbrev Gives : {A : Type 0} → (A → Type 0) → Numbering A → Type 0
Gives P part = (k : ℕ) (counts : Counts) → P (part k counts).0

-- arguments that are numbered as they stand, whatever is called
as_they_stand : (o : Option Operation) (numbering : Numbering Syntaxes) → arguments o numbering numbering ≡ numbering
as_they_stand None numbering = refl
as_they_stand (Some (operation.Plain b)) numbering = refl
as_they_stand (Some operation.SetsElement) numbering = refl
as_they_stand (Some operation.Sends) numbering = refl
as_they_stand (Some operation.Spawns) numbering = refl
as_they_stand (Some operation.Displays) numbering = refl
as_they_stand (Some (operation.RaisesAs class)) numbering = refl

-- a call of atoms as syntax
call_is : (a b : ℕ) (args : List Expr) → syntax_of (call a b args) ≡ s.Call (s.Atom a) (s.Atom b) (syntaxes_of (map syntax_of args))
call_is a b args =
    syntax_of-Call (e.Atom a) (e.Atom b) args
    ∙ (λ i. s.Call (syntax_of-Atom a i) (syntax_of-Atom b i) (syntaxes_of (map syntax_of args)))

module _ (table : List (List ℕ)) (m : Module) where
  -- the tree that a numbered syntax is
  abbrev planted : Syntax → Numbering Expr
  planted t = next (numbered table m t) λ y. made (tree y)

  -- a call of atoms with this numbering of its arguments
  abbrev planted_call : Option Operation → (a b : ℕ) → Numbering Syntaxes → Numbering Expr
  planted_call o a b args =
      at_node (sites_of o) λ _. next (numbered table m (s.Atom a)) λ x. next (numbered table m (s.Atom b)) λ y.
      next args λ xs. made (tree (s.Call x y xs))

  module _ (keeps : (a : ℕ) (text : List ℕ) → HasText m.atoms a text → HasText table (renamed table m a) text) where
    -- a call, where its numbering with the arguments as they stand gives what is asked
    call_made : (a b : ℕ) (args : List Expr) (Q : Expr → Type 0)
        → (let xs = syntaxes_of (map syntax_of args) in spawn_numbered table m xs (all_numbered table m xs) ≡ all_numbered table m xs)
        → ((o : Option Operation) → Gives Q (planted_call o a b (all_numbered table m (syntaxes_of (map syntax_of args)))))
        → Gives Q (numbered_tree table m (call a b args))
    call_made a b args Q stand h =
        let xs = syntaxes_of (map syntax_of args) in
        let all = all_numbered table m xs in
        let o = called table m (Some a) (Some b) (s.count xs) in
        subst (Gives Q) (sym (ap planted (call_is a b args)
        ∙ ap (λ spawned. planted_call o a b (arguments o spawned all)) stand
        ∙ ap (planted_call o a b) (as_they_stand o all))) (h o)

    -- with the program's own numbers an expression of the six forms is one, and closed as before
    pub numbered_closed : {around : List ℕ} {x : Expr} → IsClosed m.atoms around x → Gives (IsClosed table around) (numbered_tree table m x)
    numbered_closed {around = around} (integer n) =
        subst (Gives (IsClosed table around)) (sym (ap planted (syntax_of-Int n))) (λ k counts. integer n)
    numbered_closed {around = around} (variable v is) =
        subst (Gives (IsClosed table around)) (sym (ap planted (syntax_of-Var v))) (λ k counts. variable v is)
    numbered_closed {around = around} (let_in {x = x} {y = y} v d1 d2) =
        subst (Gives (IsClosed table around)) (sym (ap planted (syntax_of-Let (v ∷ []) x y)))
        (λ k counts. let_in v (numbered_closed d1 k _) (numbered_closed d2 k _))
    numbered_closed {around = around} (do_both {x = x} {y = y} d1 d2) =
        subst (Gives (IsClosed table around)) (sym (ap planted (syntax_of-Do x y)))
        (λ k counts. do_both (numbered_closed d1 k _) (numbered_closed d2 k _))
    numbered_closed {around = around} (sum {x = x} {y = y} a b p q d1 d2) =
        call_made a b (x ∷ y ∷ []) (IsClosed table around) refl
        (λ o k counts. sum (renamed table m a) (renamed table m b) (keeps a _ p) (keeps b _ q) (numbered_closed d1 k _) (numbered_closed d2 k _))
    numbered_closed {around = around} (display {x = x} a b p q d1) =
        call_made a b (x ∷ []) (IsClosed table around) refl
        (λ o k counts. display (renamed table m a) (renamed table m b) (keeps a _ p) (keeps b _ q) (numbered_closed d1 k _))

-- ---- the one module of a program

-- a module of one function with the numbers of a program, whose table this is
abbrev pub numbered_alone : (table : List (List ℕ)) → Module → Function → (body : Expr) → Module
numbered_alone table z f body = record {
  name = renamed table z z.name;
  exports = map (renamed_name table z) z.exports;
  functions = function (renamed_name table z f.name) f.params body ∷ [];
  atoms = [];
  variables = z.variables;
}

-- the body that the one function of a module has with the numbers of its program
pub record NumberedAlone (z : Module) (f : Function) : Type 0 where
  pub body : Expr
  pub given : (numbered_program (with_prelude (z ∷ []))).given ≡ numbered_alone (program_atoms (with_prelude (z ∷ []))) z f body ∷ []
  pub closed : ((a : ℕ) (text : List ℕ) → HasText z.atoms a text → HasText (program_atoms (with_prelude (z ∷ []))) (renamed (program_atoms (with_prelude (z ∷ []))) z a) text)
      → IsClosed z.atoms [] f.body → IsClosed (program_atoms (with_prelude (z ∷ []))) [] body

pub is_numbered_alone : (z : Module) (f : Function) → z.functions ≡ f ∷ [] → NumberedAlone z f
is_numbered_alone z f alone =
    let program = with_prelude (z ∷ []) in
    let table = program_atoms program in
    let counts : Counts = record { node = 0; local = function_count (modules_of program); sites = [] } in
    record {
      body = (numbered_tree table z f.body 0 counts).0;
      given = ap (λ (fs : List Function). record { name = renamed table z z.name; exports = map (renamed_name table z) z.exports; functions = (numbered_functions table z 0 fs counts).0; atoms = []; variables = z.variables } ∷ []) alone;
      closed = λ keeps is. numbered_closed table z keeps is 0 counts;
    }
