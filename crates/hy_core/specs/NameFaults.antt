-- The faults in the names of modules and functions. Names are compared by their texts, for each
-- module has a table of its own. What an `apply` and a call name is as in the Core Erlang 1.0.3
-- report; the rest is this project's own.
use Rattle.std.specs.Prelude.{◌≡◌, ℕ, ◌<◌, List, ◌∷◌, [], ◌++◌, length, codes, None, Some, Contains, slice_get}
use Rattle.hy_terms.specs.Naming.{text_of}
use Rattle.hy_core.specs.BuiltIn.{Spawns, operation_named}
use Rattle.hy_core.specs.NodeFaults.{IsListOf, Repeats}
use Rattle.hy_core.specs.Nodes.{AnExpr, Context, Node, node, names_of}
use Rattle.hy_core.specs.declared.tree.Expr.{Expr}
use Rattle.hy_core.specs.declared.tree.Expr.TheVariants as e
use Rattle.hy_core.specs.declared.tree.FunName.{FunName}
use Rattle.hy_core.specs.declared.tree.Function.{Function}
use Rattle.hy_core.specs.declared.tree.Module.{Module}
use Rattle.hy_core.specs.declared.tree.Program.{Program}

-- the modules that are given, and behind them those of the prelude
abbrev pub modules_of : Program → List Module
modules_of program = program.given ++ program.prelude

abbrev pub module_name : Module → List ℕ
module_name m = text_of m.atoms m.name

-- the given module of this place has the name of an earlier one, or of one of the prelude
pub data RepeatsModule (program : Program) : ℕ → Module → Type 0 where
  earlier : {j k : ℕ} {other m : Module} → j < k → slice_get program.given j ≡ Some other
      → module_name other ≡ module_name m → RepeatsModule program k m
  in_prelude : {k : ℕ} {other m : Module} → Contains program.prelude other
      → module_name other ≡ module_name m → RepeatsModule program k m

-- the function of this place has the name and arity of an earlier one of its module
pub data RepeatsFunction (m : Module) : ℕ → Function → Type 0 where
  earlier : {j k : ℕ} {other f : Function} → j < k → slice_get m.functions j ≡ Some other
      → other.name ≡ f.name → RepeatsFunction m k f

-- a letrec that defines a name and arity twice
pub data RepeatsDefinition : Node → Type 0 where
  in_letrec : {c : Context} (functions : List Function) (body : Expr) → Repeats (names_of functions)
      → RepeatsDefinition (node (AnExpr (e.Letrec functions body)) c)

-- an exported name without a definition
abbrev pub IsUndefined : Module → FunName → Type 0
IsUndefined m f = Contains (names_of m.functions) f → ⊥

-- the program has a module of this name that exports this function
pub record IsExported (program : Program) (of_module name : List ℕ) (arity : ℕ) : Type 0 where
  pub m : Module
  pub f : FunName
  pub stands : Contains (modules_of program) m
  pub exports : Contains m.exports f
  pub same_module : module_name m ≡ of_module
  pub same_name : text_of m.atoms f.name ≡ name
  pub same_arity : f.arity ≡ arity

-- a definition that has as many parameters as its arity says
abbrev pub FitsArity : Function → Type 0
FitsArity f = length f.params ≡ f.name.arity

-- a function that isn't there, or is there with another number of arguments or parameters
pub data IsUnknownFunction (program : Program) (m : Module) : Node → Type 0 where
  unknown_name : {c : Context} (f : FunName) (args : List Expr) → (Contains c.locals f → ⊥)
      → (Contains (names_of m.functions) f → ⊥)
      → IsUnknownFunction program m (node (AnExpr (e.Apply (e.Name f) args)) c)
  other_arguments : {c : Context} (f : FunName) (args : List Expr) → (length args ≡ f.arity → ⊥)
      → IsUnknownFunction program m (node (AnExpr (e.Apply (e.Name f) args)) c)
  unknown_call : {c : Context} (a b : ℕ) (args : List Expr) → operation_named (text_of m.atoms a)
      (text_of m.atoms b) (length args) ≡ None
      → (IsExported program (text_of m.atoms a) (text_of m.atoms b) (length args) → ⊥)
      → IsUnknownFunction program m (node (AnExpr (e.Call (e.Atom a) (e.Atom b) args)) c)
  unknown_spawn : {c : Context} (a b x y n : ℕ) (list : Expr)
      → operation_named (text_of m.atoms a) (text_of m.atoms b) 3 ≡ Some Spawns → IsListOf list n
      → (IsExported program (text_of m.atoms x) (text_of m.atoms y) n → ⊥)
      → IsUnknownFunction program m
      (node (AnExpr (e.Call (e.Atom a) (e.Atom b) (e.Atom x ∷ e.Atom y ∷ list ∷ []))) c)
  other_parameters : {c : Context} (f : Function) (functions : List Function) (body : Expr)
      → Contains functions f → (FitsArity f → ⊥)
      → IsUnknownFunction program m (node (AnExpr (e.Letrec functions body)) c)

-- the first module exports 'main'/0
pub data ExportsMain (m : Module) : Type 0 where
  exports_main : (f : FunName) → Contains m.exports f → text_of m.atoms f.name ≡ codes "main"
      → f.arity ≡ 0 → ExportsMain m
