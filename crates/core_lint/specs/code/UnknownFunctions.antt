-- The check for functions that aren't there, and the faults that it shows.
use Rattle.std.specs.Prelude.{ℕ, ◌==◌, ◌||◌, not, Bool, false, List, [], ◌∷◌, length, Option, Some, None, if◌then◌else◌}
use Rattle.hy_terms.specs.Naming.{text_of}
use Rattle.hy_core.specs.Faults.{fault, IsGivenFunction, IsGivenModule, IsNode}
use Rattle.hy_core.specs.NameFaults.{ExportsMain, FitsArity, IsUnknownFunction}
use Rattle.hy_core.specs.Nodes.{Context, Node, is_nil_layer, names_of}
use Rattle.hy_core.specs.NodeParts.{atom_layer}
use Rattle.hy_core.specs.Resolve.{is_local}
use Rattle.hy_core.specs.declared.fault.Form.{Form}
use Rattle.hy_core.specs.declared.fault.LintFault.{LintFault}
use Rattle.hy_core.specs.declared.tree.Clause.{Clause}
use Rattle.hy_core.specs.declared.tree.Expr.{Expr}
use Rattle.hy_core.specs.declared.tree.Expr.TheOpen as layer
use Rattle.hy_core.specs.declared.tree.Expr.TheOpen.{Expr-F}
use Rattle.hy_core.specs.declared.tree.Expr.TheViews.{out-Expr}
use Rattle.hy_core.specs.declared.tree.FunName.{FunName}
use Rattle.hy_core.specs.declared.tree.Function.{Function}
use Rattle.hy_core.specs.declared.tree.Module.{Module}
use Rattle.hy_core.specs.declared.tree.Program.{Program}
use Rattle.core_names.specs.Called.{called}
use Rattle.core_names.specs.declared.built_in.BuiltIn.{BuiltIn}
use Rattle.core_names.specs.declared.built_in.BuiltIn.TheVariants.{Spawn}
use Rattle.core_lint.specs.code.Exports.{ExportTable, has_export}
use Rattle.core_walk.specs.Walk.{Forms, form_if}

-- a function that isn't there, or is there with another number of arguments or parameters
pub data IsUnknownOf (program : Program) : LintFault → Type 0 where
  other_arity : {i j : ℕ} {m : Module} {f : Function} → IsGivenFunction program i j m f
      → (FitsArity f → ⊥) → IsUnknownOf program (fault 6 i j 0)
  unknown_function : {i j k : ℕ} {m : Module} {n : Node} → IsNode program i j k m n
      → IsUnknownFunction program m n → IsUnknownOf program (fault 6 i j k)

-- the first module doesn't export 'main'/0
pub data IsMissingMain (program : Program) : LintFault → Type 0 where
  no_main : {m : Module} → IsGivenModule program 0 m → (ExportsMain m → ⊥)
      → IsMissingMain program (fault 6 0 (length m.functions) 0)

abbrev pub name_layer : Expr-F Expr Clause Function → Option FunName
name_layer (layer.Name f) = Some f
name_layer _ = None

-- how many elements a list that is written out has
abbrev pub written_length : Expr-F Expr Clause Function → Option ℕ
written_length layer.Nil = Some 0
written_length (layer.List site heads tail) =
    if is_nil_layer (out-Expr tail) then Some (length heads) else None
written_length _ = None

-- what is applied is a name that isn't there, or is there with another number of arguments
abbrev pub is_unknown_name : (locals defined : List FunName) → (arguments : ℕ)
    → Option FunName → Bool
is_unknown_name locals defined arguments None = false
is_unknown_name locals defined arguments (Some f) =
    not (is_local f locals || is_local f defined) || not (arguments == f.arity)

abbrev pub fits_arity : Function → Bool
fits_arity f = length f.params == f.name.arity

-- a definition has another number of parameters than its arity says
abbrev pub has_other_parameters : List Function → Bool
has_other_parameters [] = false
has_other_parameters (f ∷ fs) = not (fits_arity f) || has_other_parameters fs

module _ (table : ExportTable) (m : Module) where
  -- a function of this module and name isn't exported
  abbrev pub is_absent : (place name arity : ℕ) → Bool
  is_absent place name arity =
      not (has_export table (text_of m.atoms place) (text_of m.atoms name) arity)

  abbrev pub is_spawned_absent : (place name length : Option ℕ) → Bool
  is_spawned_absent (Some x) (Some y) (Some n) = is_absent x y n
  is_spawned_absent (Some x) (Some y) None = false
  is_spawned_absent (Some x) None n = false
  is_spawned_absent None y n = false

  -- the arguments of a spawn name a function that isn't exported
  abbrev pub spawns_unknown : List Expr → Bool
  spawns_unknown (x ∷ y ∷ list ∷ []) = is_spawned_absent (atom_layer (out-Expr x))
      (atom_layer (out-Expr y)) (written_length (out-Expr list))
  spawns_unknown [] = false
  spawns_unknown (x ∷ []) = false
  spawns_unknown (x ∷ y ∷ []) = false
  spawns_unknown (x ∷ y ∷ list ∷ z ∷ zs) = false

  -- a call of these atoms, which is this built-in or none
  abbrev pub is_unknown_call : (place name : ℕ) → List Expr → Option BuiltIn → Bool
  is_unknown_call place name args None = is_absent place name (length args)
  is_unknown_call place name args (Some Spawn) = spawns_unknown args
  is_unknown_call place name args (Some built_in) = false

  abbrev pub calls_unknown : (place name : Option ℕ) → List Expr → Bool
  calls_unknown (Some a) (Some b) args =
      is_unknown_call a b args (called m.atoms (Some a) (Some b) (length args))
  calls_unknown (Some a) None args = false
  calls_unknown None b args = false

  -- where the module defines these functions
  abbrev pub unknown_layer : List FunName → Context → Expr-F Expr Clause Function → Option Form
  unknown_layer defined c (layer.Apply what args) =
      form_if (is_unknown_name c.locals defined (length args) (name_layer (out-Expr what)))
  unknown_layer defined c (layer.Call x y args) =
      form_if (calls_unknown (atom_layer (out-Expr x)) (atom_layer (out-Expr y)) args)
  unknown_layer defined c (layer.Letrec functions body) = form_if (has_other_parameters functions)
  unknown_layer defined c _ = None

-- the check, where a program has these exports and its modules define these functions
abbrev pub unknown : ExportTable → (Module → List FunName) → Forms
unknown table defined = record {
  of_expr = λ m x c. unknown_layer table m (defined m) c (out-Expr x);
  of_patterns = λ ps. None;
  of_function = λ m j f. not (fits_arity f);
}

abbrev pub own_names : Module → List FunName
own_names m = names_of m.functions
