-- The faults of a program, with the place at which each holds; the least of them; and what an
-- accepted program is. Kinds, places and limits are this project's own.
use Rattle.std.specs.Prelude.{◌≡◌, ℕ, ◌<◌, ◌^◌, List, [], ◌∷◌, Some, length, Contains, slice_get}
use Rattle.hy_core.specs.NameFaults.{modules_of, RepeatsModule, RepeatsFunction, RepeatsDefinition, IsUndefined, IsUnknownFunction, FitsArity, ExportsMain}
use Rattle.hy_core.specs.NodeFaults.{Repeats, IsUnbound, RepeatsVariable, IsForbiddenForm, HasWrongValues, IsForbiddenInGuard}
use Rattle.hy_core.specs.Nodes.{Node, nodes_of}
use Rattle.hy_core.specs.Numbered.{program_sites}
use Rattle.hy_core.specs.Tables.{program_atoms, program_functions, local_functions}
use Rattle.hy_core.specs.declared.fault.Form.{Form}
use Rattle.hy_core.specs.declared.fault.Form.TheVariants as form
use Rattle.hy_core.specs.declared.fault.LintFault.{LintFault}
use Rattle.hy_core.specs.declared.tree.FunName.{FunName}
use Rattle.hy_core.specs.declared.tree.Function.{Function}
use Rattle.hy_core.specs.declared.tree.Module.{Module}
use Rattle.hy_core.specs.declared.tree.Program.{Program}

abbrev pub fault_of : (kind place function node : ℕ) → Form → LintFault
fault_of kind place function node form =
    record { kind = kind; «module» = place; function = function; node = node; form = form }

abbrev pub fault : (kind place function node : ℕ) → LintFault
fault kind place function node = fault_of kind place function node form.Absent

-- a definition of the module: one of its functions, or a function of a letrec in one
pub data Defines (m : Module) : Function → Type 0 where
  top : {f : Function} → Contains m.functions f → Defines m f
  local : {f g : Function} → Contains m.functions f → Contains (local_functions f) g → Defines m g

-- a size of a program that is too great
pub data IsTooGreat (program : Program) : Form → Type 0 where
  functions : 65535 < length (program_functions program) → IsTooGreat program form.Functions
  arity : {m : Module} {f : Function} → Contains (modules_of program) m → Defines m f
      → 255 < f.name.arity → IsTooGreat program form.Arity
  sites : 2 ^ 20 < length (program_sites program) → IsTooGreat program form.Sites
  atoms : 2 ^ 20 < length (program_atoms program) → IsTooGreat program form.Atoms

-- this module stands among the given ones at place i
abbrev pub IsGivenModule : Program → (i : ℕ) → Module → Type 0
IsGivenModule program i m = slice_get program.given i ≡ Some m

-- this function is the one at place j of the given module at place i
pub record IsGivenFunction (program : Program) (i j : ℕ) (m : Module) (f : Function) : Type 0 where
  pub given : IsGivenModule program i m
  pub defined : slice_get m.functions j ≡ Some f

-- this is node k of that function
pub record IsNode (program : Program) (i j k : ℕ) (m : Module) (n : Node) : Type 0 where
  pub f : Function
  pub around : IsGivenFunction program i j m f
  pub stands : slice_get (nodes_of f) k ≡ Some n

-- A fault that holds of the given modules, with those of the prelude beside them.
pub data IsFault (program : Program) : LintFault → Type 0 where
  repeated_module : {i : ℕ} {m : Module} → IsGivenModule program i m → RepeatsModule program i m
      → IsFault program (fault 1 i 0 0)
  repeated_function : {i j : ℕ} {m : Module} {f : Function} → IsGivenFunction program i j m f
      → RepeatsFunction m j f → IsFault program (fault 2 i j 0)
  repeated_definition : {i j k : ℕ} {m : Module} {n : Node} → IsNode program i j k m n
      → RepeatsDefinition n → IsFault program (fault 2 i j k)
  undefined_export : {i k : ℕ} {m : Module} {f : FunName} → IsGivenModule program i m
      → slice_get m.exports k ≡ Some f → IsUndefined m f → IsFault program (fault 3 i 0 k)
  unbound_variable : {i j k : ℕ} {m : Module} {n : Node} → IsNode program i j k m n → IsUnbound n
      → IsFault program (fault 4 i j k)
  repeated_parameter : {i j : ℕ} {m : Module} {f : Function} → IsGivenFunction program i j m f
      → Repeats f.params → IsFault program (fault 5 i j 0)
  repeated_variable : {i j k : ℕ} {m : Module} {n : Node} → IsNode program i j k m n
      → RepeatsVariable n → IsFault program (fault 5 i j k)
  other_arity : {i j : ℕ} {m : Module} {f : Function} → IsGivenFunction program i j m f
      → (FitsArity f → ⊥) → IsFault program (fault 6 i j 0)
  unknown_function : {i j k : ℕ} {m : Module} {n : Node} → IsNode program i j k m n
      → IsUnknownFunction program m n → IsFault program (fault 6 i j k)
  no_main : {m : Module} → IsGivenModule program 0 m → (ExportsMain m → ⊥)
      → IsFault program (fault 6 0 (length m.functions) 0)
  forbidden_form : {i j k : ℕ} {m : Module} {n : Node} {form : Form} → IsNode program i j k m n
      → IsForbiddenForm m n form → IsFault program (fault_of 7 i j k form)
  wrong_values : {i j k : ℕ} {m : Module} {n : Node} → IsNode program i j k m n → HasWrongValues m n
      → IsFault program (fault 8 i j k)
  forbidden_in_guard : {i j k : ℕ} {m : Module} {n : Node} → IsNode program i j k m n
      → IsForbiddenInGuard m n → IsFault program (fault 9 i j k)
  too_great : {form : Form} → IsTooGreat program form → IsFault program (fault_of 10 0 0 0 form)

-- the place of a form in the order in which forms are reported
abbrev pub form_place : Form → ℕ
form_place form.Absent = 0
form_place form.Fun = 1
form_place form.Name = 2
form_place form.Apply = 3
form_place form.Call = 4
form_place form.Try = 5
form_place form.Catch = 6
form_place form.Primop = 7
form_place form.Timeout = 8
form_place form.Spawn = 9
form_place form.Functions = 10
form_place form.Arity = 11
form_place form.Sites = 12
form_place form.Atoms = 13

-- lists of numbers in the order of a dictionary
pub data IsUpTo : List ℕ → List ℕ → Type 0 where
  at_end : {xs : List ℕ} → IsUpTo [] xs
  lower : {x y : ℕ} {xs ys : List ℕ} → x < y → IsUpTo (x ∷ xs) (y ∷ ys)
  same : {x : ℕ} {xs ys : List ℕ} → IsUpTo xs ys → IsUpTo (x ∷ xs) (x ∷ ys)

-- faults go by kind, then by module, function and node, then by form
abbrev pub order_of : LintFault → List ℕ
order_of f = f.kind ∷ f.«module» ∷ f.function ∷ f.node ∷ form_place f.form ∷ []

-- a fault that holds, before which no other does
pub record IsLeastFault (program : Program) (fault : LintFault) : Type 0 where
  pub holds : IsFault program fault
  pub least : (other : LintFault) → IsFault program other → IsUpTo (order_of fault) (order_of other)

-- a program without a fault
abbrev pub IsAccepted : Program → Type 0
IsAccepted program = (fault : LintFault) → IsFault program fault → ⊥
