-- The first fault that a check finds in the functions of the given modules, each function by itself
-- and then its nodes.
use Rattle.std.specs.Prelude.{◌≡◌, ℕ, suc, true, if◌then◌else◌, List, [], ◌∷◌, Option, Some, None}
use Rattle.hy_core.specs.Faults.{fault, fault_of, IsFault, IsGivenFunction, IsNode, IsUpTo, order_of}
use Rattle.hy_core.specs.Nodes.{Node, nodes_of}
use Rattle.hy_core.specs.declared.fault.Form.{Form}
use Rattle.hy_core.specs.declared.fault.Form.TheVariants.{Absent}
use Rattle.hy_core.specs.declared.fault.LintFault.{LintFault}
use Rattle.hy_core.specs.declared.tree.Function.{Function}
use Rattle.hy_core.specs.declared.tree.Module.{Module}
use Rattle.hy_core.specs.declared.tree.Program.{Program}
use Rattle.core_walk.specs.Walk.{Forms, Outcome, Passed, Fails, form_at, walked}
use Rattle.core_walk.specs.declared.position.Position.{Position}
use Rattle.core_walk.specs.declared.stop.Found.{Found}

-- nothing is bound
abbrev pub IsOutside : Position → Type 0
IsOutside at = (at.scope ≡ []) × (at.locals ≡ [])

-- what comes of looking at a function
abbrev pub function_outcome : Forms → Module → (place : ℕ) → Function → Outcome
function_outcome forms m place f =
    if forms.of_function m place f then Fails 0 Absent else walked (form_at forms m) (nodes_of f) 0

-- an answer tells of an outcome
abbrev pub Tells : Option Found → Outcome → Type 0
Tells None outcome = (next : ℕ) × (outcome ≡ Passed next)
Tells (Some found) outcome = outcome ≡ Fails found.node found.form

abbrev pub fault_or : (kind i j : ℕ) → Outcome → Option LintFault → Option LintFault
fault_or kind i j (Passed next) later = later
fault_or kind i j (Fails k form) later = Some (fault_of kind i j k form)

-- the first fault in functions of the module at place i, from place j on
abbrev pub first_in_functions : Forms → (kind i : ℕ) → Module → (j : ℕ) → List Function
    → Option LintFault
first_in_functions forms kind i m j [] = None
first_in_functions forms kind i m j (f ∷ fs) =
    fault_or kind i j (function_outcome forms m j f) (first_in_functions forms kind i m (suc j) fs)

abbrev pub or_later : Option LintFault → Option LintFault → Option LintFault
or_later None later = later
or_later (Some fault) later = Some fault

-- the first fault in modules, from place i on
abbrev pub first_in_modules : Forms → (kind i : ℕ) → List Module → Option LintFault
first_in_modules forms kind i [] = None
first_in_modules forms kind i (m ∷ ms) = or_later (first_in_functions forms kind i m 0 m.functions)
    (first_in_modules forms kind (suc i) ms)

-- what a check shows in the given modules of a program
pub data IsShown (forms : Forms) (program : Program) (kind : ℕ) : LintFault → Type 0 where
  by_function : {i j : ℕ} {m : Module} {f : Function} → IsGivenFunction program i j m f
      → forms.of_function m j f ≡ true → IsShown forms program kind (fault kind i j 0)
  by_node : {i j k : ℕ} {m : Module} {n : Node} {form : Form} → IsNode program i j k m n
      → form_at forms m n ≡ Some form → IsShown forms program kind (fault_of kind i j k form)

-- the answer is the first fault that holds, or there is none
abbrev pub IsFirst : (LintFault → Type 0) → Option LintFault → Type 0
IsFirst Holds None = (fault : LintFault) → Holds fault → ⊥
IsFirst Holds (Some fault) =
    Holds fault × ((other : LintFault) → Holds other → IsUpTo (order_of fault) (order_of other))

-- a fault of this kind holds
pub record IsFaultOf (program : Program) (kind : ℕ) (fault : LintFault) : Type 0 where
  pub holds : IsFault program fault
  pub of_kind : fault.kind ≡ kind
