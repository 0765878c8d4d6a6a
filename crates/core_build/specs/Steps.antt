-- What the parts of the machine answer.
use Rattle.std.specs.Prelude.{◌≡◌, List, Option, Some, None, Result, Ok, Err}
use Rattle.hy_core.specs.declared.refusal.RefusalKind.TheVariants.{Unexpected}
use Rattle.core_build.specs.declared.fault.StepFault.{StepFault}
use Rattle.core_build.specs.declared.fault.StepFault.TheVariants as steps
use Rattle.core_build.specs.declared.value.Value.{Value}
use Rattle.core_build.specs.Tops.{Top}

-- want of memory, or an unexpected token where there is none
abbrev pub IsFault : StepFault → Type 0 → Type 0
IsFault steps.Memory none = Unit {0}
IsFault (steps.Refused kind) none = (kind ≡ Unexpected) × none

-- what is left where there is such, and an unexpected token where there is none, or want of memory
abbrev pub GivesWhere : {A B : Type 0} → Result A StepFault → B → Option B → Type 0
GivesWhere (Ok _) r o = o ≡ Some r
GivesWhere (Err fault) r o = IsFault fault (o ≡ None)

-- the value on top and those below it, where it is of the kind, and else an unexpected token
abbrev pub GivesTop : {A : Type 0} → Result A StepFault → List Value → Top A → Type 0
GivesTop (Ok x) vs o = o ≡ Some (x, vs)
GivesTop (Err fault) vs o = (fault ≡ steps.Refused Unexpected) × (o ≡ None)
