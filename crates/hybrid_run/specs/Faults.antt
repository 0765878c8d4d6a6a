-- The lines for faults. This project's own.
use Rattle.std.specs.Prelude.{◌≡◌, ◌⊎◌, ℕ, ◌<◌, List, [], ◌∷◌, ◌++◌, codes, slice_get, unwrap_or, Option, Some, None, Result, Ok, Err}
use Rattle.std.specs.Fmt.{decimal}
use Rattle.hy_core.specs.declared.fault.Form.{Form}
use Rattle.hy_core.specs.declared.fault.Form.TheVariants as form
use Rattle.hy_core.specs.declared.fault.LintFault.{LintFault}
use Rattle.hy_core.specs.declared.refusal.RefusalKind.{RefusalKind}
use Rattle.hy_core.specs.declared.refusal.RefusalKind.TheVariants as k
use Rattle.hybrid_run.specs.declared.fault.TopFault.{TopFault}
use Rattle.hybrid_run.specs.declared.fault.TopFault.TheVariants.{Usage, Read, Refused, Lint, NotBuilt, Write, Memory}

abbrev pub line : List ℕ → List ℕ
line text = text ++ 10 ∷ []

abbrev pub read_fault_text : List ℕ → List ℕ
read_fault_text name = codes "hyb: cannot read " ++ name ++ 10 ∷ []

-- a kind of refusal, by its name
abbrev pub kind_name : RefusalKind → List ℕ
kind_name k.BadToken = codes "BadToken"
kind_name k.Unexpected = codes "Unexpected"
kind_name k.Ended = codes "Ended"
kind_name k.NumberRange = codes "NumberRange"
kind_name k.TooDeep = codes "TooDeep"
kind_name k.TooLong = codes "TooLong"

abbrev pub refusal_text : List ℕ → RefusalKind → ℕ → List ℕ
refusal_text name kind place =
    codes "hyb: "
    ++ name
    ++ codes ": "
    ++ kind_name kind
    ++ codes " at "
    ++ decimal place
    ++ 10 ∷ []

-- a form, by its name
abbrev pub form_name : Form → List ℕ
form_name form.Absent = codes "none"
form_name form.Fun = codes "fun"
form_name form.Name = codes "name"
form_name form.Apply = codes "apply"
form_name form.Call = codes "call"
form_name form.Try = codes "try"
form_name form.Catch = codes "catch"
form_name form.Primop = codes "primop"
form_name form.Timeout = codes "timeout"
form_name form.Spawn = codes "spawn"
form_name form.Functions = codes "functions"
form_name form.Arity = codes "arity"
form_name form.Sites = codes "sites"
form_name form.Atoms = codes "atoms"

-- a fault of the program, which holds in the module of the file of this name
abbrev pub lint_text : List ℕ → LintFault → List ℕ
lint_text name fault =
    codes "hyb: "
    ++ name
    ++ codes ": fault "
    ++ decimal fault.kind
    ++ codes " function "
    ++ decimal fault.function
    ++ codes " node "
    ++ decimal fault.node
    ++ codes " "
    ++ form_name fault.form
    ++ 10 ∷ []

-- the refusal of a file's text
abbrev pub refused_at : ℕ → RefusalKind → ℕ → TopFault
refused_at file kind place = Refused file (record { kind = kind; place = place })

abbrev file_name : List (List ℕ) → ℕ → List ℕ
file_name files file = unwrap_or (slice_get files file) []

-- the line for a fault, given the file words
abbrev pub text_of_fault : TopFault → List (List ℕ) → List ℕ
text_of_fault Usage files = line (codes "hyb: usage")
text_of_fault (Read file) files = read_fault_text (file_name files file)
text_of_fault (Refused file refused) files =
    refusal_text (file_name files file) refused.kind refused.place
text_of_fault (Lint fault) files = lint_text (file_name files fault.«module») fault
text_of_fault NotBuilt files = line (codes "hyb: not built")
text_of_fault Write files = line (codes "hyb: write failed")
text_of_fault Memory files = line (codes "hyb: out of memory")

-- where the fault names a file, this holds of its place
abbrev pub IfNamesFile : TopFault → (ℕ → Type 0) → Type 0
IfNamesFile (Read file) Holds = Holds file
IfNamesFile (Refused file refused) Holds = Holds file
IfNamesFile (Lint fault) Holds = Holds fault.«module»
IfNamesFile _ Holds = Unit {0}

-- the file that the fault names is one of so many
abbrev pub IsOfFiles : TopFault → ℕ → Type 0
IsOfFiles fault count = IfNamesFile fault (λ file. file < count)

-- what may come while the output is written
abbrev pub IsOfOutput : TopFault → Type 0
IsOfOutput Write = Unit {0}
IsOfOutput Memory = Unit {0}
IsOfOutput _ = ⊥

-- the status of the program for a fault
abbrev pub status_of_fault : TopFault → ℕ
status_of_fault Usage = 2
status_of_fault (Refused file refused) = 3
status_of_fault (Lint fault) = 3
status_of_fault NotBuilt = 3
status_of_fault (Read file) = 6
status_of_fault Write = 7
status_of_fault Memory = 8

-- the status of an answer, and the fault in it
abbrev pub status_of_answer : Result ℕ TopFault → ℕ
status_of_answer (Ok status) = status
status_of_answer (Err fault) = status_of_fault fault

abbrev pub fault_of_answer : Result ℕ TopFault → Option TopFault
fault_of_answer (Ok status) = None
fault_of_answer (Err fault) = Some fault

-- before anything is written
abbrev pub IsSilent : TopFault → Type 0
IsSilent Usage = Unit {0}
IsSilent NotBuilt = Unit {0}
IsSilent (Refused file refused) = Unit {0}
IsSilent (Lint fault) = Unit {0}
IsSilent (Read file) = Unit {0}
IsSilent _ = ⊥

-- it is this fault, unless one of so many files can't be read or memory runs out
abbrev pub FailsWith : TopFault → ℕ → Option TopFault → Type 0
FailsWith fault count refused =
    (refused ≡ Some fault)
    ⊎ ((file : ℕ) × (file < count) × (refused ≡ Some (Read file)))
    ⊎ (refused ≡ Some Memory)
