-- What the texts of the files are, where the sources tell them. This project's own.
use Rattle.std.specs.Prelude.{◌≡◌, ℕ, List, take, slice_get, Option, Some}
use Rattle.std.specs.List.{AllByRecursion, AllZip}
use Rattle.hy_core.specs.Reading.{IsModuleText}
use Rattle.hy_core.specs.Refusals.{IsRefusedText}
use Rattle.hy_core.specs.declared.refusal.RefusalKind.{RefusalKind}
use Rattle.hy_core.specs.declared.tree.Module.{Module}
use Rattle.outside.specs.Outside.{Rises}
use Rattle.hybrid_run.specs.declared.fault.TopFault.{TopFault}
use Rattle.hybrid_run.specs.declared.fault.TopFault.TheVariants.{Read, Refused, Memory}

-- the text of each name, where the sources tell it
abbrev pub Told : Type 0
Told = List ℕ → Option (List ℕ)

-- the text of each file is told
abbrev pub AreTold : Told → List (List ℕ) → Type 0
AreTold told files = AllByRecursion (λ file. (text : List ℕ) × (told file ≡ Some text)) files

-- the text of the file is told, and is the module of this tree
abbrev pub IsRead : Told → List ℕ → Module → Type 0
IsRead told file z = (text : List ℕ) × (told file ≡ Some text) × IsModuleText text z

-- the texts of the files are told, and are the modules of these trees
abbrev pub AreRead : Told → List (List ℕ) → List Module → Type 0
AreRead told files zs = AllZip (IsRead told) files zs

-- where a text of the file is told, it is this one
abbrev pub IsTextWhereTold : Told → List ℕ → List ℕ → Type 0
IsTextWhereTold told file text = (whole : List ℕ) → told file ≡ Some whole → whole ≡ text

-- a text, that of the file where one is told, is the module of this tree
abbrev pub IsReadWhereTold : Told → List ℕ → Module → Type 0
IsReadWhereTold told file z = (text : List ℕ) × IsTextWhereTold told file text × IsModuleText text z

-- one tree for each file, read of a text that is the file's where one is told
abbrev pub AreReadWhereTold : Told → List (List ℕ) → List Module → Type 0
AreReadWhereTold told files zs = AllZip (IsReadWhereTold told) files zs

-- each of the files before the one at this place is a module
abbrev pub AreModulesBefore : Told → List (List ℕ) → ℕ → Type 0
AreModulesBefore told files place =
    AllByRecursion (λ file. (z : Module) × IsRead told file z) (take place files)

-- each of them was read, and is a module
abbrev pub PassBefore : Told → List (List ℕ) → ℕ → Type 0
PassBefore told files place =
    AllByRecursion (λ file. (z : Module) × IsReadWhereTold told file z) (take place files)

-- the text of the file at this place, where it is told, is refused so
abbrev pub IsRefusedWhereTold : Told → List (List ℕ) → ℕ → RefusalKind → ℕ → Type 0
IsRefusedWhereTold told files place kind at =
    (file text : List ℕ) → slice_get files place ≡ Some file → told file ≡ Some text
    → IsRefusedText text kind at

-- the file at this place is the first whose text is no module, and is refused so
pub record IsFirstRefused (told : Told) (files : List (List ℕ)) (place : ℕ)
    (kind : RefusalKind) (at : ℕ) : Type 0 where
  pub file : List ℕ
  pub text : List ℕ
  pub stands : slice_get files place ≡ Some file
  pub tells : told file ≡ Some text
  pub refused : IsRefusedText text kind at
  pub before : AreModulesBefore told files place

-- what the sources tell, and how often each name had failed before, and after
pub record Sourced : Type 0 where
  pub told : Told
  pub old : List ℕ → ℕ
  pub new : List ℕ → ℕ

abbrev pub sourced : Told → (List ℕ → ℕ) → (List ℕ → ℕ) → Sourced
sourced told old new = record { told = told; old = old; new = new }

-- A text of this name, the name's where one is told, is refused so.
pub record IsRefusedAs (told : Told) (name : List ℕ) (kind : RefusalKind) (at : ℕ) : Type 0 where
  pub text : List ℕ
  pub is_text : IsTextWhereTold told name text
  pub refused : IsRefusedText text kind at

-- The file at this place is no module, and is refused so; those before it are modules.
pub record RefusedText (sources : Sourced) (files : List (List ℕ)) (file : ℕ)
    (kind : RefusalKind) (at : ℕ) : Type 0 where
  pub name : List ℕ
  pub stands : slice_get files file ≡ Some name
  pub refused : IsRefusedAs sources.told name kind at
  pub before : PassBefore sources.told files file

-- The file at this place can't be read, and those before it are modules.
pub record UnreadText (sources : Sourced) (files : List (List ℕ)) (file : ℕ) : Type 0 where
  pub name : List ℕ
  pub stands : slice_get files file ≡ Some name
  pub failed : Rises (sources.old name) (sources.new name)
  pub before : PassBefore sources.told files file

-- why files aren't read
abbrev pub StopsLoading : Sourced → List (List ℕ) → TopFault → Type 0
StopsLoading sources files (Read file) = UnreadText sources files file
StopsLoading sources files (Refused file refused) =
    RefusedText sources files file refused.kind refused.place
StopsLoading sources files Memory = Unit {0}
StopsLoading sources files _ = ⊥

-- why the file of this name, at this place, isn't read
abbrev pub StopsAt : Sourced → ℕ → List ℕ → TopFault → Type 0
StopsAt sources place name (Read file) =
    (file ≡ place) × Rises (sources.old name) (sources.new name)
StopsAt sources place name (Refused file refused) =
    (file ≡ place) × IsRefusedAs sources.told name refused.kind refused.place
StopsAt sources place name Memory = Unit {0}
StopsAt sources place name _ = ⊥

-- why this text, of the file at this place, isn't a module
abbrev pub StopsParsing : List ℕ → ℕ → TopFault → Type 0
StopsParsing text place (Refused file refused) =
    (file ≡ place) × IsRefusedText text refused.kind refused.place
StopsParsing text place Memory = Unit {0}
StopsParsing text place _ = ⊥
