-- What the end of the program says where the texts of the files are told. All of it follows from
-- what it says of each command, since a text has one tree or one refusal. This project's own.
use Rattle.std.specs.Prelude.{◌≡◌, ◌⊎◌, ℕ, ◌+◌, List, [], ◌∷◌, length, Contains, Some}
use Rattle.hy_core.specs.Faults.{IsAccepted, IsLeastFault}
use Rattle.hy_core.specs.declared.fault.LintFault.{LintFault}
use Rattle.hy_core.specs.declared.refusal.RefusalKind.{RefusalKind}
use Rattle.hy_core.specs.declared.tree.Module.{Module}
use Rattle.outside.specs.Outside.{Rises}
use Rattle.hybrid_run.specs.Faults.{FailsWith, refused_at}
use Rattle.hy_core.specs.PreludeModules.{with_prelude}
use Rattle.hybrid_run.specs.Headline.{Done, Cut, IsBuiltFor, IsDoneStatus, Sunk}
use Rattle.hybrid_run.specs.Loading.{Told, AreTold, AreRead, IsFirstRefused, IsRefusedWhereTold, Sourced}
use Rattle.hybrid_run.specs.declared.command.Mode.{Mode}
use Rattle.hybrid_run.specs.declared.fault.TopFault.TheVariants as f
use Rattle.hybrid_run.specs.declared.top.Finish.{Finish}

-- the files have modules, whose program is accepted and for which the mode is built
abbrev pub HasProgram : Mode → Told → List (List ℕ) → Type 0
HasProgram mode told files =
    (zs : List Module) × AreRead told files zs × IsAccepted (with_prelude zs) × IsBuiltFor mode zs

-- the files have modules, whose program is accepted, and the mode isn't built for them
abbrev pub HasOtherProgram : Mode → Told → List (List ℕ) → Type 0
HasOtherProgram mode told files =
    (zs : List Module)
    × AreRead told files zs
    × IsAccepted (with_prelude zs)
    × (IsBuiltFor mode zs → ⊥)

-- the files have modules, and this is the least fault of their program
abbrev pub HasFault : Told → List (List ℕ) → LintFault → Type 0
HasFault told files fault =
    (zs : List Module) × AreRead told files zs × IsLeastFault (with_prelude zs) fault

-- the mode began to write: status 0, 1 or 7
abbrev pub HasWritten : ℕ → Type 0
HasWritten status = IsDoneStatus status ⊎ (status ≡ 7)

-- no source has failed for one of the files
abbrev pub CanRead : Sourced → List (List ℕ) → Type 0
CanRead sources files =
    (name : List ℕ) → Contains files name → Rises (sources.old name) (sources.new name) → ⊥

-- What is answered for files whose texts are told, where nothing outside fails: the mode comes to
-- its end where it is built for their modules, and isn't built for others that are accepted; the
-- least fault of their program is told; the first text that is no module is refused; or memory runs
-- out.
pub record IsAnswered (mode : Mode) (told : Told) (files : List (List ℕ)) (finish : Finish)
    : Type 0 where
  pub does : HasProgram mode told files → Contains (0 ∷ 1 ∷ 8 ∷ []) finish.status
  pub not_built : HasOtherProgram mode told files
      → Contains (Some f.NotBuilt ∷ Some f.Memory ∷ []) finish.refused
  pub faulty : (fault : LintFault) → HasFault told files fault
      → Contains (Some (f.Lint fault) ∷ Some f.Memory ∷ []) finish.refused
  pub source : (file : ℕ) (kind : RefusalKind) (place : ℕ)
      → IsFirstRefused told files file kind place
      → Contains (Some (refused_at file kind place) ∷ Some f.Memory ∷ []) finish.refused

-- What is answered to a mode for files whose texts are told. It follows.
pub record AnswersTold (mode : Mode) (files : List (List ℕ)) (sources : Sourced) (sink : Sunk)
    (finish : Finish) : Type 0 where
  -- what was written is what the mode writes for the modules of the files, or a first part of it
  pub done : (zs : List Module) → AreRead sources.told files zs → IsDoneStatus finish.status
      → Done mode zs sink finish.status
  pub cut : (zs : List Module) → AreRead sources.told files zs → finish.status ≡ 7
      → Cut mode zs sink
  pub accepted : AreTold sources.told files → HasWritten finish.status
      → HasProgram mode sources.told files
  -- nothing is done for other files, and status 3 comes for no others
  pub refuses : AreTold sources.told files → (HasProgram mode sources.told files → ⊥)
      → Contains (3 ∷ 6 ∷ 8 ∷ []) finish.status
  pub refuses_only : finish.status ≡ 3 → HasProgram mode sources.told files → ⊥
  -- the least fault is answered, or a file can't be read, or memory runs out; and no other fault is
  pub faulty : (fault : LintFault) → HasFault sources.told files fault
      → FailsWith (f.Lint fault) (length files) finish.refused
  pub faulty_only : (fault : LintFault) → AreTold sources.told files
      → finish.refused ≡ Some (f.Lint fault) → HasFault sources.told files fault
  -- likewise for an accepted program for which the mode isn't built
  pub not_built : HasOtherProgram mode sources.told files
      → FailsWith f.NotBuilt (length files) finish.refused
  pub not_built_only : AreTold sources.told files → finish.refused ≡ Some f.NotBuilt
      → HasOtherProgram mode sources.told files
  -- and for the first text that is no module
  pub source : (file : ℕ) (kind : RefusalKind) (place : ℕ)
      → IsFirstRefused sources.told files file kind place
      → FailsWith (refused_at file kind place) (file + 1) finish.refused
  pub source_only : (file : ℕ) (kind : RefusalKind) (place : ℕ)
      → finish.refused ≡ Some (refused_at file kind place)
      → IsRefusedWhereTold sources.told files file kind place
  -- where nothing outside fails each program is answered as it is, or memory runs out
  pub complete : AreTold sources.told files → CanRead sources files → (Rises sink.old sink.new → ⊥)
      → IsAnswered mode sources.told files finish
