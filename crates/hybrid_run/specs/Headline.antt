-- What the program does with the modules of its files: the full run of their program on the copying
-- machine, and the texts of mode `check`. This project's own.
use Rattle.std.specs.Prelude.{◌≡◌, ℕ, ◌<◌, ◌^◌, List, [], ◌∷◌, ◌++◌, map, Option, Some, None, IfSome}
use Rattle.hybrid_run.specs.Built.{IsBuiltModule}
use Rattle.hy_core.specs.FullRun.{NeverStopped, IsRun}
use Rattle.hy_core.specs.Canonical.{canonical_text, one_after_another}
use Rattle.hy_core.specs.Faults.{IsAccepted, IsLeastFault}
use Rattle.hy_core.specs.PreludeModules.{with_prelude}
use Rattle.hy_core.specs.declared.end.End.{End}
use Rattle.hy_core.specs.declared.end.End.TheVariants.{Ended, Raised, Waits, Stopped}
use Rattle.hy_core.specs.declared.fault.LintFault.{LintFault}
use Rattle.hy_core.specs.declared.step.Step.{Step}
use Rattle.hy_core.specs.declared.tree.Module.{Module}
use Rattle.hybrid_run.specs.Arithmetic.{end_of, output_of}
use Rattle.hybrid_run.specs.declared.command.Mode.{Mode}
use Rattle.hybrid_run.specs.declared.command.Mode.TheVariants as m
use Rattle.hybrid_run.specs.declared.fault.TopFault.{TopFault}
use Rattle.hybrid_run.specs.declared.fault.TopFault.TheVariants as f
use Rattle.hybrid_run.specs.declared.value.Ending.{Ending}
use Rattle.hybrid_run.specs.declared.value.Value.{Value}
use Rattle.outside.specs.Outside.{Appends, AppendsPrefix, Rises}

-- the calls of a process
abbrev pub calls_limit : ℕ
calls_limit = 10 ^ 7

-- the steps are a full run of the program of these modules, with these ends and this output
abbrev pub IsProgramRun : List Module → List Step → List End → List ℕ → Type 0
IsProgramRun zs steps ends output =
    IsRun (with_prelude zs) calls_limit NeverStopped steps ends output

-- its first process displays these values and ends so, and there is no other
abbrev pub HasRun : List Module → List Value → Ending → Type 0
HasRun zs values ending =
    (steps : List Step) × IsProgramRun zs steps (end_of ending ∷ []) (output_of values ending)

-- the status of the program for the end of its first process
abbrev pub status_of_end : End → ℕ
status_of_end (Ended text) = 0
status_of_end (Raised class text) = 1
status_of_end Waits = 4
status_of_end (Stopped cause) = 5

-- the canonical texts of modules, in order
abbrev pub canonical_texts : List Module → List ℕ
canonical_texts zs = one_after_another (map canonical_text zs)

-- What a mode writes for the modules of the files, and its status: the output of a full run of
-- their program, where the end of the first process gives the status; or the canonical texts.
pub data Writes : Mode → List Module → List ℕ → ℕ → Type 0 where
  run : {zs : List Module} {steps : List Step} {end : End} {ends : List End} {output : List ℕ}
      → IsProgramRun zs steps (end ∷ ends) output → Writes m.Run zs output (status_of_end end)
  check : {zs : List Module} → Writes m.Check zs (canonical_texts zs) 0

-- A mode is built for these modules: one module of the six forms is run, and all are printed.
abbrev pub IsBuiltFor : Mode → List Module → Type 0
IsBuiltFor m.Run (z ∷ []) = IsBuiltModule z
IsBuiltFor m.Run _ = ⊥
IsBuiltFor m.Check zs = Unit {0}

-- what the sink held, where it tells that, and how often it had failed, before and after
pub record Sunk : Type 0 where
  pub before : Option (List ℕ)
  pub now : Option (List ℕ)
  pub old : ℕ
  pub new : ℕ

abbrev pub sunk : Option (List ℕ) → Option (List ℕ) → ℕ → ℕ → Sunk
sunk before now old new = record { before = before; now = now; old = old; new = new }

-- what the sink held is at the front of what it holds
abbrev pub Keeps : Option (List ℕ) → Option (List ℕ) → Type 0
Keeps before now = IfSome before (λ old. (more : List ℕ) × (now ≡ Some (old ++ more)))

-- Status 0 or 1: the program of these modules is accepted, the mode is built for it, and what the
-- mode writes, with this status, is what was written.
pub record Done (mode : Mode) (zs : List Module) (sink : Sunk) (status : ℕ) : Type 0 where
  pub accepted : IsAccepted (with_prelude zs)
  pub built : IsBuiltFor mode zs
  pub output : List ℕ
  pub writes : Writes mode zs output status
  pub written : Appends sink.before sink.now output

-- Status 7: the same, but a first part of it was written, and then the sink failed.
pub record Cut (mode : Mode) (zs : List Module) (sink : Sunk) : Type 0 where
  pub accepted : IsAccepted (with_prelude zs)
  pub built : IsBuiltFor mode zs
  pub output : List ℕ
  pub status : ℕ
  pub writes : Writes mode zs output status
  pub written : AppendsPrefix sink.before sink.now output
  pub failed : Rises sink.old sink.new

-- The program of these modules has this as its least fault.
pub record Faulty (zs : List Module) (fault : LintFault) : Type 0 where
  pub least : IsLeastFault (with_prelude zs) fault

-- The program of these modules is accepted, and the mode isn't built for it.
pub record Unbuilt (mode : Mode) (zs : List Module) : Type 0 where
  pub accepted : IsAccepted (with_prelude zs)
  pub not_built : IsBuiltFor mode zs → ⊥

-- what the end of the program says of the modules of its files, which were read
abbrev pub SaysOfModules : Mode → List Module → Sunk → (status : ℕ) → Option TopFault → Type 0
SaysOfModules mode zs sink status None = Done mode zs sink status
SaysOfModules mode zs sink status (Some f.Write) = Cut mode zs sink
SaysOfModules mode zs sink status (Some (f.Lint fault)) = Faulty zs fault
SaysOfModules mode zs sink status (Some f.NotBuilt) = Unbuilt mode zs
SaysOfModules mode zs sink status (Some f.Memory) = Unit {0}
SaysOfModules mode zs sink status _ = ⊥

-- why the linter's step stops
abbrev pub StopsLinting : List Module → TopFault → Type 0
StopsLinting zs (f.Lint fault) = Faulty zs fault
StopsLinting zs f.Memory = Unit {0}
StopsLinting zs _ = ⊥

-- all is written: the first process ended or raised, or mode `check` came to its end
abbrev pub IsDoneStatus : ℕ → Type 0
IsDoneStatus status = status < 2
