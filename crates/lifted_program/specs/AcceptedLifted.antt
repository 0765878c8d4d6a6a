-- The lifted program of an accepted one runs as the program does. The law is the clause of a
-- function in the module `laws`.
use Rattle.std.specs.Prelude.{◌≡◌, ℕ, List, Some}
use Rattle.hy_terms.specs.Term.{Term}
use Rattle.hy_core.specs.FullRun.{IsFullRun, IsRun, main_of, names_of, trees_of}
use Rattle.hy_core.specs.Machine.{Process}
use Rattle.hy_core.specs.NameFaults.{modules_of}
use Rattle.hy_core.specs.Numbered.{numbered_program}
use Rattle.hy_core.specs.Tables.{program_atoms}
use Rattle.hy_core.specs.declared.end.Cause.{Cause}
use Rattle.hy_core.specs.declared.end.End.{End}
use Rattle.hy_core.specs.declared.step.Step.{Step}
use Rattle.hy_core.specs.declared.tree.Program.{Program}
use Rattle.core_accepted.specs.AcceptedPrograms.{OfAcceptedModules}
use Rattle.lifted_program.specs.Captured.{AreCaptured}
use Rattle.lifted_program.specs.LiftingLaws.{lifting_of}
use Rattle.lifted_program.specs.Renaming.{renamed_program}

-- a full run of the program's functions, renamed and lifted, from its first module's 'main'/0 on
pub record IsLiftedRun (program : Program) (limit : ℕ) (captured : ℕ → List ℕ) (calls : ℕ)
    (stopped : Process Term → Cause → Type 0) (steps : List Step) (ends : List End)
    (output : List ℕ) : Type 0 where
  pub main : ℕ
  pub is_main : main_of (names_of program) (modules_of (numbered_program program)) ≡ Some main
  pub run : IsFullRun (lifting_of limit captured (trees_of program)) (program_atoms program) calls
      stopped main steps ends output

-- the runs of a program are those of the lifted one, where each function of a letrec captures its
-- free variables
abbrev pub RunsAsLifted : (stopped : Process Term → Cause → Type 0) → Program → Type 0
RunsAsLifted stopped program =
    (limit : ℕ) (captured : ℕ → List ℕ)
    → AreCaptured (renamed_program limit (trees_of program)) captured
    → (calls : ℕ) (steps : List Step) (ends : List End) (output : List ℕ)
    → (IsRun program calls stopped steps ends output
    → IsLiftedRun program limit captured calls stopped steps ends output)
    × (IsLiftedRun program limit captured calls stopped steps ends output
    → IsRun program calls stopped steps ends output)

-- it holds of each accepted program in which at least one module is given
abbrev pub AcceptedProgramsRun : (stopped : Process Term → Cause → Type 0) → Type 0
AcceptedProgramsRun stopped = OfAcceptedModules (RunsAsLifted stopped)
