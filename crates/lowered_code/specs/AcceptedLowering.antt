-- What the code that lowering makes of an accepted program is. Each law is the clause of a function
-- in the module `laws`.
use Rattle.std.specs.Prelude.{ℕ, ◌<◌, List, length}
use Rattle.core_accepted.specs.AcceptedPrograms.{OfAccepted}
use Rattle.hy_core.specs.FullRun.{trees_of}
use Rattle.hy_core.specs.Numbered.{program_sites}
use Rattle.hy_core.specs.Tables.{program_atoms, program_functions}
use Rattle.hy_core.specs.declared.tree.Program.{Program}
use Rattle.hy_ir.specs.Code.{Code}
use Rattle.lifted_program.specs.Captured.{AreCaptured}
use Rattle.lifted_program.specs.LiftingLaws.{lifting_of}
use Rattle.lifted_program.specs.Renaming.{renamed_program}
use Rattle.program_code.specs.CodeLaws.{MeansAs}
use Rattle.program_code.specs.ProgramCode.{IsCodeOfProgram}
use Rattle.lowered_code.specs.LoweredCode.{lowered_code}
use Rattle.lowered_code.specs.LoweringLaws.{IsLowerable}

-- the code of what a program is lifted to, with the program's own tables
abbrev pub code_of_program : Program → (limit : ℕ) → (captured : ℕ → List ℕ) → Code
code_of_program program limit captured =
    lowered_code (program_sites program) (program_functions program) (program_atoms program)
    (lifting_of limit captured (trees_of program))

-- Where each function of a letrec captures its free variables, what a program is lifted to is
-- lowerable, the code is a code of the program, and it means what the program means.
pub record IsLowered (program : Program) (limit : ℕ) (captured : ℕ → List ℕ) : Type 0 where
  pub lowerable : IsLowerable (program_sites program)
      (lifting_of limit captured (trees_of program))
  pub code : IsCodeOfProgram program (code_of_program program limit captured)
  pub means : (f : ℕ) → f < length (trees_of program)
      → MeansAs (program_atoms program) (trees_of program)
      (code_of_program program limit captured) f

-- it holds of each accepted program
abbrev pub AcceptedProgramsAreLowered : Type 0
AcceptedProgramsAreLowered =
    OfAccepted (λ (program : Program). (limit : ℕ) (captured : ℕ → List ℕ)
    → AreCaptured (renamed_program limit (trees_of program)) captured
    → IsLowered program limit captured)
