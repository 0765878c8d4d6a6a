-- When a code is the code of a program. This project's own.
use Rattle.std.specs.Prelude.{◌≡◌, ℕ, suc, ◌==◌, List, [], ◌∷◌, ◌++◌, length, Some, None}
use Rattle.std.specs.List.{IsDistinct}
use Rattle.hy_core.specs.declared.tree.Program.{Program}
use Rattle.hy_core.specs.FullRun.{trees_of}
use Rattle.hy_core.specs.Numbered.{program_sites}
use Rattle.hy_core.specs.Resolved.{FunctionTree}
use Rattle.hy_core.specs.Tables.{program_atoms, program_functions}
use Rattle.hy_core.specs.declared.info.SiteInfo.{SiteInfo}
use Rattle.hy_ir.specs.Code.{Code, Function, Last, MakeTree, Parts}
use Rattle.lifted_program.specs.Captured.{AreCaptured}
use Rattle.lifted_program.specs.LiftingLaws.{lifting_of}
use Rattle.lifted_program.specs.Renaming.{renamed_program}
use Rattle.program_code.specs.ExpressionCode.{WholeOf}
use Rattle.program_code.specs.HeldRegisters.{Held, holding}
use Rattle.program_code.specs.WrittenRegisters.{tree_writes}

-- the registers of parameters: from a first one on
abbrev pub parameter_registers : (first : ℕ) → (parameters : List ℕ) → List ℕ
parameter_registers r [] = []
parameter_registers r (x ∷ xs) = r ∷ parameter_registers (suc r) xs

-- The function carries the other one out, with its parameters in the registers from 0, and no
-- register is written at two places.
pub record IsFunctionOf (sites : List SiteInfo) (of : FunctionTree) (f : Function) : Type 0 where
  pub params : f.params ≡ length of.parameters
  pub held : Held
  pub holds : holding of.parameters (parameter_registers 0 of.parameters) [] ≡ Some held
  pub parts : Parts
  pub last : Last
  pub body : f.body ≡ MakeTree parts last
  pub carries_out : WholeOf sites held None of.body parts last
  pub once : IsDistinct ◌==◌ (parameter_registers 0 of.parameters ++ tree_writes f.body)

-- as many functions, in the same order
abbrev pub AreFunctionsOf : List SiteInfo → List FunctionTree → List Function → Type 0
AreFunctionsOf sites [] [] = Unit {0}
AreFunctionsOf sites [] (f ∷ fs) = ⊥
AreFunctionsOf sites (of ∷ ofs) [] = ⊥
AreFunctionsOf sites (of ∷ ofs) (f ∷ fs) = IsFunctionOf sites of f × AreFunctionsOf sites ofs fs

-- the code of a lifted program: of its functions, by their numbers
abbrev pub IsCode : (lifted : List FunctionTree) → Code → Type 0
IsCode lifted code = AreFunctionsOf code.sites lifted code.functions

-- The code of a program: of what it is lifted to, with the program's own sites, names of functions
-- and atoms. Names from the limit on are new, and each function of a letrec captures its free
-- variables.
pub record IsCodeOfProgram (program : Program) (code : Code) : Type 0 where
  pub limit : ℕ
  pub captured : (function : ℕ) → List ℕ
  pub free : AreCaptured (renamed_program limit (trees_of program)) captured
  pub functions : IsCode (lifting_of limit captured (trees_of program)) code
  pub sites : code.sites ≡ program_sites program
  pub names : code.names ≡ program_functions program
  pub atoms : code.atoms ≡ program_atoms program
