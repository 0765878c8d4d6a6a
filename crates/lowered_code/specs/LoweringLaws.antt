-- What the code that lowering makes is. Each law is the clause of a function in the module `laws`.
use Rattle.std.specs.Prelude.{◌≡◌, ℕ, List, ◌++◌, Some}
use Rattle.std.specs.List.{All}
use Rattle.core_accepted.specs.TreeSites.{Site, program_tree_sites}
use Rattle.hy_core.specs.KnownTrees.{TreesAreKnown}
use Rattle.hy_core.specs.Resolved.{FunctionTree}
use Rattle.hy_core.specs.declared.info.FunInfo.{FunInfo}
use Rattle.hy_core.specs.declared.info.SiteInfo.{SiteInfo}
use Rattle.hy_ir.specs.Code.{Function}
use Rattle.hy_ir.specs.Meaning.{kind_at}
use Rattle.hy_ir.specs.Valid.{IsValid}
use Rattle.lifted_program.specs.Flat.{IsFlat}
use Rattle.program_code.specs.CodeLaws.{MeansAs}
use Rattle.program_code.specs.ProgramCode.{IsCode, parameter_registers}
use Rattle.program_code.specs.WrittenRegisters.{tree_writes}
use Rattle.lowered_code.specs.Builder.{registers_from}
use Rattle.lowered_code.specs.InBounds.{IsInLimits}
use Rattle.lowered_code.specs.LoweredCode.{lowered_code, lowered_function}

-- each place that builds stands in the table, with its kind
abbrev pub SitesStand : List SiteInfo → List FunctionTree → Type 0
SitesStand sites program =
    All (λ (s : Site). kind_at sites s.0 ≡ Some s.1) (program_tree_sites program)

-- What is asked of a program that is lowered: it is known, as an accepted program is and what is
-- lifted from it; it has no letrec left; and its sites stand in the table.
pub record IsLowerable (sites : List SiteInfo) (lifted : List FunctionTree) : Type 0 where
  pub known : TreesAreKnown lifted
  pub flat : All (λ (f : FunctionTree). IsFlat f.body) lifted
  pub stand : SitesStand sites lifted

-- its code is a code of it
abbrev pub LoweredIsCode : Type 0
LoweredIsCode =
    (sites : List SiteInfo) (names : List FunInfo) (atoms : List (List ℕ))
    (lifted : List FunctionTree) → IsLowerable sites lifted
    → IsCode lifted (lowered_code sites names atoms lifted)

-- so it means what the program means
abbrev pub LoweredMeans : Type 0
LoweredMeans =
    (sites : List SiteInfo) (names : List FunInfo) (atoms : List (List ℕ))
    (lifted : List FunctionTree) → IsLowerable sites lifted
    → (f : ℕ) → MeansAs atoms lifted (lowered_code sites names atoms lifted) f

-- the parameters, and then what is written, in order: each register once, and no other
abbrev pub WritesEachRegister : FunctionTree → Type 0
WritesEachRegister f =
    let made : Function = lowered_function f in
    parameter_registers 0 f.parameters ++ tree_writes made.body ≡ registers_from 0 made.registers

abbrev pub RegistersAreInOrder : Type 0
RegistersAreInOrder =
    (sites : List SiteInfo) (lifted : List FunctionTree) → IsLowerable sites lifted
    → All WritesEachRegister lifted

-- within the limits of an engine, its code is valid
abbrev pub LoweredIsValid : Type 0
LoweredIsValid =
    (sites : List SiteInfo) (names : List FunInfo) (atoms : List (List ℕ))
    (lifted : List FunctionTree) → IsLowerable sites lifted → IsInLimits sites names lifted
    → IsValid (lowered_code sites names atoms lifted)
