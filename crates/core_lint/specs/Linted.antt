-- An accepted program with its own numbers and tables, and the texts that its modules keep.
-- This project's own.
use Rattle.std.specs.Prelude.{◌≡◌, ℕ, List}
use Rattle.std.specs.List.{AllByRecursion}
use Rattle.hy_core.specs.Canonical.{canonical_text}
use Rattle.hy_core.specs.Faults.{IsAccepted}
use Rattle.hy_core.specs.Numbered.{numbered_program, program_sites}
use Rattle.hy_core.specs.PreludeModules.{prelude_modules}
use Rattle.hy_core.specs.Reading.{IsModuleText}
use Rattle.hy_core.specs.Tables.{program_atoms, program_functions}
use Rattle.hy_core.specs.declared.info.FunInfo.{FunInfo}
use Rattle.hy_core.specs.declared.info.SiteInfo.{SiteInfo}
use Rattle.hy_core.specs.declared.tree.Module.{Module}
use Rattle.hy_core.specs.declared.tree.Program.{Program}
use Rattle.core_lint.specs.ModuleAtoms.{HasOwnAtoms}

-- the tree of some text
abbrev pub IsOfText : Module → Type 0
IsOfText z = (text : List ℕ) × IsModuleText text z

-- the numbered trees and the tables of this program of texts and the prelude, which is accepted
pub record IsLinted (before now : Program) (atoms : List (List ℕ)) (functions : List FunInfo)
    (sites : List SiteInfo) : Type 0 where
  pub read : AllByRecursion IsOfText before.given
  pub own_prelude : before.prelude ≡ prelude_modules
  pub accepted : IsAccepted before
  pub trees : now ≡ numbered_program before
  pub own_atoms : atoms ≡ program_atoms before
  pub own_functions : functions ≡ program_functions before
  pub own_sites : sites ≡ program_sites before

-- a module with this table of atoms
abbrev pub with_table : List (List ℕ) → Module → Module
with_table table m = record m { atoms = table }

-- a module whose own table has its atoms keeps its canonical text when it is numbered: over the
-- program's table the numbered one has the text of the given one over its own
abbrev pub KeepsText : List (List ℕ) → (before now : Module) → Type 0
KeepsText table before now =
    HasOwnAtoms before → canonical_text (with_table table now) ≡ canonical_text before
