-- What holds of each accepted program, which has the prelude beside its own modules.
use Rattle.std.specs.Prelude.{◌≡◌, ℕ, ◌<◌, List, ◌∷◌, length, Some}
use Rattle.hy_core.specs.Faults.{IsAccepted}
use Rattle.hy_core.specs.FullRun.{main_of, names_of, trees_of}
use Rattle.hy_core.specs.KnownTrees.{TreesAreKnown}
use Rattle.hy_core.specs.NameFaults.{modules_of}
use Rattle.hy_core.specs.Numbered.{numbered_program, program_sites}
use Rattle.hy_core.specs.PreludeModules.{with_prelude}
use Rattle.hy_core.specs.declared.tree.Module.{Module}
use Rattle.hy_core.specs.declared.tree.Program.{Program}
use Rattle.core_accepted.specs.TreeSites.{kinds_from, program_tree_sites}

-- it holds of each accepted program
abbrev pub OfAccepted : (Program → Type 0) → Type 0
OfAccepted Holds =
    (modules : List Module) → IsAccepted (with_prelude modules) → Holds (with_prelude modules)

-- it holds of each accepted program in which at least one module is given
abbrev pub OfAcceptedModules : (Program → Type 0) → Type 0
OfAcceptedModules Holds =
    (m : Module) (modules : List Module)
    → IsAccepted (with_prelude (m ∷ modules)) → Holds (with_prelude (m ∷ modules))

-- 'main'/0 of the first module is one of its functions
pub record HasItsMain (program : Program) : Type 0 where
  pub main : ℕ
  pub is_main : main_of (names_of program) (modules_of (numbered_program program)) ≡ Some main
  pub stands : main < length (trees_of program)

-- of the program's resolved trees all is known
abbrev pub HasKnownTrees : Program → Type 0
HasKnownTrees program = TreesAreKnown (trees_of program)

-- the sites of its trees, in the order of the text, are those of its table, each with its number
-- and kind
abbrev pub HasItsSites : Program → Type 0
HasItsSites program =
    program_tree_sites (trees_of program) ≡ kinds_from 0 (program_sites program)
