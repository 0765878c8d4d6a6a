-- When a program is the lifting of a linted one. This project's own.
use Rattle.std.specs.Prelude.{◌≡◌, ℕ, ◌<◌, List, length, map}
use Rattle.std.specs.List.{All}
use Rattle.hy_core.specs.FullRun.{numbers_from}
use Rattle.hy_core.specs.KnownTrees.{TreesAreKnown}
use Rattle.hy_core.specs.NameFaults.{modules_of}
use Rattle.hy_core.specs.ProgramTrees.{function_trees}
use Rattle.hy_core.specs.Resolve.{Names}
use Rattle.hy_core.specs.Resolved.{FunctionTree}
use Rattle.hy_core.specs.SameProgram.{SameProgram}
use Rattle.core_lint.specs.declared.linted.Linted.{Linted}
use Rattle.letrec_names.specs.Origins.{function_origins}
use Rattle.lifted_numbers.specs.TreeNumbers.{numbers}
use Rattle.lifted_program.specs.Apart.{FunctionBindsApart}
use Rattle.lifted_program.specs.Captured.{AreCaptured}
use Rattle.lifted_program.specs.Flat.{IsFlat}
use Rattle.lifted_program.specs.LiftingLaws.{lifting_of}
use Rattle.lifted_program.specs.Renaming.{renamed_program}
use Rattle.lifted_syntax.specs.LiftedFunctions.{lifted_trees}
use Rattle.lifted_syntax.specs.declared.lifted.Lifted.{Lifted}
use Rattle.renaming.specs.VariableLimit.{variable_limit}

-- what the calls of a linted program name
abbrev pub linted_names : Linted → Names
linted_names linted = record { atoms = linted.atoms; functions = linted.functions.items }

-- its functions by their numbers, as evaluation reads them
abbrev pub linted_trees : Linted → List FunctionTree
linted_trees linted =
    function_trees (linted_names linted) (numbers_from 0 linted.sites.items)
    (modules_of linted.program)

-- The functions are those of the linted program, renamed and lifted: the names from one past its
-- greatest variable on are new, and each function of a letrec captures exactly its free variables.
-- Of the program's trees all is known.
pub record IsLifting (linted : Linted) (lifted : Lifted) : Type 0 where
  pub captured : ℕ → List ℕ
  pub known : TreesAreKnown (linted_trees linted)
  pub exact : AreCaptured
      (renamed_program (variable_limit linted.program) (linted_trees linted)) captured
  pub trees : lifted_trees lifted
      ≡ lifting_of (variable_limit linted.program) captured (linted_trees linted)
  -- the nodes of a function are those of the events of its tree
  pub nodes : map (λ f. f.nodes) lifted.functions
      ≡ map (λ (t : FunctionTree). (numbers t.body).events) (lifted_trees lifted)
  -- its origin is the function of a module around it
  pub origins : map (λ f. f.origin) lifted.functions ≡ function_origins (modules_of linted.program)

-- each function of a module does what it does in the linted program, and spawns functions of
-- modules alone
abbrev pub MeansTheSame : Linted → Lifted → Type 0
MeansTheSame linted lifted =
    (atoms : List (List ℕ)) (calls : ℕ)
    → SameProgram (λ f. f < length (linted_trees linted)) atoms calls (linted_trees linted)
    (lifted_trees lifted)

abbrev pub LeavesNoLetrec : Lifted → Type 0
LeavesNoLetrec lifted = All (λ f. IsFlat f.body) (lifted_trees lifted)

-- no binding stands in the scope of another of its variable
abbrev pub BindsApart : Lifted → Type 0
BindsApart lifted = All FunctionBindsApart (lifted_trees lifted)
