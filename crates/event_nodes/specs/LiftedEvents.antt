-- Lists that are the nodes of the events of a program's lifted functions. This project's own.
use Rattle.std.specs.Prelude.{◌≡◌, ℕ, List, map}
use Rattle.hy_core.specs.KnownTrees.{TreesAreKnown}
use Rattle.hy_core.specs.ProgramTrees.{function_trees}
use Rattle.hy_core.specs.Resolve.{Names}
use Rattle.hy_core.specs.Resolved.{FunctionTree}
use Rattle.hy_core.specs.declared.tree.Module.{Module}
use Rattle.lifted_numbers.specs.TreeNumbers.{numbers}
use Rattle.lifted_program.specs.LiftedProgram.{lifted_program}

-- where the trees of the program are known, whatever they capture; atoms: the table of the program
abbrev pub AreLiftedEvents : (atoms : List (List ℕ)) → List Module → List (List ℕ) → Type 0
AreLiftedEvents atoms modules lists =
    (names : Names) (sites : List ℕ) (captured : ℕ → List ℕ) → names.atoms ≡ atoms
    → TreesAreKnown (function_trees names sites modules)
    → lists ≡ map (λ (t : FunctionTree). (numbers t.body).events)
    (lifted_program captured (function_trees names sites modules))
