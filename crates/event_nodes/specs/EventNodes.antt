-- The nodes of the events of each function of a program: a function of a letrec has its own. This
-- project's own.
use Rattle.std.specs.Prelude.{ℕ, zero, suc, ◌+◌, List, [], ◌∷◌, ◌++◌}
use Rattle.hy_core.specs.Nodes.{nodes_of}
use Rattle.hy_core.specs.Numbered.{function_count}
use Rattle.hy_core.specs.ProgramTrees.{are_events, true_places}
use Rattle.hy_core.specs.declared.tree.Function.{Function}
use Rattle.hy_core.specs.declared.tree.Module.{Module}
use Rattle.lifted_syntax.specs.ExtractedSyntax.{count_module}
use Rattle.number_owners.specs.ChosenNumbers.{chosen}
use Rattle.number_owners.specs.WrittenOwners.{modules_functions, program_written_owners}

-- the numbers of each of so many owners, of which the first is k
abbrev pub chosen_from : (k many : ℕ) → (owners numbers : List ℕ) → List (List ℕ)
chosen_from k zero os ns = []
chosen_from k (suc many) os ns = chosen k os ns ∷ chosen_from (suc k) many os ns

-- how many functions a program has: those of modules, and those of letrecs
abbrev pub own_count : List Module → ℕ
own_count ms = function_count ms + count_module (modules_functions ms)

-- atoms: the table of the program
module _ (atoms : List (List ℕ)) where
  -- the nodes of the events of functions of modules, in the order of the text
  abbrev pub functions_nodes : List Function → List ℕ
  functions_nodes [] = []
  functions_nodes (f ∷ fs) = true_places 0 (are_events atoms (nodes_of f)) ++ functions_nodes fs

  abbrev pub program_nodes : List Module → List ℕ
  program_nodes ms = functions_nodes (modules_functions ms)

  -- the nodes of the events of each function, by the numbers of functions
  abbrev pub own_events : List Module → List (List ℕ)
  own_events ms =
      chosen_from 0 (own_count ms) (program_written_owners atoms ms) (program_nodes ms)
