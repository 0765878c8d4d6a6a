-- The worked programs, whose prelude is written with numbers of atoms, have the prelude that each
-- program has. This project's own.
use Rattle.std.specs.Prelude.{◌≡◌, ℕ, List, [], ◌∷◌, map, drop, Some}
use Rattle.hy_core.specs.FullRun.{IsRun, NeverStopped, behaviour_of, main_of, names_of, trees_of}
use Rattle.hy_core.specs.Numbered.{numbered_program}
use Rattle.hy_core.specs.NameFaults.{modules_of}
use Rattle.hy_core.specs.PreludeModules.{named_with, with_prelude}
use Rattle.hy_core.specs.Resolve.{function_number}
use Rattle.hy_core.specs.Resolved.{FunctionTree}
use Rattle.hy_core.specs.Supplied.{supplied}
use Rattle.hy_core.specs.Syntax.{Syntax, module_trees, tree}
use Rattle.hy_core.specs.Tables.{program_atoms, program_functions}
use Rattle.hy_core.specs.Worked.{atoms, modules, names, program, nothing, least, past_the_range, least_divided, division, two_messages, no_clauses, only_b, waits_for_ever, either, guarded, shown_in_order, printed_source, ordered_source, to_no_pid, case_of_nothing, fails_in_a_function, fails_to_match, throws, reversed, parent, child, two_and_take, one_and_poll}
use Rattle.hy_core.specs.WrittenRun.{IsRunOf}
use Rattle.hy_core.specs.declared.end.End.{End}
use Rattle.hy_core.specs.declared.step.Step.{Step}
use Rattle.hy_core.specs.declared.tree.FunName.{FunName}
use Rattle.hy_core.specs.declared.tree.Module.{Module}
use Rattle.hy_core.specs.declared.tree.Program.{Program}

-- the module 'm' of the worked programs, as it is read: its atoms are numbered as theirs are
abbrev pub module_read : (main child : Syntax) → Module
module_read main child = record {
  name = 7;
  exports = named_with 8 0 ∷ [];
  functions =
      record { name = named_with 8 0; params = []; body = tree main }
      ∷ record { name = named_with 28 0; params = []; body = tree child } ∷ [];
  atoms = atoms;
  variables = [];
}

-- the program of this module
abbrev pub program_read : (main child : Syntax) → Program
program_read main child = with_prelude (module_read main child ∷ [])

-- the functions with 0 for each number of an event and of a site
abbrev pub without_numbers : List FunctionTree → List FunctionTree
without_numbers = map (λ (f : FunctionTree). record {
  parameters = f.parameters;
  body = supplied f.body (record { events = []; sites = [] });
})

-- the functions behind 'main'/0 and 'child'/0
abbrev pub prelude_of : List FunctionTree → List FunctionTree
prelude_of program = drop 2 (without_numbers program)

-- The program that is read and the worked one have the same atoms, give each name the same
-- function, and have the same functions in the prelude, numbers of events and sites aside.
pub record HasThePrelude (main child : Syntax) : Type 0 where
  pub same_atoms : program_atoms (program_read main child) ≡ atoms
  pub same_functions : (m : ℕ) (f : FunName)
      → function_number (program_functions (program_read main child)) m f
      ≡ function_number names.functions m f
  pub is_main : main_of (names_of (program_read main child))
      (modules_of (numbered_program (program_read main child))) ≡ Some 0
  pub same_prelude : prelude_of (trees_of (program_read main child))
      ≡ prelude_of (program main child)

-- the program that is read has the functions of the worked one, numbers of events and sites aside
abbrev pub SameTrees : Syntax × Syntax → Type 0
SameTrees (main, other) =
    without_numbers (trees_of (program_read main other)) ≡ without_numbers (program main other)

-- the processes of the program that is read behave as those of the worked one do
abbrev pub BehavesAsWorked : Syntax × Syntax → Type 0
BehavesAsWorked (main, other) =
    (limit : ℕ)
    → behaviour_of (trees_of (program_read main other)) (program_atoms (program_read main other))
    limit
    ≡ behaviour_of (program main other) atoms limit

-- and each full run of the worked one is one of the program that is read
abbrev pub RunsAsWorked : Syntax × Syntax → Type 0
RunsAsWorked (main, other) =
    (limit : ℕ) (steps : List Step) (ends : List End) (output : List ℕ)
    → IsRunOf names [] (module_trees (modules main other)) limit NeverStopped steps ends output
    → IsRun (program_read main other) limit NeverStopped steps ends output

-- the bodies of 'main'/0 and 'child'/0 of each worked program
abbrev pub worked : List (Syntax × Syntax)
worked =
    (parent, child) ∷ map (λ main. (main, nothing)) (
    past_the_range ∷ least ∷ least_divided ∷ division
    ∷ two_messages ∷ no_clauses ∷ only_b ∷ waits_for_ever ∷ either
    ∷ guarded ∷ shown_in_order ∷ printed_source ∷ ordered_source
    ∷ to_no_pid ∷ case_of_nothing ∷ fails_in_a_function ∷ fails_to_match ∷ throws
    ∷ reversed ∷ nothing ∷ two_and_take ∷ one_and_poll ∷ [])
