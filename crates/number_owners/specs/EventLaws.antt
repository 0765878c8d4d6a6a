-- What is so of the functions in which events stand. Each law is the clause of a function in the
-- module `laws`.
use Rattle.std.specs.Prelude.{◌≡◌, ℕ, suc, List, [], ◌∷◌, length}
use Rattle.std.specs.List.{All}
use Rattle.hy_core.specs.KnownTrees.{TreesAreKnown}
use Rattle.hy_core.specs.ProgramTrees.{function_trees}
use Rattle.hy_core.specs.Resolve.{Names}
use Rattle.hy_core.specs.Resolved.{Expression, FunctionTree}
use Rattle.hy_core.specs.Supplied.{Supply, supplied}
use Rattle.hy_core.specs.declared.tree.Module.{Module}
use Rattle.lifted_numbers.specs.TreeNumbers.{numbers}
use Rattle.lifted_program.specs.LiftedProgram.{lifted_program}
use Rattle.lifted_program.specs.Renaming.{renamed_program}
use Rattle.lifted_syntax.specs.LiftingLaws.{modules_resolved}
use Rattle.lifted_syntax.specs.Whole.{IsWhole}
use Rattle.number_owners.specs.ChosenNumbers.{chosen}
use Rattle.number_owners.specs.EventOwners.{event_owners, program_event_owners, program_events}
use Rattle.number_owners.specs.WrittenOwners.{program_written_owners}

-- renaming leaves the events of a program, and the functions in which they stand
abbrev pub RenamedEventsStay : Type 0
RenamedEventsStay =
    (limit : ℕ) (program : List FunctionTree)
    → (program_events (renamed_program limit program) ≡ program_events program)
    × (program_event_owners (renamed_program limit program) ≡ program_event_owners program)

-- those of these events that a function owns are the events of its tree; the first tree has the
-- number k
abbrev pub HaveOwnEvents : (owners events : List ℕ) → (k : ℕ) → List FunctionTree → Type 0
HaveOwnEvents os es k [] = Unit {0}
HaveOwnEvents os es k (t ∷ ts) =
    (chosen k os es ≡ (numbers t.body).events) × HaveOwnEvents os es (suc k) ts

-- which holds of the functions of a lifted program, for the events of the program
abbrev pub LiftedHaveOwnEvents : Type 0
LiftedHaveOwnEvents =
    (captured : ℕ → List ℕ) (program : List FunctionTree) → TreesAreKnown program
    → HaveOwnEvents (program_event_owners program) (program_events program) 0
    (lifted_program captured program)

-- a tree that is supplied with as many numbers of events as it has events has these
abbrev pub SuppliedEventsAreTaken : Type 0
SuppliedEventsAreTaken =
    (e : Expression) (s : Supply) → length (event_owners 0 0 e) ≡ length s.events
    → (numbers (supplied e s)).events ≡ s.events

-- the owners of the events of a program's trees are those of its syntax, where no form is refused
abbrev pub WrittenOwnersAreTrees : Type 0
WrittenOwnersAreTrees =
    (names : Names) (sites : List ℕ) (ms : List Module)
    → All (λ f. IsWhole f.body) (modules_resolved names ms)
    → program_event_owners (function_trees names sites ms)
    ≡ program_written_owners names.atoms ms
