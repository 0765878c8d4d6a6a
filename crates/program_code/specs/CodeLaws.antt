-- What the code of a program means. Each law is the clause of a function in the module `laws`.
use Rattle.std.specs.Prelude.{◌≡◌, ℕ, ◌<◌, List, length, map, Option, Some, None}
use Rattle.std.specs.List.{All}
use Rattle.hy_terms.specs.Labelled.{Labelled, erase}
use Rattle.hy_terms.specs.Term.{Term}
use Rattle.hy_terms.specs.declared.term.Colour.{Colour}
use Rattle.hy_core.specs.declared.tree.Program.{Program}
use Rattle.hy_core.specs.Comparison.{map_event, map_input, SameRun}
use Rattle.hy_core.specs.Computation.{Input}
use Rattle.hy_core.specs.Evaluation.{Top}
use Rattle.hy_core.specs.Evaluation as evaluation
use Rattle.hy_core.specs.Event.{Event}
use Rattle.hy_core.specs.FullRun.{trees_of}
use Rattle.hy_core.specs.KnownTrees.{TreesAreKnown}
use Rattle.hy_core.specs.Resolved.{FunctionTree}
use Rattle.hy_core.specs.SameProgram.{waits}
use Rattle.hy_core.specs.Tables.{program_atoms}
use Rattle.hy_ir.specs.Acts.{Act, Called, Effect, Has, Own, Area, Happens}
use Rattle.hy_ir.specs.Code.{Code, Function}
use Rattle.hy_ir.specs.Meaning.{meaning, waiting}
use Rattle.program_code.specs.FittingValues.{TreeFits}
use Rattle.program_code.specs.Pieces.{tree_pieces, pieces_of}
use Rattle.program_code.specs.ProgramCode.{IsCode, IsCodeOfProgram}

-- what an act shows where labels are dropped: the event that happens
abbrev pub shown_effect : Effect → Option (Event Term)
shown_effect (Own words) = None
shown_effect (Area words copied) = None
shown_effect (Happens event) = Some (map_event erase event)

abbrev pub shown : Act → Option (Event Term)
shown Called = None
shown (Has effect) = shown_effect effect

-- Under each placing of its sites, a function of the code does what the one of the program does:
-- the same events and uses of inputs in one order, as many calls and the same inputs left, and the
-- same end, labels dropped.
abbrev pub MeansAs : (atoms : List (List ℕ)) → List FunctionTree → Code → (function : ℕ) → Type 0
MeansAs atoms program code f =
    (place : ℕ → Colour) (pid calls : ℕ) (ts : List Labelled) (inputs : List (Input Labelled))
    → SameRun erase (waits atoms pid) (waiting code place pid) shown
    (evaluation.run_of program atoms pid calls
    (evaluation.body_of program atoms pid (Top f) (map erase ts))
    (map (map_input erase) inputs))
    (meaning code place pid f ts calls inputs)

-- a code of a lifted program means what the program means under the table of atoms of the code
abbrev pub CodeMeans : Type 0
CodeMeans =
    (lifted : List FunctionTree) (code : Code) → IsCode lifted code → (f : ℕ)
    → MeansAs code.atoms lifted code f

-- and a code of a known program means what the program means under its own
abbrev pub CodeOfProgramMeans : Type 0
CodeOfProgramMeans =
    (program : Program) (code : Code) → TreesAreKnown (trees_of program)
    → IsCodeOfProgram program code → (f : ℕ) → f < length (trees_of program)
    → MeansAs (program_atoms program) (trees_of program) code f

-- a code has the pieces of its program, in the same order, and no others
abbrev pub CodeHasPieces : Type 0
CodeHasPieces =
    (lifted : List FunctionTree) (code : Code) → IsCode lifted code
    → map (λ (f : Function). tree_pieces f.body) code.functions
    ≡ map (λ (of : FunctionTree). pieces_of of.body) lifted

-- each inner tree gives as many values as it has outs, and no call ends it; a function gives one
abbrev pub CodeFits : Type 0
CodeFits =
    (lifted : List FunctionTree) (code : Code) → IsCode lifted code
    → All (λ (f : Function). TreeFits None f.body) code.functions
