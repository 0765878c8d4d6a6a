-- What lifting keeps, and what it leaves. Each law is the clause of a function in the module
-- `laws`.
use Rattle.std.specs.Prelude.{◌≡◌, ℕ, ◌<◌, List, length}
use Rattle.std.specs.List.{All}
use Rattle.hy_terms.specs.Term.{Term}
use Rattle.hy_core.specs.FullRun.{IsFullRun}
use Rattle.hy_core.specs.KnownTrees.{TreesAreKnown}
use Rattle.hy_core.specs.Machine.{Process}
use Rattle.hy_core.specs.Resolved.{FunctionTree}
use Rattle.hy_core.specs.SameProgram.{SameProgram}
use Rattle.hy_core.specs.declared.end.Cause.{Cause}
use Rattle.hy_core.specs.declared.end.End.{End}
use Rattle.hy_core.specs.declared.step.Step.{Step}
use Rattle.lifted_program.specs.Apart.{FunctionBindsApart}
use Rattle.lifted_program.specs.Below.{FunctionBindsBelow}
use Rattle.lifted_program.specs.Captured.{AreCaptured}
use Rattle.lifted_program.specs.Flat.{IsFlat}
use Rattle.lifted_program.specs.LiftedProgram.{lifted_program}
use Rattle.lifted_program.specs.Renaming.{renamed_program}

-- each function of the renamed program does what it does in the source
abbrev pub RenamingKeepsMeaning : Type 0
RenamingKeepsMeaning =
    (limit : ℕ) (source : List FunctionTree) (atoms : List (List ℕ)) (calls : ℕ)
    → SameProgram (λ f. Unit {0}) atoms calls source (renamed_program limit source)

-- nothing is renamed where no binding stands in the scope of another of its variable, and each is
-- below the limit
abbrev pub RenamedOnlyWhereNeeded : Type 0
RenamedOnlyWhereNeeded =
    (limit : ℕ) (source : List FunctionTree) → TreesAreKnown source
    → All FunctionBindsApart source → All (FunctionBindsBelow limit) source
    → renamed_program limit source ≡ source

-- the source renamed, and then lifted
abbrev pub lifting_of : (limit : ℕ) → (captured : ℕ → List ℕ) → List FunctionTree
    → List FunctionTree
lifting_of limit captured source = lifted_program captured (renamed_program limit source)

-- where a source is known, and each function of a letrec captures its free variables, each function
-- of a module does in the lifted program what it does in the source, and spawns functions of
-- modules alone
abbrev pub LiftingKeepsMeaning : Type 0
LiftingKeepsMeaning =
    (limit : ℕ) (source : List FunctionTree) (captured : ℕ → List ℕ) → TreesAreKnown source
    → AreCaptured (renamed_program limit source) captured
    → (atoms : List (List ℕ)) (calls : ℕ)
    → SameProgram (λ f. f < length source) atoms calls source (lifting_of limit captured source)

-- and the two programs have the same full runs from a function of a module on
abbrev pub LiftedProgramsRun : (stopped : Process Term → Cause → Type 0) → Type 0
LiftedProgramsRun stopped =
    (limit : ℕ) (source : List FunctionTree) (captured : ℕ → List ℕ) → TreesAreKnown source
    → AreCaptured (renamed_program limit source) captured
    → (atoms : List (List ℕ)) (calls main : ℕ) → main < length source
    → (steps : List Step) (ends : List End) (output : List ℕ)
    → let program = lifting_of limit captured source in
    (IsFullRun source atoms calls stopped main steps ends output
    → IsFullRun program atoms calls stopped main steps ends output)
    × (IsFullRun program atoms calls stopped main steps ends output
    → IsFullRun source atoms calls stopped main steps ends output)

-- a lifted program has no letrecs, and no calls of their functions
abbrev pub LiftedIsFlat : Type 0
LiftedIsFlat =
    (source : List FunctionTree) (captured : ℕ → List ℕ)
    → All (λ f. IsFlat f.body) (lifted_program captured source)

-- in a renamed program no binding stands in the scope of another of its variable
abbrev pub RenamedBindsApart : Type 0
RenamedBindsApart =
    (limit : ℕ) (source : List FunctionTree)
    → All FunctionBindsApart (renamed_program limit source)

-- nor in a program that is lifted from such a one
abbrev pub LiftedBindsApart : Type 0
LiftedBindsApart =
    (source : List FunctionTree) (captured : ℕ → List ℕ) → AreCaptured source captured
    → All FunctionBindsApart source → All FunctionBindsApart (lifted_program captured source)

-- what is known of the trees of a source is known of the renamed ones, and of the lifted ones
abbrev pub RenamedIsKnown : Type 0
RenamedIsKnown =
    (limit : ℕ) (source : List FunctionTree) → TreesAreKnown source
    → TreesAreKnown (renamed_program limit source)

abbrev pub LiftedIsKnown : Type 0
LiftedIsKnown =
    (limit : ℕ) (source : List FunctionTree) (captured : ℕ → List ℕ) → TreesAreKnown source
    → AreCaptured (renamed_program limit source) captured
    → TreesAreKnown (lifting_of limit captured source)
