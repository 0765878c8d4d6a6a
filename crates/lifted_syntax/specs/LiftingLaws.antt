-- What lifted syntax means. Each law is the clause of a function in the module `laws`.
use Rattle.std.specs.Prelude.{◌≡◌, ℕ, List, [], ◌∷◌, ◌++◌, map}
use Rattle.std.specs.List.{All}
use Rattle.hy_core.specs.KnownTrees.{TreesAreKnown}
use Rattle.hy_core.specs.ProgramTrees.{function_trees, resolved}
use Rattle.hy_core.specs.Resolve.{Names, resolve}
use Rattle.hy_core.specs.Resolved.{FunctionTree}
use Rattle.hy_core.specs.Syntax.{Syntax}
use Rattle.hy_core.specs.declared.tree.FunName.{FunName}
use Rattle.hy_core.specs.declared.tree.Function.{Function}
use Rattle.hy_core.specs.declared.tree.Module.{Module}
use Rattle.lifted_program.specs.LetrecNumbers.{Reach}
use Rattle.lifted_program.specs.LiftedProgram as tree
use Rattle.lifted_syntax.specs.ExtractedSyntax.{extracted, lifted_program, plain_function}
use Rattle.lifted_syntax.specs.LiftedSyntax.{lifted}
use Rattle.lifted_syntax.specs.LiftedTrees.{plain}
use Rattle.lifted_syntax.specs.Whole.{IsWhole}

-- the names of the functions of the letrecs around
abbrev pub names_in : Reach → List FunName
names_in = map (λ r. r.0)

-- an expression of which no form is refused is lifted as its resolved tree is: under the functions
-- of
-- the letrecs around, from any number on, for any captured variables
abbrev pub LiftedSyntaxIsLifted : Type 0
LiftedSyntaxIsLifted =
    (names : Names) (current : ℕ) (captured : ℕ → List ℕ) (reach : Reach) (n : ℕ) (e : Syntax)
    → IsWhole (resolve names current e (names_in reach))
    → plain names (lifted names current captured reach n e)
    ≡ tree.lifted captured reach n (resolve names current e (names_in reach))

-- and so are the functions of its letrecs
abbrev pub ExtractedSyntaxIsExtracted : Type 0
ExtractedSyntaxIsExtracted =
    (names : Names) (current : ℕ) (captured : ℕ → List ℕ) (reach : Reach) (n : ℕ) (e : Syntax)
    → IsWhole (resolve names current e (names_in reach))
    → map (plain_function names) (extracted names current captured reach n e)
    ≡ tree.extracted captured reach n (resolve names current e (names_in reach))

-- the resolved functions of modules, with all numbers of events and sites 0
abbrev pub functions_resolved : Names → (current : ℕ) → List Function → List FunctionTree
functions_resolved names current [] = []
functions_resolved names current (f ∷ fs) =
    record { parameters = f.params; body = resolved names current f }
    ∷ functions_resolved names current fs

abbrev pub modules_resolved : Names → List Module → List FunctionTree
modules_resolved names [] = []
modules_resolved names (m ∷ ms) =
    functions_resolved names m.name m.functions ++ modules_resolved names ms

-- a whole program is lifted as its resolved trees are
abbrev pub LiftedProgramIsLifted : Type 0
LiftedProgramIsLifted =
    (names : Names) (captured : ℕ → List ℕ) (modules : List Module)
    → All (λ f. IsWhole f.body) (modules_resolved names modules)
    → map (plain_function names) (lifted_program names captured modules)
    ≡ tree.lifted_program captured (modules_resolved names modules)

-- of known trees no form is refused, whatever numbers they have
abbrev pub KnownTreesAreWhole : Type 0
KnownTreesAreWhole =
    (names : Names) (sites : List ℕ) (modules : List Module)
    → TreesAreKnown (function_trees names sites modules)
    → All (λ f. IsWhole f.body) (modules_resolved names modules)
