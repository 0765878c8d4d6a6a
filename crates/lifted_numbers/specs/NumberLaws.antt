-- What the numbers of a tree say of it. Each law is the clause of a function in the module `laws`.
use Rattle.std.specs.Prelude.{◌≡◌, ℕ, suc, List, [], ◌∷◌, map}
use Rattle.std.specs.List.{All}
use Rattle.core_accepted.specs.TreeSites.{tree_sites}
use Rattle.hy_core.specs.ProgramTrees.{function_trees}
use Rattle.hy_core.specs.Resolve.{Names}
use Rattle.hy_core.specs.Resolved.{Expression, FunctionTree}
use Rattle.hy_core.specs.Supplied.{Supply, supplied}
use Rattle.hy_core.specs.Syntax.{syntax_of}
use Rattle.hy_core.specs.declared.info.SiteInfo.{SiteInfo}
use Rattle.hy_core.specs.declared.tree.Module.{Module}
use Rattle.lifted_numbers.specs.TreeNumbers.{HasHeads, bare, bare_function, numbers}
use Rattle.lifted_program.specs.LiftedProgram.{lifted_program}
use Rattle.lifted_syntax.specs.ExtractedSyntax as syntax
use Rattle.lifted_syntax.specs.ExtractedSyntax.{FunctionSyntax, plain_function}
use Rattle.lifted_syntax.specs.LiftedFunctions.{own_sites, trees_from}
use Rattle.lifted_syntax.specs.LiftingLaws.{modules_resolved}
use Rattle.lifted_syntax.specs.Whole.{IsWhole}
use Rattle.lifted_syntax.specs.declared.lifted.LiftedFunction.{LiftedFunction}

-- a tree in which no list notation is empty is its bare form with its own numbers
abbrev pub TreesAreSupplied : Type 0
TreesAreSupplied = (e : Expression) → HasHeads e → supplied (bare e) (numbers e) ≡ e

-- its numbers of sites are those of its sites, in the order of the text
abbrev pub SitesAreNumbers : Type 0
SitesAreNumbers = (e : Expression) → (numbers e).sites ≡ map (λ s. s.0) (tree_sites e)

-- supplied numbers are all that is added
abbrev pub SuppliedTreesAreBare : Type 0
SuppliedTreesAreBare = (e : Expression) (s : Supply) → bare (supplied e s) ≡ bare e

-- a program is lifted with its numbers as it is lifted without them
abbrev pub LiftingKeepsBare : Type 0
LiftingKeepsBare =
    (captured : ℕ → List ℕ) (program : List FunctionTree)
    → map bare_function (lifted_program captured program)
    ≡ lifted_program captured (map bare_function program)

-- the functions of a source with their numbers are its resolved ones
abbrev pub SourcesAreBare : Type 0
SourcesAreBare =
    (names : Names) (sites : List ℕ) (modules : List Module)
    → map bare_function (function_trees names sites modules) ≡ modules_resolved names modules

-- lifted functions as syntax
abbrev pub lifted_texts : List LiftedFunction → List FunctionSyntax
lifted_texts [] = []
lifted_texts (f ∷ fs) =
    record { parameters = f.params; body = syntax_of f.body } ∷ lifted_texts fs

-- lifted functions, of which the first has the number k, have the events of these trees as their
-- nodes, and the sites of them as their own; no list notation of a tree is empty
abbrev pub HaveNumbers : List SiteInfo → (k : ℕ) → List LiftedFunction → List FunctionTree → Type 0
HaveNumbers sites k [] [] = Unit {0}
HaveNumbers sites k [] (t ∷ ts) = ⊥
HaveNumbers sites k (f ∷ fs) [] = ⊥
HaveNumbers sites k (f ∷ fs) (t ∷ ts) =
    HasHeads t.body × (f.nodes ≡ (numbers t.body).events)
    × (own_sites k 0 sites ≡ (numbers t.body).sites) × HaveNumbers sites (suc k) fs ts

-- lifted functions whose texts are those of trees, and that have the numbers of these, are read as
-- the trees
abbrev pub LiftedFunctionsAreRead : Type 0
LiftedFunctionsAreRead =
    (names : Names) (sites : List SiteInfo) (k : ℕ) (functions : List LiftedFunction)
    (trees : List FunctionTree)
    → map (plain_function names) (lifted_texts functions) ≡ map bare_function trees
    → HaveNumbers sites k functions trees → trees_from names sites k functions ≡ trees

-- the lifted syntax of a program of which no form is refused is that of its lifted trees, whatever
-- numbers these have
abbrev pub LiftedSyntaxIsOfTrees : Type 0
LiftedSyntaxIsOfTrees =
    (names : Names) (sites : List ℕ) (captured : ℕ → List ℕ) (modules : List Module)
    → All (λ f. IsWhole f.body) (modules_resolved names modules)
    → map (plain_function names) (syntax.lifted_program names captured modules)
    ≡ map bare_function (lifted_program captured (function_trees names sites modules))
