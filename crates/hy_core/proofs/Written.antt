-- A program that is written as syntax is read as it is written.
use Rattle.std.proofs.Common.{◌≡◌, ℕ, List, [], ◌∷◌, ◌++◌, refl, ap, ◌∙◌}
use Rattle.hy_core.specs.ProgramTrees.{true_places, functions_from, modules_from, function_trees}
use Rattle.hy_core.specs.Resolve.{Names, resolve}
use Rattle.hy_core.specs.Resolved.{FunctionTree}
use Rattle.hy_core.specs.Supplied.{Supply, behind, supplied}
use Rattle.hy_core.specs.Syntax.{Syntax, Definitions, NoDefinitions, MoreDefinitions, ModuleSyntax, definition_trees, module_trees}
use Rattle.hy_core.proofs.EventNodes.{events, written_events}
use Rattle.hy_core.proofs.SyntaxLemmas.{syntax_back}

abbrev supply_written : List (List ℕ) → Syntax → List ℕ → Supply
supply_written atoms s sites = record { events = true_places 0 (events atoms s); sites = sites }

-- a function and those behind it, where the function is this syntax
abbrev function_written : Names → (current : ℕ) → List ℕ → Supply → (List ℕ → List FunctionTree × List ℕ) → Syntax → List FunctionTree × List ℕ
function_written names current params supply others s =
    let body = resolve names current s [] in
    let after = others (behind body supply).sites in
    (record { parameters = params; body = supplied body supply } ∷ after.0, after.1)

abbrev pub functions_written : Names → (current : ℕ) → List ℕ → Definitions → List FunctionTree × List ℕ
functions_written names current sites NoDefinitions = ([], sites)
functions_written names current sites (MoreDefinitions f xs s fs) =
    function_written names current xs (supply_written names.atoms s sites)
    (λ sites. functions_written names current sites fs) s

functions_are : (names : Names) (current : ℕ) (sites : List ℕ) (fs : Definitions) → functions_from names current sites (definition_trees fs) ≡ functions_written names current sites fs
functions_are names current sites NoDefinitions = refl
functions_are names current sites (MoreDefinitions f xs s fs) =
    let supply = supply_written names.atoms s sites in
    let body = resolve names current s [] in
    (λ i. function_written names current xs (record { events = written_events names.atoms f xs s i; sites = sites })
    (λ sites. functions_from names current sites (definition_trees fs)) (syntax_back s i))
    ∙ ap (λ (after : List FunctionTree × List ℕ). (record { parameters = xs; body = supplied body supply } ∷ after.0, after.1))
    (functions_are names current (behind body supply).sites fs)

abbrev pub modules_written : Names → List ℕ → List ModuleSyntax → List FunctionTree
modules_written names sites [] = []
modules_written names sites (m ∷ ms) =
    let these = functions_written names m.name sites m.functions in
    these.0 ++ modules_written names these.1 ms

-- the functions of a program as they are written
pub program_is : (names : Names) (sites : List ℕ) (ms : List ModuleSyntax) → function_trees names sites (module_trees ms) ≡ modules_written names sites ms
program_is names sites [] = refl
program_is names sites (m ∷ ms) =
    ap (λ (these : List FunctionTree × List ℕ). these.0 ++ modules_from names these.1 (module_trees ms)) (functions_are names m.name sites m.functions)
    ∙ ap (λ others. (functions_written names m.name sites m.functions).0 ++ others)
    (program_is names (functions_written names m.name sites m.functions).1 ms)
