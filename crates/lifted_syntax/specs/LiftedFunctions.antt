-- The functions of a lifted program as evaluation reads them. This project's own.
use Rattle.std.specs.Prelude.{ℕ, suc, ◌==◌, List, [], ◌∷◌, if◌then◌else◌}
use Rattle.hy_core.specs.Resolve.{Names}
use Rattle.hy_core.specs.Resolved.{FunctionTree}
use Rattle.hy_core.specs.Supplied.{supplied}
use Rattle.hy_core.specs.Syntax.{syntax_of}
use Rattle.hy_core.specs.declared.info.SiteInfo.{SiteInfo}
use Rattle.lifted_syntax.specs.LiftedTrees.{plain}
use Rattle.lifted_syntax.specs.declared.lifted.Lifted.{Lifted}
use Rattle.lifted_syntax.specs.declared.lifted.LiftedFunction.{LiftedFunction}

-- the numbers of the sites of a function, in order; the first of the table has the number n
abbrev pub own_sites : (function n : ℕ) → List SiteInfo → List ℕ
own_sites f n [] = []
own_sites f n (site ∷ sites) =
    if site.function == f then n ∷ own_sites f (suc n) sites else own_sites f (suc n) sites

-- its tree, with the nodes of its events and these sites
abbrev pub function_tree : Names → (sites : List ℕ) → LiftedFunction → FunctionTree
function_tree names sites f = record {
  parameters = f.params;
  body = supplied (plain names (syntax_of f.body)) (record { events = f.nodes; sites = sites });
}

-- the first of the functions has the number k
abbrev pub trees_from : Names → List SiteInfo → (k : ℕ) → List LiftedFunction
    → List FunctionTree
trees_from names sites k [] = []
trees_from names sites k (f ∷ fs) =
    function_tree names (own_sites k 0 sites) f ∷ trees_from names sites (suc k) fs

abbrev pub names_of : Lifted → Names
names_of lifted = record { atoms = lifted.atoms; functions = lifted.names.items }

abbrev pub lifted_trees : Lifted → List FunctionTree
lifted_trees lifted = trees_from (names_of lifted) lifted.sites.items 0 lifted.functions
