-- The places of resolved trees at which cells are built, in the order of the text: what has sites
-- of its own comes before its parts. This project's own.
use Rattle.std.specs.Prelude.{ℕ, zero, suc, List, [], ◌∷◌, ◌++◌}
use Rattle.hy_core.specs.Resolved.{Head, Setelement, Expression, Text, Tuple, ListOf, Values, Let, Do, Case, Letrec, Call, Receive, Expressions, NoExpressions, MoreExpressions, Clauses, NoClauses, MoreClauses, Functions, NoFunctions, MoreFunctions, FunctionTree}
use Rattle.hy_core.specs.Supplied.{expression_count}
use Rattle.hy_core.specs.declared.info.SiteInfo.{SiteInfo}
use Rattle.hy_core.specs.declared.info.SiteKind.{SiteKind}
use Rattle.hy_core.specs.declared.info.SiteKind.TheVariants as kind

-- the number of a site, and its kind
abbrev pub Site : Type 0
Site = ℕ × SiteKind

-- the sites of so many heads of a list notation
abbrev pub conses : (first : ℕ) → (heads : ℕ) → List Site
conses n zero = []
conses n (suc heads) = (n, kind.Cons) ∷ conses (suc n) heads

abbrev pub head_sites : Head → List Site
head_sites (Setelement site) = (site, kind.Setelement) ∷ []
head_sites _ = []

abbrev mutual
  pub tree_sites : Expression → List Site
  tree_sites (Text site text) = (site, kind.String) ∷ []
  tree_sites (Tuple site es) = (site, kind.Tuple) ∷ all_sites es
  tree_sites (ListOf site es e) = conses site (expression_count es) ++ all_sites es ++ tree_sites e
  tree_sites (Values es) = all_sites es
  tree_sites (Let xs e b) = tree_sites e ++ tree_sites b
  tree_sites (Do e b) = tree_sites e ++ tree_sites b
  tree_sites (Case e cs) = tree_sites e ++ clauses_sites cs
  tree_sites (Letrec fs e) = functions_sites fs ++ tree_sites e
  tree_sites (Call head es) = head_sites head ++ all_sites es
  tree_sites (Receive cs timeout e) = clauses_sites cs ++ tree_sites e
  tree_sites _ = []

  pub all_sites : Expressions → List Site
  all_sites NoExpressions = []
  all_sites (MoreExpressions e es) = tree_sites e ++ all_sites es

  pub clauses_sites : Clauses → List Site
  clauses_sites NoClauses = []
  clauses_sites (MoreClauses ps guard body cs) =
      (tree_sites guard ++ tree_sites body) ++ clauses_sites cs

  pub functions_sites : Functions → List Site
  functions_sites NoFunctions = []
  functions_sites (MoreFunctions f xs body fs) = tree_sites body ++ functions_sites fs

-- those of the functions of a program
abbrev pub program_tree_sites : List FunctionTree → List Site
program_tree_sites [] = []
program_tree_sites (f ∷ fs) = tree_sites f.body ++ program_tree_sites fs

-- the kinds of a table of sites with their numbers, of which the first has this one
abbrev pub kinds_from : ℕ → List SiteInfo → List Site
kinds_from n [] = []
kinds_from n (site ∷ sites) = (n, site.kind) ∷ kinds_from (suc n) sites
