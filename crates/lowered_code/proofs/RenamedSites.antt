-- Renaming changes no site.
use Rattle.std.proofs.Common.{◌≡◌, ℕ, suc, List, [], ◌∷◌, ◌++◌, refl, ap}
use Rattle.core_accepted.specs.TreeSites.{conses, head_sites, tree_sites, all_sites, clauses_sites}
use Rattle.core_accepted.specs.TreeSites.{functions_sites, program_tree_sites}
use Rattle.hy_core.specs.declared.info.SiteKind.TheVariants as kind
use Rattle.hy_core.specs.Resolved as r
use Rattle.hy_core.specs.Resolved.{Expression, Expressions, NoExpressions, MoreExpressions}
use Rattle.hy_core.specs.Resolved.{Clauses, NoClauses, MoreClauses, Functions, NoFunctions}
use Rattle.hy_core.specs.Resolved.{MoreFunctions, FunctionTree}
use Rattle.hy_core.specs.Scopes.{Scope, with_variables, with_patterns}
use Rattle.hy_core.specs.Supplied.{expression_count}
use Rattle.lifted_program.specs.Renaming.{renamed, renamed_all, renamed_clauses}
use Rattle.lifted_program.specs.Renaming.{renamed_functions, renamed_program}

module _ (limit : ℕ) where
  renamed_count : (es : Expressions) (scope : Scope)
      → expression_count (renamed_all limit scope es) ≡ expression_count es
  renamed_count NoExpressions scope = refl
  renamed_count (MoreExpressions e es) scope = ap suc (renamed_count es scope)

  mutual
    same_sites : (e : Expression) (scope : Scope)
        → tree_sites (renamed limit scope e) ≡ tree_sites e
    same_sites (r.Int n) scope = refl
    same_sites (r.Atom a) scope = refl
    same_sites r.Nil scope = refl
    same_sites (r.Text site text) scope = refl
    same_sites (r.Variable x) scope = refl
    same_sites (r.Tuple site es) scope = λ i. (site, kind.Tuple) ∷ all_same_sites es scope i
    same_sites (r.ListOf site es e) scope =
        λ i. conses site (renamed_count es scope i) ++ all_same_sites es scope i
        ++ same_sites e scope i
    same_sites (r.Values es) scope = all_same_sites es scope
    same_sites (r.Let xs e b) scope =
        λ i. same_sites e scope i ++ same_sites b (with_variables scope xs) i
    same_sites (r.Do e b) scope = λ i. same_sites e scope i ++ same_sites b scope i
    same_sites (r.Case e cs) scope = λ i. same_sites e scope i ++ clauses_same_sites cs scope i
    same_sites (r.Letrec fs e) scope =
        λ i. functions_same_sites fs scope i ++ same_sites e scope i
    same_sites (r.Call head es) scope = λ i. head_sites head ++ all_same_sites es scope i
    same_sites (r.Receive cs timeout e) scope =
        λ i. clauses_same_sites cs scope i ++ same_sites e scope i
    same_sites r.Refused scope = refl

    all_same_sites : (es : Expressions) (scope : Scope)
        → all_sites (renamed_all limit scope es) ≡ all_sites es
    all_same_sites NoExpressions scope = refl
    all_same_sites (MoreExpressions e es) scope =
        λ i. same_sites e scope i ++ all_same_sites es scope i

    clauses_same_sites : (cs : Clauses) (scope : Scope)
        → clauses_sites (renamed_clauses limit scope cs) ≡ clauses_sites cs
    clauses_same_sites NoClauses scope = refl
    clauses_same_sites (MoreClauses ps g b cs) scope =
        λ i. (same_sites g (with_patterns scope ps) i ++ same_sites b (with_patterns scope ps) i)
        ++ clauses_same_sites cs scope i

    functions_same_sites : (fs : Functions) (scope : Scope)
        → functions_sites (renamed_functions limit scope fs) ≡ functions_sites fs
    functions_same_sites NoFunctions scope = refl
    functions_same_sites (MoreFunctions f xs b fs) scope =
        λ i. same_sites b (with_variables scope xs) i ++ functions_same_sites fs scope i

  pub renamed_sites : (fs : List FunctionTree)
      → program_tree_sites (renamed_program limit fs) ≡ program_tree_sites fs
  renamed_sites [] = refl
  renamed_sites (f ∷ fs) =
      λ i. same_sites f.body (with_variables [] f.parameters) i ++ renamed_sites fs i
