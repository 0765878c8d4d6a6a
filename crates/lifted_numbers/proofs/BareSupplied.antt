-- Numbers are all that is supplied to a tree.
use Rattle.std.proofs.Common.{◌≡◌, refl, ap}
use Rattle.hy_core.specs.Resolved as r
use Rattle.hy_core.specs.Resolved.{Head, Expression, Expressions, NoExpressions, MoreExpressions}
use Rattle.hy_core.specs.Resolved.{Clauses, NoClauses, MoreClauses}
use Rattle.hy_core.specs.Resolved.{Functions, NoFunctions, MoreFunctions}
use Rattle.hy_core.specs.Supplied.{Supply, all_supplied, behind, behind_all, behind_clauses}
use Rattle.hy_core.specs.Supplied.{behind_functions, behind_head, behind_sites, clauses_supplied}
use Rattle.hy_core.specs.Supplied.{expression_count, functions_supplied, supplied, supplied_head}
use Rattle.lifted_numbers.specs.TreeNumbers.{all_bare, bare, bare_head, clauses_bare}
use Rattle.lifted_numbers.specs.TreeNumbers.{functions_bare}

head-supplied : (h : Head) (s : Supply) → bare_head (supplied_head h s) ≡ bare_head h
head-supplied (r.Setelement site) s = refl
head-supplied (r.Send node) s = refl
head-supplied (r.Spawn node function) s = refl
head-supplied (r.Display node) s = refl
head-supplied _ s = refl

mutual
  pub bare-supplied : (e : Expression) (s : Supply) → bare (supplied e s) ≡ bare e
  bare-supplied (r.Tuple site es) s = ap (r.Tuple 0) (all-supplied es (behind_sites 1 s))
  bare-supplied (r.ListOf site es e) s =
      let inside = behind_sites (expression_count es) s in
      λ i. r.ListOf 0 (all-supplied es inside i) (bare-supplied e (behind_all es inside) i)
  bare-supplied (r.Values es) s = ap r.Values (all-supplied es s)
  bare-supplied (r.Let xs e b) s =
      λ i. r.Let xs (bare-supplied e s i) (bare-supplied b (behind e s) i)
  bare-supplied (r.Do e b) s = λ i. r.Do (bare-supplied e s i) (bare-supplied b (behind e s) i)
  bare-supplied (r.Case e cs) s =
      λ i. r.Case (bare-supplied e s i) (clauses-supplied cs (behind e s) i)
  bare-supplied (r.Letrec fs e) s =
      λ i. r.Letrec (functions-supplied fs s i) (bare-supplied e (behind_functions fs s) i)
  bare-supplied (r.Call head es) s =
      λ i. r.Call (head-supplied head s i) (all-supplied es (behind_head head s) i)
  bare-supplied (r.Receive cs timeout e) s =
      λ i. r.Receive (clauses-supplied cs s i) timeout (bare-supplied e (behind_clauses cs s) i)
  bare-supplied _ s = refl

  all-supplied : (es : Expressions) (s : Supply) → all_bare (all_supplied es s) ≡ all_bare es
  all-supplied NoExpressions s = refl
  all-supplied (MoreExpressions e es) s =
      λ i. MoreExpressions (bare-supplied e s i) (all-supplied es (behind e s) i)

  clauses-supplied : (cs : Clauses) (s : Supply)
      → clauses_bare (clauses_supplied cs s) ≡ clauses_bare cs
  clauses-supplied NoClauses s = refl
  clauses-supplied (MoreClauses ps g b cs) s =
      let after_guard = behind g s in
      λ i. MoreClauses ps (bare-supplied g s i) (bare-supplied b after_guard i)
      (clauses-supplied cs (behind b after_guard) i)

  functions-supplied : (fs : Functions) (s : Supply)
      → functions_bare (functions_supplied fs s) ≡ functions_bare fs
  functions-supplied NoFunctions s = refl
  functions-supplied (MoreFunctions f xs b fs) s =
      λ i. MoreFunctions f xs (bare-supplied b s i) (functions-supplied fs (behind b s) i)
