-- What is known of a tree is known of it with its numbers.
use Rattle.std.proofs.Common.{◌≡◌, ℕ, suc, List, ◌∷◌, ◌++◌, length, refl, sym, ap, ◌∙◌, subst}
use Rattle.hy_core.specs.KnownTrees.{GivesAsNeeded, HasGuardForms, HaveGuardForms, IsCallable, IsKnown, AreKnown, ClausesAreKnown, FunctionsAreKnown, defined, width}
use Rattle.hy_core.specs.Resolved as r
use Rattle.hy_core.specs.Resolved.{Head, Expression, Expressions, NoExpressions, MoreExpressions, Clauses, NoClauses, MoreClauses, Functions, NoFunctions, MoreFunctions}
use Rattle.hy_core.specs.Scopes.{Scope}
use Rattle.hy_core.specs.Supplied.{Supply, supplied, all_supplied, clauses_supplied, functions_supplied, supplied_head, behind, behind_all, behind_clauses, behind_functions, behind_head, behind_sites, expression_count}
use Rattle.hy_core.specs.declared.tree.FunName.{FunName}

pub count_supplied : (es : Expressions) (supply : Supply) → expression_count (all_supplied es supply) ≡ expression_count es
count_supplied NoExpressions supply = refl
count_supplied (MoreExpressions e es) supply = ap suc (count_supplied es (behind e supply))

width_supplied : (cs : Clauses) (supply : Supply) → width (clauses_supplied cs supply) ≡ width cs
width_supplied NoClauses supply = refl
width_supplied (MoreClauses ps g b cs) supply = refl

defined_supplied : (fs : Functions) (supply : Supply) → defined (functions_supplied fs supply) ≡ defined fs
defined_supplied NoFunctions supply = refl
defined_supplied (MoreFunctions f xs b fs) supply = ap (λ gs. f ∷ gs) (defined_supplied fs (behind b supply))

mutual
  guard_supplied : (e : Expression) (supply : Supply) → HasGuardForms e → HasGuardForms (supplied e supply)
  guard_supplied (r.Int n) supply h = tt
  guard_supplied (r.Atom a) supply h = tt
  guard_supplied r.Nil supply h = tt
  guard_supplied (r.Variable x) supply h = tt
  guard_supplied (r.Let xs e b) supply h = (guard_supplied e supply h.0, guard_supplied b (behind e supply) h.1)
  guard_supplied (r.Call (r.BuiltIn b) es) supply h = guards_supplied es supply h
  guard_supplied _ supply h = absurd h

  guards_supplied : (es : Expressions) (supply : Supply) → HaveGuardForms es → HaveGuardForms (all_supplied es supply)
  guards_supplied NoExpressions supply h = tt
  guards_supplied (MoreExpressions e es) supply h = (guard_supplied e supply h.0, guards_supplied es (behind e supply) h.1)

module _ (arities : List ℕ) where
  head_supplied : (locals : List FunName) (needs n : ℕ) (head : Head) (supply : Supply) → GivesAsNeeded arities needs head × IsCallable arities locals n head
      → GivesAsNeeded arities needs (supplied_head head supply) × IsCallable arities locals n (supplied_head head supply)
  head_supplied locals needs n (r.BuiltIn b) supply h = h
  head_supplied locals needs n (r.Function f) supply h = h
  head_supplied locals needs n (r.Local f) supply h = h
  head_supplied locals needs n (r.Setelement site) supply h = h
  head_supplied locals needs n (r.Send node) supply h = h
  head_supplied locals needs n (r.Spawn node f) supply h = h
  head_supplied locals needs n (r.Display node) supply h = h
  head_supplied locals needs n (r.Raising class) supply h = h
  head_supplied locals needs n r.MatchFail supply h = h

  mutual
    pub known_supplied : (e : Expression) (scope : Scope) (locals : List FunName) (needs : ℕ) (supply : Supply) → IsKnown arities scope locals needs e
        → IsKnown arities scope locals needs (supplied e supply)
    known_supplied (r.Int n) scope locals needs supply h = h
    known_supplied (r.Atom a) scope locals needs supply h = h
    known_supplied r.Nil scope locals needs supply h = h
    known_supplied (r.Text site text) scope locals needs supply h = h
    known_supplied (r.Variable x) scope locals needs supply h = h
    known_supplied (r.Tuple site es) scope locals needs supply h = (h.0, all_known es scope locals (behind_sites 1 supply) h.1)
    known_supplied (r.ListOf site es e) scope locals needs supply h =
        let inside = behind_sites (expression_count es) supply in
        (h.0, all_known es scope locals inside h.1, known_supplied e scope locals 1 (behind_all es inside) h.2)
    known_supplied (r.Values es) scope locals needs supply h = (h.0 ∙ sym (count_supplied es supply), all_known es scope locals supply h.1)
    known_supplied (r.Let xs e b) scope locals needs supply h =
        (known_supplied e scope locals (length xs) supply h.0, known_supplied b _ locals needs (behind e supply) h.1)
    known_supplied (r.Do e b) scope locals needs supply h =
        (known_supplied e scope locals 1 supply h.0, known_supplied b scope locals needs (behind e supply) h.1)
    known_supplied (r.Case e cs) scope locals needs supply h =
        let after = behind e supply in
        subst (λ n. IsKnown arities scope locals n (supplied e supply) × ClausesAreKnown arities scope locals n needs (clauses_supplied cs after)) (sym (width_supplied cs after))
        (known_supplied e scope locals (width cs) supply h.0, clauses_known cs scope locals (width cs) needs after h.1)
    known_supplied (r.Letrec fs e) scope locals needs supply h =
        subst (λ gs. FunctionsAreKnown arities scope (gs ++ locals) (functions_supplied fs supply) × IsKnown arities scope (gs ++ locals) needs (supplied e (behind_functions fs supply))) (sym (defined_supplied fs supply))
        (functions_known fs scope (defined fs ++ locals) supply h.0, known_supplied e scope (defined fs ++ locals) needs (behind_functions fs supply) h.1)
    known_supplied (r.Call head es) scope locals needs supply h =
        let after = behind_head head supply in
        let called = head_supplied locals needs (expression_count es) head supply (h.0, h.1) in
        (called.0, subst (λ n. IsCallable arities locals n (supplied_head head supply)) (sym (count_supplied es after)) called.1, all_known es scope locals after h.2)
    known_supplied (r.Receive cs timeout e) scope locals needs supply h =
        (clauses_known cs scope locals 1 needs supply h.0, known_supplied e scope locals needs (behind_clauses cs supply) h.1)
    known_supplied r.Refused scope locals needs supply h = h

    all_known : (es : Expressions) (scope : Scope) (locals : List FunName) (supply : Supply) → AreKnown arities scope locals es → AreKnown arities scope locals (all_supplied es supply)
    all_known NoExpressions scope locals supply h = tt
    all_known (MoreExpressions e es) scope locals supply h = (known_supplied e scope locals 1 supply h.0, all_known es scope locals (behind e supply) h.1)

    clauses_known : (cs : Clauses) (scope : Scope) (locals : List FunName) (values needs : ℕ) (supply : Supply) → ClausesAreKnown arities scope locals values needs cs
        → ClausesAreKnown arities scope locals values needs (clauses_supplied cs supply)
    clauses_known NoClauses scope locals values needs supply h = tt
    clauses_known (MoreClauses ps g b cs) scope locals values needs supply h =
        let after = behind g supply in
        (h.0, guard_supplied g supply h.1, known_supplied g _ locals 1 supply h.2, known_supplied b _ locals needs after h.3, clauses_known cs scope locals values needs (behind b after) h.4)

    functions_known : (fs : Functions) (scope : Scope) (locals : List FunName) (supply : Supply) → FunctionsAreKnown arities scope locals fs
        → FunctionsAreKnown arities scope locals (functions_supplied fs supply)
    functions_known NoFunctions scope locals supply h = tt
    functions_known (MoreFunctions f xs b fs) scope locals supply h =
        (h.0, known_supplied b _ locals 1 supply h.1, functions_known fs scope locals (behind b supply) h.2)
