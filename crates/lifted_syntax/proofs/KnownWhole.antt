-- Of known trees no form is refused.
use Rattle.std.proofs.Common.{◌≡◌, ℕ, suc, List, [], ◌∷◌, ◌++◌, map, length, refl, ap, ◌∙◌}
use Rattle.std.specs.List.{All}
use Rattle.std.proofs.lemmas.List.Elements.{All-nil, All-cons, All-append, All-head, All-tail}
use Rattle.hy_core.specs.KnownTrees.{IsKnown, AreKnown, ClausesAreKnown, FunctionsAreKnown}
use Rattle.hy_core.specs.KnownTrees.{TreesAreKnown, IsKnownFunction, arities_of, defined, width}
use Rattle.hy_core.specs.ProgramTrees.{function_trees, functions_from, modules_from, resolved}
use Rattle.hy_core.specs.ProgramTrees.{supply_of}
use Rattle.hy_core.specs.Resolve.{Names}
use Rattle.hy_core.specs.Resolved as r
use Rattle.hy_core.specs.Resolved.{Expression, Expressions, NoExpressions, MoreExpressions}
use Rattle.hy_core.specs.Resolved.{Clauses, NoClauses, MoreClauses}
use Rattle.hy_core.specs.Resolved.{Functions, NoFunctions, MoreFunctions, FunctionTree}
use Rattle.hy_core.specs.Scopes.{Scope, with_variables, with_patterns}
use Rattle.hy_core.specs.Supplied.{Supply, behind, behind_all, behind_clauses, behind_functions}
use Rattle.hy_core.specs.Supplied.{behind_head, behind_sites, expression_count, supplied}
use Rattle.hy_core.specs.Supplied.{all_supplied, clauses_supplied, functions_supplied}
use Rattle.hy_core.specs.declared.tree.FunName.{FunName}
use Rattle.hy_core.specs.declared.tree.Function.{Function}
use Rattle.hy_core.specs.declared.tree.Module.{Module}
use Rattle.lifted_syntax.specs.LiftingLaws.{functions_resolved, modules_resolved}
use Rattle.lifted_syntax.specs.Whole.{IsWhole, AreWhole, ClausesAreWhole, FunctionsAreWhole}

module _ (arities : List ℕ) where
  mutual
    whole : (e : Expression) (scope : Scope) (locals : List FunName) (needs : ℕ)
        → IsKnown arities scope locals needs e → IsWhole e
    whole (r.Tuple site es) scope locals needs h = all_whole es scope locals h.1
    whole (r.ListOf site es e) scope locals needs h =
        (all_whole es scope locals h.1, whole e scope locals 1 h.2)
    whole (r.Values es) scope locals needs h = all_whole es scope locals h.1
    whole (r.Let xs e b) scope locals needs h =
        (whole e scope locals (length xs) h.0, whole b (with_variables scope xs) locals needs h.1)
    whole (r.Do e b) scope locals needs h =
        (whole e scope locals 1 h.0, whole b scope locals needs h.1)
    whole (r.Case e cs) scope locals needs h =
        (whole e scope locals (width cs) h.0, clauses_whole cs scope locals (width cs) needs h.1)
    whole (r.Letrec fs e) scope locals needs h =
        let inside = defined fs ++ locals in
        (functions_whole fs scope inside h.0, whole e scope inside needs h.1)
    whole (r.Call head es) scope locals needs h = all_whole es scope locals h.2
    whole (r.Receive cs timeout e) scope locals needs h =
        (clauses_whole cs scope locals 1 needs h.0, whole e scope locals needs h.1)
    whole r.Refused scope locals needs h = h
    whole _ scope locals needs h = tt

    all_whole : (es : Expressions) (scope : Scope) (locals : List FunName)
        → AreKnown arities scope locals es → AreWhole es
    all_whole NoExpressions scope locals h = tt
    all_whole (MoreExpressions e es) scope locals h =
        (whole e scope locals 1 h.0, all_whole es scope locals h.1)

    clauses_whole : (cs : Clauses) (scope : Scope) (locals : List FunName) (values needs : ℕ)
        → ClausesAreKnown arities scope locals values needs cs → ClausesAreWhole cs
    clauses_whole NoClauses scope locals values needs h = tt
    clauses_whole (MoreClauses ps g b cs) scope locals values needs h =
        let inside = with_patterns scope ps in (
          whole g inside locals 1 h.2,
          whole b inside locals needs h.3,
          clauses_whole cs scope locals values needs h.4,
        )

    functions_whole : (fs : Functions) (scope : Scope) (locals : List FunName)
        → FunctionsAreKnown arities scope locals fs → FunctionsAreWhole fs
    functions_whole NoFunctions scope locals h = tt
    functions_whole (MoreFunctions f xs b fs) scope locals h =
        (whole b (with_variables scope xs) locals 1 h.1, functions_whole fs scope locals h.2)

-- numbers that are supplied refuse nothing
mutual
  bare_whole : (e : Expression) (n : Supply) → IsWhole (supplied e n) → IsWhole e
  bare_whole (r.Tuple site es) n h = all_bare es (behind_sites 1 n) h
  bare_whole (r.ListOf site es e) n h =
      let inside = behind_sites (expression_count es) n in
      (all_bare es inside h.0, bare_whole e (behind_all es inside) h.1)
  bare_whole (r.Values es) n h = all_bare es n h
  bare_whole (r.Let xs e b) n h = (bare_whole e n h.0, bare_whole b (behind e n) h.1)
  bare_whole (r.Do e b) n h = (bare_whole e n h.0, bare_whole b (behind e n) h.1)
  bare_whole (r.Case e cs) n h = (bare_whole e n h.0, clauses_bare cs (behind e n) h.1)
  bare_whole (r.Letrec fs e) n h =
      (functions_bare fs n h.0, bare_whole e (behind_functions fs n) h.1)
  bare_whole (r.Call head es) n h = all_bare es (behind_head head n) h
  bare_whole (r.Receive cs timeout e) n h =
      (clauses_bare cs n h.0, bare_whole e (behind_clauses cs n) h.1)
  bare_whole r.Refused n h = h
  bare_whole _ n h = tt

  all_bare : (es : Expressions) (n : Supply) → AreWhole (all_supplied es n) → AreWhole es
  all_bare NoExpressions n h = tt
  all_bare (MoreExpressions e es) n h = (bare_whole e n h.0, all_bare es (behind e n) h.1)

  clauses_bare : (cs : Clauses) (n : Supply) → ClausesAreWhole (clauses_supplied cs n)
      → ClausesAreWhole cs
  clauses_bare NoClauses n h = tt
  clauses_bare (MoreClauses ps g b cs) n h =
      let after_guard = behind g n in (
        bare_whole g n h.0,
        bare_whole b after_guard h.1,
        clauses_bare cs (behind b after_guard) h.2,
      )

  functions_bare : (fs : Functions) (n : Supply) → FunctionsAreWhole (functions_supplied fs n)
      → FunctionsAreWhole fs
  functions_bare NoFunctions n h = tt
  functions_bare (MoreFunctions f xs b fs) n h =
      (bare_whole b n h.0, functions_bare fs (behind b n) h.1)

abbrev BodyIsWhole : FunctionTree → Type 0
BodyIsWhole f = IsWhole f.body

module _ (names : Names) (Known : FunctionTree → Type 0)
    (body : (f : FunctionTree) → Known f → IsWhole f.body) where
  functions_known : (current : ℕ) (sites : List ℕ) (fs : List Function)
      → All Known (functions_from names current sites fs).0
      → All BodyIsWhole (functions_resolved names current fs)
  functions_known current sites [] h = All-nil BodyIsWhole
  functions_known current sites (f ∷ fs) h =
      let e = resolved names current f in
      let supply = supply_of names.atoms f sites in
      let others = functions_from names current (behind e supply).sites fs in
      All-cons BodyIsWhole _ _ (bare_whole e supply (body _ (All-head Known _ others.0 h)))
      (functions_known current (behind e supply).sites fs (All-tail Known _ others.0 h))

  known_left : (xs ys : List FunctionTree) → All Known (xs ++ ys) → All Known xs
  known_left [] ys h = All-nil Known
  known_left (x ∷ xs) ys h =
      All-cons Known x xs (All-head Known x (xs ++ ys) h)
      (known_left xs ys (All-tail Known x (xs ++ ys) h))

  known_right : (xs ys : List FunctionTree) → All Known (xs ++ ys) → All Known ys
  known_right [] ys h = h
  known_right (x ∷ xs) ys h = known_right xs ys (All-tail Known x (xs ++ ys) h)

  modules_known : (sites : List ℕ) (ms : List Module) → All Known (modules_from names sites ms)
      → All BodyIsWhole (modules_resolved names ms)
  modules_known sites [] h = All-nil BodyIsWhole
  modules_known sites (m ∷ ms) h =
      let these = functions_from names m.name sites m.functions in
      let others = modules_from names these.1 ms in
      All-append BodyIsWhole (functions_resolved names m.name m.functions)
      (modules_resolved names ms)
      (functions_known m.name sites m.functions (known_left these.0 others h))
      (modules_known these.1 ms (known_right these.0 others h))

pub known_are_whole : (names : Names) (sites : List ℕ) (ms : List Module)
    → TreesAreKnown (function_trees names sites ms)
    → All (λ f. IsWhole f.body) (modules_resolved names ms)
known_are_whole names sites ms h =
    let arities = arities_of (function_trees names sites ms) in
    modules_known names (IsKnownFunction arities)
    (λ f k. whole arities f.body (with_variables [] f.parameters) [] 1 k) sites ms h
