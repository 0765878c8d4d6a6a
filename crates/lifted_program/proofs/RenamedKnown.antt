-- A renamed program is known where the program is.
use Rattle.std.proofs.Common.{◌≡◌, ℕ, suc, List, [], ◌∷◌, ◌++◌, length, refl, sym, ap, ◌∙◌, subst}
use Rattle.std.specs.List.{All}
use Rattle.std.proofs.lemmas.List.Elements.{All-nil, All-cons, All-head, All-tail}
use Rattle.hy_core.specs.declared.tree.FunName.{FunName}
use Rattle.hy_core.specs.KnownTrees.{defined, pattern_count, width, HasGuardForms, HaveGuardForms}
use Rattle.hy_core.specs.KnownTrees.{IsCallable, IsKnown, AreKnown, ClausesAreKnown}
use Rattle.hy_core.specs.KnownTrees.{FunctionsAreKnown, IsKnownFunction, arities_of, TreesAreKnown}
use Rattle.hy_core.specs.Resolved as r
use Rattle.hy_core.specs.Resolved.{Patterns, NoPatterns, MorePatterns, Head, Expression}
use Rattle.hy_core.specs.Resolved.{Expressions, NoExpressions, MoreExpressions, Clauses, NoClauses}
use Rattle.hy_core.specs.Resolved.{MoreClauses, Functions, NoFunctions, MoreFunctions, FunctionTree}
use Rattle.hy_core.specs.Scopes.{Scope, with_variables, with_pattern, with_patterns}
use Rattle.hy_core.specs.Supplied.{expression_count}
use Rattle.lifted_program.specs.Renaming.{names_for, renamed_patterns, renamed, renamed_all}
use Rattle.lifted_program.specs.Renaming.{renamed_clauses, renamed_functions, renamed_function}
use Rattle.lifted_program.specs.Renaming.{renamed_program}
use Rattle.lifted_program.proofs.Names.{names_in}
use Rattle.lifted_program.proofs.RenamedNames.{names_with, names_with_patterns, variable_scoped}
use Rattle.lifted_program.proofs.Variables.{bound_in, in_bound}

module _ (limit : ℕ) where
  names_count : (xs : List ℕ) (scope : Scope) → length (names_for limit scope xs) ≡ length xs
  names_count [] scope = refl
  names_count (x ∷ xs) scope = ap suc (names_count xs (x ∷ scope))

  patterns_count : (ps : Patterns) (scope : Scope) → pattern_count (renamed_patterns limit scope ps)
      ≡ pattern_count ps
  patterns_count NoPatterns scope = refl
  patterns_count (MorePatterns p ps) scope = ap suc (patterns_count ps (with_pattern scope p))

  all_count : (es : Expressions) (scope : Scope) → expression_count (renamed_all limit scope es)
      ≡ expression_count es
  all_count NoExpressions scope = refl
  all_count (MoreExpressions e es) scope = ap suc (all_count es scope)

  width_same : (cs : Clauses) (scope : Scope) → width (renamed_clauses limit scope cs) ≡ width cs
  width_same NoClauses scope = refl
  width_same (MoreClauses ps g b cs) scope = patterns_count ps scope

  defined_same : (fs : Functions) (scope : Scope) → defined (renamed_functions limit scope fs)
      ≡ defined fs
  defined_same NoFunctions scope = refl
  defined_same (MoreFunctions f xs b fs) scope = ap (◌∷◌ f) (defined_same fs scope)

  mutual
    guard_same : (e : Expression) (scope : Scope) → HasGuardForms e
        → HasGuardForms (renamed limit scope e)
    guard_same (r.Int n) scope h = tt
    guard_same (r.Atom a) scope h = tt
    guard_same r.Nil scope h = tt
    guard_same (r.Variable x) scope h = tt
    guard_same (r.Let xs e b) scope h =
        (guard_same e scope h.0, guard_same b (with_variables scope xs) h.1)
    guard_same (r.Call (r.BuiltIn b) es) scope h = guards_same es scope h
    guard_same _ scope h = absurd h

    guards_same : (es : Expressions) (scope : Scope) → HaveGuardForms es
        → HaveGuardForms (renamed_all limit scope es)
    guards_same NoExpressions scope h = tt
    guards_same (MoreExpressions e es) scope h = (guard_same e scope h.0, guards_same es scope h.1)

  module _ (arities : List ℕ) where
    -- behind variables that are bound
    bodied : (xs : List ℕ) (scope : Scope) (locals : List FunName) (needs : ℕ) (b : Expression)
        → IsKnown arities (names_in limit (with_variables scope xs)) locals needs b
        → IsKnown arities
        (with_variables (names_in limit scope) (names_for limit scope xs)) locals needs b
    bodied xs scope locals needs b h =
        subst (λ s. IsKnown arities s locals needs b) (sym (names_with limit scope xs)) h

    mutual
      known : (e : Expression) (scope : Scope) (locals : List FunName) (needs : ℕ)
          → IsKnown arities scope locals needs e
          → IsKnown arities (names_in limit scope) locals needs (renamed limit scope e)
      known (r.Int v) scope locals needs h = h
      known (r.Atom a) scope locals needs h = h
      known r.Nil scope locals needs h = h
      known (r.Text site t) scope locals needs h = h
      known (r.Variable x) scope locals needs h = (
        h.0,
        in_bound _ (names_in limit scope) (variable_scoped limit scope x (bound_in x scope h.1)),
      )
      known (r.Tuple site es) scope locals needs h = (h.0, all_known es scope locals h.1)
      known (r.ListOf site es e) scope locals needs h =
          (h.0, all_known es scope locals h.1, known e scope locals 1 h.2)
      known (r.Values es) scope locals needs h =
          (h.0 ∙ sym (all_count es scope), all_known es scope locals h.1)
      known (r.Let xs e b) scope locals needs h =
          let inside = with_variables scope xs in (
            subst (λ n. IsKnown arities (names_in limit scope) locals n (renamed limit scope e))
                (sym (names_count xs scope)) (known e scope locals (length xs) h.0),
            bodied xs scope locals needs (renamed limit inside b) (known b inside locals needs h.1),
          )
      known (r.Do e b) scope locals needs h =
          (known e scope locals 1 h.0, known b scope locals needs h.1)
      known (r.Case e cs) scope locals needs h = (
        subst (λ n. IsKnown arities (names_in limit scope) locals n (renamed limit scope e))
            (sym (width_same cs scope)) (known e scope locals (width cs) h.0),
        subst
            (λ n. ClausesAreKnown arities (names_in limit scope) locals n needs
            (renamed_clauses limit scope cs)) (sym (width_same cs scope))
            (clauses_known cs scope locals (width cs) needs h.1),
      )
      known (r.Letrec fs e) scope locals needs h =
          subst
          (λ ds. FunctionsAreKnown arities (names_in limit scope) (ds ++ locals)
          (renamed_functions limit scope fs)
          × IsKnown arities (names_in limit scope) (ds ++ locals) needs (renamed limit scope e))
          (sym (defined_same fs scope)) (
            functions_known fs scope (defined fs ++ locals) h.0,
            known e scope (defined fs ++ locals) needs h.1,
          )
      known (r.Call head es) scope locals needs h = (
        h.0,
        subst (λ n. IsCallable arities locals n head) (sym (all_count es scope)) h.1,
        all_known es scope locals h.2,
      )
      known (r.Receive cs timeout e) scope locals needs h =
          (clauses_known cs scope locals 1 needs h.0, known e scope locals needs h.1)
      known r.Refused scope locals needs h = absurd h

      all_known : (es : Expressions) (scope : Scope) (locals : List FunName)
          → AreKnown arities scope locals es
          → AreKnown arities (names_in limit scope) locals (renamed_all limit scope es)
      all_known NoExpressions scope locals h = tt
      all_known (MoreExpressions e es) scope locals h =
          (known e scope locals 1 h.0, all_known es scope locals h.1)

      clauses_known : (cs : Clauses) (scope : Scope) (locals : List FunName) (values needs : ℕ)
          → ClausesAreKnown arities scope locals values needs cs
          → ClausesAreKnown arities (names_in limit scope) locals values needs
          (renamed_clauses limit scope cs)
      clauses_known NoClauses scope locals values needs h = tt
      clauses_known (MoreClauses ps g b cs) scope locals values needs h =
          let inside = with_patterns scope ps in
          let same = sym (names_with_patterns limit ps scope) in (
            patterns_count ps scope ∙ h.0,
            guard_same g inside h.1,
            subst (λ s. IsKnown arities s locals 1 (renamed limit inside g)) same
                (known g inside locals 1 h.2),
            subst (λ s. IsKnown arities s locals needs (renamed limit inside b)) same
                (known b inside locals needs h.3),
            clauses_known cs scope locals values needs h.4,
          )

      functions_known : (fs : Functions) (scope : Scope) (locals : List FunName)
          → FunctionsAreKnown arities scope locals fs
          → FunctionsAreKnown arities (names_in limit scope) locals
          (renamed_functions limit scope fs)
      functions_known NoFunctions scope locals h = tt
      functions_known (MoreFunctions f xs b fs) scope locals h =
          let inside = with_variables scope xs in (
            names_count xs scope ∙ h.0,
            bodied xs scope locals 1 (renamed limit inside b) (known b inside locals 1 h.1),
            functions_known fs scope locals h.2,
          )

    tops_known : (fs : List FunctionTree) → All (IsKnownFunction arities) fs
        → All (IsKnownFunction arities) (renamed_program limit fs)
    tops_known [] h = All-nil (IsKnownFunction arities)
    tops_known (f ∷ fs) h =
        let xs = f.parameters in
        let inside = with_variables [] xs in
        All-cons (IsKnownFunction arities) (renamed_function limit [] f) (renamed_program limit fs)
        (bodied xs [] [] 1 (renamed limit inside f.body)
        (known f.body inside [] 1 (All-head (IsKnownFunction arities) f fs h)))
        (tops_known fs (All-tail (IsKnownFunction arities) f fs h))

  same_arities : (fs : List FunctionTree) → arities_of (renamed_program limit fs) ≡ arities_of fs
  same_arities [] = refl
  same_arities (f ∷ fs) = λ i. names_count f.parameters [] i ∷ same_arities fs i

  pub renamed_known : (source : List FunctionTree) → TreesAreKnown source
      → TreesAreKnown (renamed_program limit source)
  renamed_known source h =
      subst (λ a. All (IsKnownFunction a) (renamed_program limit source))
      (sym (same_arities source)) (tops_known (arities_of source) source h)
