-- A renamed program is one in which no two bindings of one name meet.
use Rattle.std.proofs.Common.{◌≡◌, ℕ, suc, ◌+◌, ◌<◌, List, ◌++◌, length, Some}
use Rattle.std.proofs.Common.{Bool, true, false, refl, sym, ap, ◌∙◌, subst}
use Rattle.std.specs.Prelude.{◌||◌, if◌then◌else◌}
use Rattle.hy_core.specs.declared.tree.FunName.{FunName}
use Rattle.hy_core.specs.Resolve.{is_local}
use Rattle.hy_core.specs.Resolved as r
use Rattle.hy_core.specs.Resolved.{Pattern, Patterns, NoPatterns, MorePatterns, Head, Expression}
use Rattle.hy_core.specs.Resolved.{Expressions, NoExpressions, MoreExpressions, Clauses, NoClauses}
use Rattle.hy_core.specs.Resolved.{MoreClauses, Functions, NoFunctions, MoreFunctions, FunctionTree}
use Rattle.hy_core.specs.Resolved.{is_name}
use Rattle.hy_core.specs.KnownTrees.{defined, width, IsCallable, Takes, IsKnown, AreKnown}
use Rattle.hy_core.specs.KnownTrees.{ClausesAreKnown, FunctionsAreKnown}
use Rattle.hy_core.specs.Scopes.{Scope, with_variables, with_patterns}
use Rattle.hy_core.specs.Supplied.{expression_count}
use Rattle.lifted_program.specs.Renaming.{names_for}
use Rattle.lifted_program.specs.Renaming.{renamed_patterns, renamed, renamed_all}
use Rattle.lifted_program.specs.Renaming.{renamed_clauses, renamed_functions}
use Rattle.lifted_program.specs.LetrecNumbers.{count, count_all, count_clauses, count_functions}
use Rattle.lifted_program.specs.LetrecNumbers.{Reach, reach_of, number_in}
use Rattle.lifted_program.proofs.Names.{names_in}
use Rattle.lifted_program.proofs.RenamedApart.{new_out, patterns_out, names_new, patterns_new}
use Rattle.lifted_program.proofs.RenamedNames.{names_with, names_with_patterns, variable_scoped}
use Rattle.lifted_program.proofs.ReadyLemmas.{Scoped, ScopedAll, ScopedClauses, ScopedFunctions}
use Rattle.lifted_program.proofs.Variables.{bound_in}

module _ (limit : ℕ) where
  module _ (tops : ℕ) (program : List FunctionTree) (captured : ℕ → List ℕ) where
    -- the functions in reach have these names
    abbrev pub Covers : List FunName → Reach → Type 0
    Covers names reach =
        (f : FunName) → is_local f names ≡ true → (k : ℕ) × (number_in reach f ≡ Some k)

    covers_more : (fs : Functions) (scope : Scope) (names : List FunName) (reach : Reach) (n : ℕ)
        → Covers names reach
        → Covers (defined fs ++ names) (reach_of n (renamed_functions limit scope fs) ++ reach)
    covers_more NoFunctions scope names reach n h = h
    covers_more (MoreFunctions g xs b fs) scope names reach n h =
        let m = suc (n + count (renamed limit (with_variables scope xs) b)) in
        let rest = covers_more fs scope names reach m h in
        λ f p. by_case f rest (is_name g f) refl p
      where
        by_case : (f : FunName)
            → Covers (defined fs ++ names)
            (reach_of (suc (n + count (renamed limit (with_variables scope xs) b)))
            (renamed_functions limit scope fs) ++ reach) → (c : Bool) → is_name g f ≡ c
            → (c || is_local f (defined fs ++ names)) ≡ true → (k : ℕ)
            × (number_in
            (reach_of n (renamed_functions limit scope (MoreFunctions g xs b fs)) ++ reach) f
            ≡ Some k)
        by_case f rest true q p = (
          n,
          ap
              (λ c. if c then Some n else number_in
              (reach_of (suc (n + count (renamed limit (with_variables scope xs) b)))
              (renamed_functions limit scope fs) ++ reach) f) q,
        )
        by_case f rest false q p =
            let o = rest f p in (
              o.0,
              ap
                  (λ c. if c then Some n else number_in
                  (reach_of (suc (n + count (renamed limit (with_variables scope xs) b)))
                  (renamed_functions limit scope fs) ++ reach) f) q ∙ o.1,
            )

    abbrev pub Is : List ℕ → Reach → ℕ → Expression → Type 0
    Is = Scoped captured tops program

    module _ (arities : List ℕ) (below : (f n : ℕ) → Takes arities f n → f < tops) where
      head_scoped : (head : Head) (names : List FunName) (reach : Reach) → Covers names reach
          → (k : ℕ) → IsCallable arities names k head → (es : Expressions) (s : List ℕ) (n : ℕ)
          → ScopedAll captured tops program s reach n es → Is s reach n (r.Call head es)
      head_scoped (r.Local f) names reach c k h es s n a = (c f h.0, a)
      head_scoped (r.BuiltIn b) names reach c k h es s n a = (tt, a)
      head_scoped (r.Function f) names reach c k h es s n a = (below f k h, a)
      head_scoped (r.Setelement site) names reach c k h es s n a = (tt, a)
      head_scoped (r.Send node) names reach c k h es s n a = (tt, a)
      head_scoped (r.Spawn node f) names reach c k h es s n a = (below f k h, a)
      head_scoped (r.Display node) names reach c k h es s n a = (tt, a)
      head_scoped (r.Raising class) names reach c k h es s n a = (tt, a)
      head_scoped r.MatchFail names reach c k h es s n a = (tt, a)

      mutual
        pub scoped : (e : Expression) (scope : Scope) (names : List FunName) (needs : ℕ)
            (reach : Reach) (n : ℕ) → Covers names reach → IsKnown arities scope names needs e
            → Is (names_in limit scope) reach n (renamed limit scope e)
        scoped (r.Int v) scope names needs reach n c h = tt
        scoped (r.Atom a) scope names needs reach n c h = tt
        scoped r.Nil scope names needs reach n c h = tt
        scoped (r.Text site t) scope names needs reach n c h = tt
        scoped (r.Variable x) scope names needs reach n c h =
            variable_scoped limit scope x (bound_in x scope h.1)
        scoped (r.Tuple site es) scope names needs reach n c h =
            scoped_all es scope names reach n c h.1
        scoped (r.ListOf site es e) scope names needs reach n c h = (
          scoped_all es scope names reach n c h.1,
          scoped e scope names 1 reach (n + count_all (renamed_all limit scope es)) c h.2,
        )
        scoped (r.Values es) scope names needs reach n c h = scoped_all es scope names reach n c h.1
        scoped (r.Let xs e b) scope names needs reach n c h =
            let inner = with_variables scope xs in
            let m = n + count (renamed limit scope e) in (
              scoped e scope names (length xs) reach n c h.0,
              new_out (names_for limit scope xs) (names_in limit scope) (names_new limit xs scope),
              subst (λ s. Is s reach m (renamed limit inner b)) (sym (names_with limit scope xs))
                  (scoped b inner names needs reach m c h.1),
            )
        scoped (r.Do e b) scope names needs reach n c h = (
          scoped e scope names 1 reach n c h.0,
          scoped b scope names needs reach (n + count (renamed limit scope e)) c h.1,
        )
        scoped (r.Case e cs) scope names needs reach n c h = (
          scoped e scope names (width cs) reach n c h.0,
          scoped_clauses cs scope names (width cs) needs reach
              (n + count (renamed limit scope e)) c h.1,
        )
        scoped (r.Letrec fs e) scope names needs reach n c h =
            let gs = renamed_functions limit scope fs in
            let inner = reach_of n gs ++ reach in
            let more = covers_more fs scope names reach n c in (
              scoped_functions fs scope (defined fs ++ names) inner n more h.0,
              scoped e scope (defined fs ++ names) needs inner (n + count_functions gs) more h.1,
            )
        scoped (r.Call head es) scope names needs reach n c h =
            head_scoped head names reach c (expression_count es) h.1 (renamed_all limit scope es)
            (names_in limit scope) n (scoped_all es scope names reach n c h.2)
        scoped (r.Receive cs timeout e) scope names needs reach n c h = (
          scoped_clauses cs scope names 1 needs reach n c h.0,
          scoped e scope names needs reach
              (n + count_clauses (renamed_clauses limit scope cs)) c h.1,
        )
        scoped r.Refused scope names needs reach n c h = absurd h

        scoped_all : (es : Expressions) (scope : Scope) (names : List FunName) (reach : Reach)
            (n : ℕ) → Covers names reach → AreKnown arities scope names es
            → ScopedAll captured tops program (names_in limit scope) reach n
            (renamed_all limit scope es)
        scoped_all NoExpressions scope names reach n c h = tt
        scoped_all (MoreExpressions e es) scope names reach n c h = (
          scoped e scope names 1 reach n c h.0,
          scoped_all es scope names reach (n + count (renamed limit scope e)) c h.1,
        )

        scoped_clauses : (cs : Clauses) (scope : Scope) (names : List FunName) (values needs : ℕ)
            (reach : Reach) (n : ℕ) → Covers names reach
            → ClausesAreKnown arities scope names values needs cs
            → ScopedClauses captured tops program (names_in limit scope) reach n
            (renamed_clauses limit scope cs)
        scoped_clauses NoClauses scope names values needs reach n c h = tt
        scoped_clauses (MoreClauses ps g b cs) scope names values needs reach n c h =
            let inner = with_patterns scope ps in
            let m = n + count (renamed limit inner g) in
            let same = sym (names_with_patterns limit ps scope) in (
              patterns_out (renamed_patterns limit scope ps) (names_in limit scope)
                  (patterns_new limit ps scope),
              subst (λ s. Is s reach n (renamed limit inner g)) same
                  (scoped g inner names 1 reach n c h.2),
              subst (λ s. Is s reach m (renamed limit inner b)) same
                  (scoped b inner names needs reach m c h.3),
              scoped_clauses cs scope names values needs reach
                  (m + count (renamed limit inner b)) c h.4,
            )

        scoped_functions : (fs : Functions) (scope : Scope) (names : List FunName) (reach : Reach)
            (n : ℕ) → Covers names reach → FunctionsAreKnown arities scope names fs
            → ScopedFunctions captured tops program (names_in limit scope) reach n
            (renamed_functions limit scope fs)
        scoped_functions NoFunctions scope names reach n c h = tt
        scoped_functions (MoreFunctions f xs b fs) scope names reach n c h =
            let inner = with_variables scope xs in (
              new_out (names_for limit scope xs) (names_in limit scope) (names_new limit xs scope),
              subst (λ s. Is s reach (suc n) (renamed limit inner b))
                  (sym (names_with limit scope xs))
                  (scoped b inner names 1 reach (suc n) c h.1),
              scoped_functions fs scope names reach (suc (n + count (renamed limit inner b))) c h.2,
            )
