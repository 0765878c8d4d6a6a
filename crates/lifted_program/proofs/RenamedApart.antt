-- In a renamed program no binding stands in the scope of another of its variable.
use Rattle.std.proofs.Common.{◌≡◌, ℕ, List, [], ◌∷◌, false, sym, subst, inr}
use Rattle.std.specs.List.{All}
use Rattle.std.proofs.lemmas.List.Elements.{All-nil, All-cons}
use Rattle.hy_core.specs.Resolved as r
use Rattle.hy_core.specs.Resolved.{Pattern, Patterns, NoPatterns, MorePatterns, Expression}
use Rattle.hy_core.specs.Resolved.{Expressions, NoExpressions, MoreExpressions, Clauses, NoClauses}
use Rattle.hy_core.specs.Resolved.{MoreClauses, Functions, NoFunctions, MoreFunctions, FunctionTree}
use Rattle.hy_core.specs.Scopes.{Scope, is_bound, with_variables, with_pattern, with_patterns}
use Rattle.lifted_program.specs.Apart.{AreNew, IsNewPattern, AreNewPatterns, BindsApart, BindApart}
use Rattle.lifted_program.specs.Apart.{ClausesBindApart, FunctionsBindApart, FunctionBindsApart}
use Rattle.lifted_program.specs.Renaming.{name_for, names_for, renamed_pattern, renamed_patterns}
use Rattle.lifted_program.specs.Renaming.{renamed, renamed_all, renamed_clauses, renamed_functions}
use Rattle.lifted_program.specs.Renaming.{renamed_function, renamed_program}
use Rattle.lifted_program.proofs.Names.{names_in, name_fresh}
use Rattle.lifted_program.proofs.RenamedNames.{names_with, names_with_pattern}
use Rattle.lifted_program.proofs.RenamedNames.{names_with_patterns}
use Rattle.lifted_program.proofs.Variables.{AllOut, out_unbound, unbound_out, all_out_from}
use Rattle.lifted_program.proofs.Variables.{all_out_append, in_with_pattern, in_with_patterns}
use Rattle.lifted_program.proofs.Variables.{pattern_variables, patterns_variables}

-- what is new in a scope is out of it
pub new_out : (xs : List ℕ) (s : Scope) → AreNew s xs → AllOut xs s
new_out [] s h = tt
new_out (x ∷ xs) s h =
    (unbound_out x s h.0, all_out_from xs s (x ∷ s) (λ y i. inr i) (new_out xs (x ∷ s) h.1))

mutual
  pattern_out : (p : Pattern) (s : Scope) → IsNewPattern s p → AllOut (pattern_variables p) s
  pattern_out (r.AnyTerm x) s h = (unbound_out x s h, tt)
  pattern_out (r.TheTuple ps) s h = patterns_out ps s h
  pattern_out (r.TheList ps p) s h =
      let inside = with_patterns s ps in
      all_out_append (patterns_variables ps) (pattern_variables p) s (patterns_out ps s h.0)
      (all_out_from (pattern_variables p) s inside (in_with_patterns ps s)
      (pattern_out p inside h.1))
  pattern_out (r.Alias x p) s h = (
    unbound_out x s h.0,
    all_out_from (pattern_variables p) s (x ∷ s) (λ y i. inr i) (pattern_out p (x ∷ s) h.1),
  )
  pattern_out _ s h = tt

  pub patterns_out : (ps : Patterns) (s : Scope) → AreNewPatterns s ps
      → AllOut (patterns_variables ps) s
  patterns_out NoPatterns s h = tt
  patterns_out (MorePatterns p ps) s h =
      let inside = with_pattern s p in
      all_out_append (pattern_variables p) (patterns_variables ps) s (pattern_out p s h.0)
      (all_out_from (patterns_variables ps) s inside (in_with_pattern p s)
      (patterns_out ps inside h.1))

module _ (limit : ℕ) where
  name_new : (scope : Scope) (x : ℕ) → is_bound (name_for limit scope x) (names_in limit scope)
      ≡ false
  name_new scope x =
      out_unbound (name_for limit scope x) (names_in limit scope) (name_fresh limit scope x)

  pub names_new : (xs : List ℕ) (scope : Scope)
      → AreNew (names_in limit scope) (names_for limit scope xs)
  names_new [] scope = tt
  names_new (x ∷ xs) scope = (name_new scope x, names_new xs (x ∷ scope))

  mutual
    pattern_new : (p : Pattern) (scope : Scope)
        → IsNewPattern (names_in limit scope) (renamed_pattern limit scope p)
    pattern_new (r.AnyTerm x) scope = name_new scope x
    pattern_new (r.TheTuple ps) scope = patterns_new ps scope
    pattern_new (r.TheList ps p) scope =
        let inside = with_patterns scope ps in (
          patterns_new ps scope,
          subst (λ s. IsNewPattern s (renamed_pattern limit inside p))
              (sym (names_with_patterns limit ps scope)) (pattern_new p inside),
        )
    pattern_new (r.Alias x p) scope = (name_new scope x, pattern_new p (x ∷ scope))
    pattern_new _ scope = tt

    pub patterns_new : (ps : Patterns) (scope : Scope)
        → AreNewPatterns (names_in limit scope) (renamed_patterns limit scope ps)
    patterns_new NoPatterns scope = tt
    patterns_new (MorePatterns p ps) scope =
        let inside = with_pattern scope p in (
          pattern_new p scope,
          subst (λ s. AreNewPatterns s (renamed_patterns limit inside ps))
              (sym (names_with_pattern limit p scope)) (patterns_new ps inside),
        )

  bodied : (xs : List ℕ) (scope : Scope) (b : Expression)
      → BindsApart (names_in limit (with_variables scope xs)) b
      → BindsApart (with_variables (names_in limit scope) (names_for limit scope xs)) b
  bodied xs scope b h = subst (λ s. BindsApart s b) (sym (names_with limit scope xs)) h

  mutual
    apart : (e : Expression) (scope : Scope)
        → BindsApart (names_in limit scope) (renamed limit scope e)
    apart (r.Int v) scope = tt
    apart (r.Atom a) scope = tt
    apart r.Nil scope = tt
    apart (r.Text site t) scope = tt
    apart (r.Variable x) scope = tt
    apart (r.Tuple site es) scope = all_apart es scope
    apart (r.ListOf site es e) scope = (all_apart es scope, apart e scope)
    apart (r.Values es) scope = all_apart es scope
    apart (r.Let xs e b) scope = (
      apart e scope,
      names_new xs scope,
      bodied xs scope (renamed limit (with_variables scope xs) b)
          (apart b (with_variables scope xs)),
    )
    apart (r.Do e b) scope = (apart e scope, apart b scope)
    apart (r.Case e cs) scope = (apart e scope, clauses_apart cs scope)
    apart (r.Letrec fs e) scope = (functions_apart fs scope, apart e scope)
    apart (r.Call head es) scope = all_apart es scope
    apart (r.Receive cs timeout e) scope = (clauses_apart cs scope, apart e scope)
    apart r.Refused scope = tt

    all_apart : (es : Expressions) (scope : Scope)
        → BindApart (names_in limit scope) (renamed_all limit scope es)
    all_apart NoExpressions scope = tt
    all_apart (MoreExpressions e es) scope = (apart e scope, all_apart es scope)

    clauses_apart : (cs : Clauses) (scope : Scope)
        → ClausesBindApart (names_in limit scope) (renamed_clauses limit scope cs)
    clauses_apart NoClauses scope = tt
    clauses_apart (MoreClauses ps g b cs) scope =
        let inside = with_patterns scope ps in
        let same = sym (names_with_patterns limit ps scope) in (
          patterns_new ps scope,
          subst (λ s. BindsApart s (renamed limit inside g)) same (apart g inside),
          subst (λ s. BindsApart s (renamed limit inside b)) same (apart b inside),
          clauses_apart cs scope,
        )

    functions_apart : (fs : Functions) (scope : Scope)
        → FunctionsBindApart (names_in limit scope) (renamed_functions limit scope fs)
    functions_apart NoFunctions scope = tt
    functions_apart (MoreFunctions f xs b fs) scope = (
      names_new xs scope,
      bodied xs scope (renamed limit (with_variables scope xs) b)
          (apart b (with_variables scope xs)),
      functions_apart fs scope,
    )

  pub renamed_apart : (source : List FunctionTree)
      → All FunctionBindsApart (renamed_program limit source)
  renamed_apart [] = All-nil FunctionBindsApart
  renamed_apart (f ∷ fs) =
      All-cons FunctionBindsApart (renamed_function limit [] f) (renamed_program limit fs) (
        names_new f.parameters [],
        bodied f.parameters [] (renamed limit (with_variables [] f.parameters) f.body)
            (apart f.body (with_variables [] f.parameters)),
      ) (renamed_apart fs)
