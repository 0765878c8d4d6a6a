-- Resolving syntax that is renamed gives the renamed tree.
use Rattle.std.proofs.Common.{◌≡◌, ℕ, suc, List, ◌∷◌, ◌++◌, Option, Some, None}
use Rattle.std.proofs.Common.{Bool, true, false, refl, ap, ◌∙◌}
use Rattle.std.specs.Prelude.{if◌then◌else◌}
use Rattle.hy_terms.specs.Naming.{text_of}
use Rattle.hy_core.specs.BuiltIn.{Operation, Plain, SetsElement, Sends, Spawns, Displays, RaisesAs}
use Rattle.hy_core.specs.Resolve.{Names, applied_head, call_of, defined_names, erlang_operation}
use Rattle.hy_core.specs.Resolve.{function_called, is_guard_form, is_match_fail, named_call}
use Rattle.hy_core.specs.Resolve.{received, resolve, resolve_all, resolve_clauses}
use Rattle.hy_core.specs.Resolve.{resolve_definitions, resolve_guard, resolve_spawn, spawn_head}
use Rattle.hy_core.specs.Resolve.{timeout_of}
use Rattle.hy_core.specs.Resolved as r
use Rattle.hy_core.specs.Resolved.{Head, Timeout, Expression, Expressions, NoExpressions}
use Rattle.hy_core.specs.Scopes.{Scope, with_variables, with_patterns}
use Rattle.hy_core.specs.Syntax as s
use Rattle.hy_core.specs.Syntax.{Syntax, Syntaxes, NoSyntax, MoreSyntax, count}
use Rattle.hy_core.specs.declared.tree.FunName.{FunName}
use Rattle.lifted_program.specs.Renaming.{names_for, renamed, renamed_all, renamed_patterns}
use Rattle.lifted_program.specs.Renaming.{renamed_clauses as clauses_in}
use Rattle.lifted_program.specs.Renaming.{renamed_functions as functions_in}
use Rattle.renaming.specs.RenamedSyntax.{renamed_syntax, renamed_syntaxes, renamed_clauses}
use Rattle.renaming.specs.RenamedSyntax.{renamed_definitions}
use Rattle.renaming.proofs.RenamedGuards.{guard_form}

module _ (limit : ℕ) (names : Names) (current : ℕ) where
  pub count-renamed : (scope : Scope) (es : Syntaxes)
      → count (renamed_syntaxes limit scope es) ≡ count es
  count-renamed scope NoSyntax = refl
  count-renamed scope (MoreSyntax e es) = ap suc (count-renamed scope es)

  names-renamed : (scope : Scope) (fs : s.Definitions)
      → defined_names (renamed_definitions limit scope fs) ≡ defined_names fs
  names-renamed scope s.NoDefinitions = refl
  names-renamed scope (s.MoreDefinitions f xs b fs) = ap (◌∷◌ f) (names-renamed scope fs)

  timeout-renamed : (scope : Scope) (t : Syntax)
      → timeout_of names current (renamed_syntax limit scope t) ≡ timeout_of names current t
  timeout-renamed scope (s.Int n) = refl
  timeout-renamed scope (s.Atom a) = refl
  timeout-renamed scope _ = refl

  -- what isn't looked into

  call_of-renamed : (scope : Scope) (o : Option Head) (es : Expressions)
      → call_of o (renamed_all limit scope es) ≡ renamed limit scope (call_of o es)
  call_of-renamed scope None es = refl
  call_of-renamed scope (Some head) es = refl

  received-renamed : (scope : Scope) (cs : r.Clauses) (o : Option Timeout) (e : Expression)
      → received (clauses_in limit scope cs) o (renamed limit scope e)
      ≡ renamed limit scope (received cs o e)
  received-renamed scope cs None e = refl
  received-renamed scope cs (Some t) e = refl

  named_call-renamed : (scope : Scope) (m f n : ℕ) (o : Option Operation) (es : Expressions)
      (spawned : Expression)
      → named_call names current m f n o (renamed_all limit scope es) (renamed limit scope spawned)
      ≡ renamed limit scope (named_call names current m f n o es spawned)
  named_call-renamed scope m f n None es spawned = call_of-renamed scope _ es
  named_call-renamed scope m f n (Some (Plain b)) es spawned = refl
  named_call-renamed scope m f n (Some SetsElement) es spawned = refl
  named_call-renamed scope m f n (Some Sends) es spawned = refl
  named_call-renamed scope m f n (Some Spawns) es spawned = refl
  named_call-renamed scope m f n (Some Displays) es spawned = refl
  named_call-renamed scope m f n (Some (RaisesAs class)) es spawned = refl

  abbrev call : (m f : ℕ) → (n : ℕ) → Expressions → (spawned : Expression) → Expression
  call m f n es spawned =
      named_call names current m f n (erlang_operation names current m f n) es spawned

  abbrev match_fail : Bool → Expressions → Expression
  match_fail b es = if b then r.Call r.MatchFail es else r.Refused

  match_fail-renamed : (scope : Scope) (b : Bool) (es : Expressions)
      → match_fail b (renamed_all limit scope es) ≡ renamed limit scope (match_fail b es)
  match_fail-renamed scope true es = refl
  match_fail-renamed scope false es = refl

  chosen-renamed : (scope : Scope) (b : Bool) (e f : Expression)
      → (if b then renamed limit scope e else renamed limit scope f)
      ≡ renamed limit scope (if b then e else f)
  chosen-renamed scope true e f = refl
  chosen-renamed scope false e f = refl

  mutual
    pub resolved-renamed : (scope : Scope) (e : Syntax) (locals : List FunName)
        → resolve names current (renamed_syntax limit scope e) locals
        ≡ renamed limit scope (resolve names current e locals)
    resolved-renamed scope (s.Tuple site es) locals = ap (r.Tuple 0) (all-renamed scope es locals)
    resolved-renamed scope (s.ListOf site es e) locals =
        λ i. r.ListOf 0 (all-renamed scope es locals i) (resolved-renamed scope e locals i)
    resolved-renamed scope (s.Values es) locals = ap r.Values (all-renamed scope es locals)
    resolved-renamed scope (s.Let xs e b) locals =
        λ i. r.Let (names_for limit scope xs) (resolved-renamed scope e locals i)
        (resolved-renamed (with_variables scope xs) b locals i)
    resolved-renamed scope (s.Do e b) locals =
        λ i. r.Do (resolved-renamed scope e locals i) (resolved-renamed scope b locals i)
    resolved-renamed scope (s.Case e cs) locals =
        λ i. r.Case (resolved-renamed scope e locals i) (clauses-renamed scope cs locals i)
    resolved-renamed scope (s.Letrec fs e) locals =
        let under = λ (ns : List FunName).
        r.Letrec (resolve_definitions names current (renamed_definitions limit scope fs)
        (ns ++ locals)) (resolve names current (renamed_syntax limit scope e) (ns ++ locals)) in
        let inside = defined_names fs ++ locals in
        ap under (names-renamed scope fs)
        ∙ (λ i. r.Letrec (definitions-renamed scope fs inside i)
        (resolved-renamed scope e inside i))
    resolved-renamed scope (s.Apply (s.Name f) es) locals =
        ap (call_of (applied_head names current f locals)) (all-renamed scope es locals)
        ∙ call_of-renamed scope (applied_head names current f locals)
        (resolve_all names current es locals)
    resolved-renamed scope (s.Apply _ es) locals = refl
    resolved-renamed scope (s.Call (s.Atom m) (s.Atom f) es) locals =
        (λ i. call m f (count-renamed scope es i) (all-renamed scope es locals i)
        (spawn-renamed scope es locals i))
        ∙ named_call-renamed scope m f (count es) (erlang_operation names current m f (count es))
        (resolve_all names current es locals) (resolve_spawn names current es locals)
    resolved-renamed scope (s.Call (s.Atom m) _ es) locals = refl
    resolved-renamed scope (s.Call _ f es) locals = refl
    resolved-renamed scope (s.Primop a es) locals =
        (λ i. match_fail (is_match_fail (text_of names.atoms a) (count-renamed scope es i))
        (all-renamed scope es locals i))
        ∙ match_fail-renamed scope (is_match_fail (text_of names.atoms a) (count es))
        (resolve_all names current es locals)
    resolved-renamed scope (s.Receive cs t e) locals =
        (λ i. received (clauses-renamed scope cs locals i) (timeout-renamed scope t i)
        (resolved-renamed scope e locals i))
        ∙ received-renamed scope (resolve_clauses names current cs locals)
        (timeout_of names current t) (resolve names current e locals)
    resolved-renamed scope _ locals = refl

    pub all-renamed : (scope : Scope) (es : Syntaxes) (locals : List FunName)
        → resolve_all names current (renamed_syntaxes limit scope es) locals
        ≡ renamed_all limit scope (resolve_all names current es locals)
    all-renamed scope NoSyntax locals = refl
    all-renamed scope (MoreSyntax e es) locals =
        λ i. r.MoreExpressions (resolved-renamed scope e locals i) (all-renamed scope es locals i)

    spawn-renamed : (scope : Scope) (es : Syntaxes) (locals : List FunName)
        → resolve_spawn names current (renamed_syntaxes limit scope es) locals
        ≡ renamed limit scope (resolve_spawn names current es locals)
    spawn-renamed scope
        (MoreSyntax (s.Atom m) (MoreSyntax (s.Atom f) (MoreSyntax s.Nil NoSyntax))) locals =
        call_of-renamed scope (spawn_head (function_called names current m f 0)) NoExpressions
    spawn-renamed scope
        (MoreSyntax (s.Atom m) (MoreSyntax (s.Atom f)
        (MoreSyntax (s.ListOf site es s.Nil) NoSyntax))) locals =
        (λ i. call_of (spawn_head (function_called names current m f (count-renamed scope es i)))
        (all-renamed scope es locals i))
        ∙ call_of-renamed scope (spawn_head (function_called names current m f (count es)))
        (resolve_all names current es locals)
    spawn-renamed scope _ locals = refl

    -- the guard form of `try` is read as its first part
    guard-renamed : (scope : Scope) (e : Syntax) (locals : List FunName)
        → resolve names current (renamed_syntax limit scope e) locals
        ≡ renamed limit scope (resolve names current e locals)
        → resolve_guard names current (renamed_syntax limit scope e)
        (resolve names current (renamed_syntax limit scope e) locals) locals
        ≡ renamed limit scope
        (resolve_guard names current e (resolve names current e locals) locals)
    guard-renamed scope (s.Try e xs (s.Var x) ys (s.Atom a)) locals h =
        (λ i. if guard_form limit names current scope xs x ys a i
        then resolved-renamed scope e locals i else h i)
        ∙ chosen-renamed scope (is_guard_form names current xs x ys a)
        (resolve names current e locals) r.Refused
    guard-renamed scope _ locals h = h

    clauses-renamed : (scope : Scope) (cs : s.Clauses) (locals : List FunName)
        → resolve_clauses names current (renamed_clauses limit scope cs) locals
        ≡ clauses_in limit scope (resolve_clauses names current cs locals)
    clauses-renamed scope s.NoClauses locals = refl
    clauses-renamed scope (s.MoreClauses ps g b cs) locals =
        let inside = with_patterns scope ps in
        λ i. r.MoreClauses (renamed_patterns limit scope ps)
        (guard-renamed inside g locals (resolved-renamed inside g locals) i)
        (resolved-renamed inside b locals i) (clauses-renamed scope cs locals i)

    definitions-renamed : (scope : Scope) (fs : s.Definitions) (locals : List FunName)
        → resolve_definitions names current (renamed_definitions limit scope fs) locals
        ≡ functions_in limit scope (resolve_definitions names current fs locals)
    definitions-renamed scope s.NoDefinitions locals = refl
    definitions-renamed scope (s.MoreDefinitions f xs b fs) locals =
        λ i. r.MoreFunctions f (names_for limit scope xs)
        (resolved-renamed (with_variables scope xs) b locals i)
        (definitions-renamed scope fs locals i)
