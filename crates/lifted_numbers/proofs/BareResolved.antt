-- Resolved trees have no numbers, until they are supplied.
use Rattle.std.proofs.Common.{◌≡◌, ℕ, List, [], ◌∷◌, ◌++◌, map, Option, Some, None, Bool, true}
use Rattle.std.proofs.Common.{false, refl, ap, ◌∙◌}
use Rattle.std.specs.Prelude.{if◌then◌else◌}
use Rattle.std.proofs.lemmas.List.{map-append}
use Rattle.hy_terms.specs.Naming.{text_of}
use Rattle.hy_core.specs.BuiltIn.{Operation, Plain, SetsElement, Sends, Spawns, Displays, RaisesAs}
use Rattle.hy_core.specs.ProgramTrees.{functions_from, modules_from, resolved, supply_of}
use Rattle.hy_core.specs.Resolve.{Names, call_of, defined_names, erlang_operation}
use Rattle.hy_core.specs.Resolve.{function_called, function_head, function_number, is_guard_form}
use Rattle.hy_core.specs.Resolve.{is_local, is_match_fail, named_call, received, resolve, resolve_all}
use Rattle.hy_core.specs.Resolve.{resolve_clauses, resolve_definitions, resolve_guard}
use Rattle.hy_core.specs.Resolve.{resolve_spawn, spawn_head, timeout_of}
use Rattle.hy_core.specs.Resolved as r
use Rattle.hy_core.specs.Resolved.{Timeout, Expression, Expressions, NoExpressions, MoreExpressions}
use Rattle.hy_core.specs.Supplied.{behind}
use Rattle.hy_core.specs.Syntax as s
use Rattle.hy_core.specs.Syntax.{Syntax, Syntaxes, NoSyntax, MoreSyntax, count, syntax_of}
use Rattle.hy_core.specs.declared.tree.FunName.{FunName}
use Rattle.hy_core.specs.declared.tree.Function.{Function}
use Rattle.hy_core.specs.declared.tree.Module.{Module}
use Rattle.lifted_numbers.specs.TreeNumbers.{all_bare, bare, bare_function, clauses_bare}
use Rattle.lifted_numbers.specs.TreeNumbers.{functions_bare}
use Rattle.lifted_numbers.proofs.BareSupplied.{bare-supplied}
use Rattle.lifted_syntax.specs.LiftingLaws.{functions_resolved, modules_resolved}

abbrev IsBare : Expression → Type 0
IsBare e = bare e ≡ e

abbrev AreBare : Expressions → Type 0
AreBare es = all_bare es ≡ es

-- a call of a function
function-bare : (o : Option ℕ) (es : Expressions) → AreBare es
    → IsBare (call_of (function_head o) es)
function-bare None es h = refl
function-bare (Some k) es h = ap (r.Call (r.Function k)) h

applied-bare : (b : Bool) (f : FunName) (o : Option ℕ) (es : Expressions) → AreBare es
    → IsBare (call_of (if b then Some (r.Local f) else function_head o) es)
applied-bare true f o es h = ap (r.Call (r.Local f)) h
applied-bare false f o es h = function-bare o es h

spawned-bare : (o : Option ℕ) (es : Expressions) → AreBare es → IsBare (call_of (spawn_head o) es)
spawned-bare None es h = refl
spawned-bare (Some k) es h = ap (r.Call (r.Spawn 0 k)) h

received-bare : (cs : r.Clauses) (o : Option Timeout) (e : Expression) → clauses_bare cs ≡ cs
    → IsBare e → IsBare (received cs o e)
received-bare cs None e h k = refl
received-bare cs (Some t) e h k = λ i. r.Receive (h i) t (k i)

failed-bare : (b : Bool) (es : Expressions) → AreBare es
    → IsBare (if b then r.Call r.MatchFail es else r.Refused)
failed-bare true es h = ap (r.Call r.MatchFail) h
failed-bare false es h = refl

chosen-bare : (b : Bool) (e otherwise : Expression) → IsBare e → IsBare otherwise
    → IsBare (if b then e else otherwise)
chosen-bare true e otherwise h k = h
chosen-bare false e otherwise h k = k

module _ (names : Names) (current : ℕ) where
  named-bare : (m f k : ℕ) (o : Option Operation) (es : Expressions) (spawned : Expression)
      → AreBare es → IsBare spawned → IsBare (named_call names current m f k o es spawned)
  named-bare m f k None es spawned h s = function-bare (function_called names current m f k) es h
  named-bare m f k (Some (Plain p)) es spawned h s = ap (r.Call (r.BuiltIn p)) h
  named-bare m f k (Some SetsElement) es spawned h s = ap (r.Call (r.Setelement 0)) h
  named-bare m f k (Some Sends) es spawned h s = ap (r.Call (r.Send 0)) h
  named-bare m f k (Some Spawns) es spawned h s = s
  named-bare m f k (Some Displays) es spawned h s = ap (r.Call (r.Display 0)) h
  named-bare m f k (Some (RaisesAs class)) es spawned h s = ap (r.Call (r.Raising class)) h

  mutual
    pub resolved-bare : (e : Syntax) (locals : List FunName)
        → IsBare (resolve names current e locals)
    resolved-bare (s.Tuple site es) locals = ap (r.Tuple 0) (all_resolved-bare es locals)
    resolved-bare (s.ListOf site es e) locals =
        λ i. r.ListOf 0 (all_resolved-bare es locals i) (resolved-bare e locals i)
    resolved-bare (s.Values es) locals = ap r.Values (all_resolved-bare es locals)
    resolved-bare (s.Let xs e b) locals =
        λ i. r.Let xs (resolved-bare e locals i) (resolved-bare b locals i)
    resolved-bare (s.Do e b) locals =
        λ i. r.Do (resolved-bare e locals i) (resolved-bare b locals i)
    resolved-bare (s.Case e cs) locals =
        λ i. r.Case (resolved-bare e locals i) (clauses_resolved-bare cs locals i)
    resolved-bare (s.Letrec fs e) locals =
        let inside = defined_names fs ++ locals in
        λ i. r.Letrec (definitions_resolved-bare fs inside i) (resolved-bare e inside i)
    resolved-bare (s.Apply (s.Name f) es) locals =
        applied-bare (is_local f locals) f (function_number names.functions current f)
        (resolve_all names current es locals) (all_resolved-bare es locals)
    resolved-bare (s.Call (s.Atom m) (s.Atom f) es) locals =
        named-bare m f (count es) (erlang_operation names current m f (count es))
        (resolve_all names current es locals) (resolve_spawn names current es locals)
        (all_resolved-bare es locals) (spawn_resolved-bare es locals)
    resolved-bare (s.Primop a es) locals =
        failed-bare (is_match_fail (text_of names.atoms a) (count es))
        (resolve_all names current es locals) (all_resolved-bare es locals)
    resolved-bare (s.Receive cs t e) locals =
        received-bare (resolve_clauses names current cs locals) (timeout_of names current t)
        (resolve names current e locals) (clauses_resolved-bare cs locals)
        (resolved-bare e locals)
    resolved-bare (s.Int n) locals = refl
    resolved-bare (s.Atom a) locals = refl
    resolved-bare s.Nil locals = refl
    resolved-bare (s.Str text) locals = refl
    resolved-bare (s.Var x) locals = refl
    resolved-bare _ locals = refl

    all_resolved-bare : (es : Syntaxes) (locals : List FunName)
        → AreBare (resolve_all names current es locals)
    all_resolved-bare NoSyntax locals = refl
    all_resolved-bare (MoreSyntax e es) locals =
        λ i. MoreExpressions (resolved-bare e locals i) (all_resolved-bare es locals i)

    spawn_resolved-bare : (es : Syntaxes) (locals : List FunName)
        → IsBare (resolve_spawn names current es locals)
    spawn_resolved-bare
        (MoreSyntax (s.Atom m) (MoreSyntax (s.Atom f) (MoreSyntax s.Nil NoSyntax))) locals =
        spawned-bare (function_called names current m f 0) NoExpressions refl
    spawn_resolved-bare
        (MoreSyntax (s.Atom m) (MoreSyntax (s.Atom f)
        (MoreSyntax (s.ListOf site es s.Nil) NoSyntax))) locals =
        spawned-bare (function_called names current m f (count es))
        (resolve_all names current es locals) (all_resolved-bare es locals)
    spawn_resolved-bare _ locals = refl

    guard_resolved-bare : (e : Syntax) (locals : List FunName)
        → IsBare (resolve names current e locals)
        → IsBare (resolve_guard names current e (resolve names current e locals) locals)
    guard_resolved-bare (s.Try e xs (s.Var x) ys (s.Atom a)) locals k =
        chosen-bare (is_guard_form names current xs x ys a) (resolve names current e locals)
        r.Refused (resolved-bare e locals) refl
    guard_resolved-bare _ locals k = k

    clauses_resolved-bare : (cs : s.Clauses) (locals : List FunName)
        → clauses_bare (resolve_clauses names current cs locals)
        ≡ resolve_clauses names current cs locals
    clauses_resolved-bare s.NoClauses locals = refl
    clauses_resolved-bare (s.MoreClauses ps g b cs) locals =
        λ i. r.MoreClauses ps (guard_resolved-bare g locals (resolved-bare g locals) i)
        (resolved-bare b locals i) (clauses_resolved-bare cs locals i)

    definitions_resolved-bare : (fs : s.Definitions) (locals : List FunName)
        → functions_bare (resolve_definitions names current fs locals)
        ≡ resolve_definitions names current fs locals
    definitions_resolved-bare s.NoDefinitions locals = refl
    definitions_resolved-bare (s.MoreDefinitions f xs b fs) locals =
        λ i. r.MoreFunctions f xs (resolved-bare b locals i) (definitions_resolved-bare fs locals i)

functions_from-bare : (names : Names) (current : ℕ) (sites : List ℕ) (fs : List Function)
    → map bare_function (functions_from names current sites fs).0
    ≡ functions_resolved names current fs
functions_from-bare names current sites [] = refl
functions_from-bare names current sites (f ∷ fs) =
    let e = resolved names current f in
    let supply = supply_of names.atoms f sites in
    let body = bare-supplied e supply ∙ resolved-bare names current (syntax_of f.body) [] in
    λ i. record { parameters = f.params; body = body i }
    ∷ functions_from-bare names current (behind e supply).sites fs i

pub modules_from-bare : (names : Names) (sites : List ℕ) (ms : List Module)
    → map bare_function (modules_from names sites ms) ≡ modules_resolved names ms
modules_from-bare names sites [] = refl
modules_from-bare names sites (m ∷ ms) =
    let these = functions_from names m.name sites m.functions in
    map-append bare_function these.0 (modules_from names these.1 ms)
    ∙ (λ i. functions_from-bare names m.name sites m.functions i
    ++ modules_from-bare names these.1 ms i)
