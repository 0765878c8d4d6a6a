-- In trees of which no form is refused, as many functions of letrecs stand as in their texts.
use Rattle.std.proofs.Common.{◌≡◌, ℕ, suc, ◌+◌, List, ◌++◌, Option, Some, None, Bool}
use Rattle.std.proofs.Common.{true, false, refl, ◌∙◌, arith}
use Rattle.std.specs.Prelude.{if◌then◌else◌}
use Rattle.hy_terms.specs.Naming.{text_of}
use Rattle.hy_core.specs.BuiltIn.{Operation, Plain, SetsElement, Sends, Spawns, Displays, RaisesAs}
use Rattle.hy_core.specs.Resolve.{Names, applied_head, call_of, defined_names, erlang_operation}
use Rattle.hy_core.specs.Resolve.{function_called, function_head, is_guard_form, is_match_fail}
use Rattle.hy_core.specs.Resolve.{named_call, received, resolve, resolve_all, resolve_clauses}
use Rattle.hy_core.specs.Resolve.{resolve_definitions, resolve_guard, resolve_spawn, spawn_head}
use Rattle.hy_core.specs.Resolve.{timeout_of}
use Rattle.hy_core.specs.Resolved as r
use Rattle.hy_core.specs.Resolved.{Head, Timeout, Expression, Expressions, NoExpressions}
use Rattle.hy_core.specs.Syntax as s
use Rattle.hy_core.specs.Syntax.{Syntax, Syntaxes, NoSyntax, MoreSyntax, count as size}
use Rattle.hy_core.specs.declared.tree.FunName.{FunName}
use Rattle.lifted_program.specs.LetrecNumbers as tree
use Rattle.lifted_syntax.specs.LiftedSyntax.{count, count_all, count_clauses, count_definitions}
use Rattle.lifted_syntax.specs.Whole.{IsWhole, AreWhole, ClausesAreWhole, FunctionsAreWhole}

-- what a call that isn't refused has

pub call_counted : (o : Option Head) (es : Expressions) → IsWhole (call_of o es) → AreWhole es
call_counted None es h = absurd h
call_counted (Some head) es h = h

call_count : (o : Option Head) (es : Expressions) → IsWhole (call_of o es)
    → tree.count (call_of o es) ≡ tree.count_all es
call_count None es h = absurd h
call_count (Some head) es h = refl

pub received_parts : (cs : r.Clauses) (o : Option Timeout) (e : Expression)
    → IsWhole (received cs o e) → ClausesAreWhole cs × IsWhole e
received_parts cs None e h = absurd h
received_parts cs (Some t) e h = h

received_count : (cs : r.Clauses) (o : Option Timeout) (e : Expression)
    → IsWhole (received cs o e) → tree.count (received cs o e)
    ≡ tree.count_clauses cs + tree.count e
received_count cs None e h = absurd h
received_count cs (Some t) e h = refl

pub match_fail_parts : (b : Bool) (es : Expressions)
    → IsWhole (if b then r.Call r.MatchFail es else r.Refused) → AreWhole es
match_fail_parts true es h = h
match_fail_parts false es h = absurd h

match_fail_count : (b : Bool) (es : Expressions)
    → IsWhole (if b then r.Call r.MatchFail es else r.Refused)
    → tree.count (if b then r.Call r.MatchFail es else r.Refused) ≡ tree.count_all es
match_fail_count true es h = refl
match_fail_count false es h = absurd h

chosen_count : (b : Bool) (e : Expression) (n : ℕ) → (IsWhole e → tree.count e ≡ n)
    → IsWhole (if b then e else r.Refused) → tree.count (if b then e else r.Refused) ≡ n
chosen_count true e n k h = k h
chosen_count false e n k h = absurd h

module _ (names : Names) (current : ℕ) where
  abbrev Count : Expression → ℕ → Type 0
  Count e n = IsWhole e → tree.count e ≡ n

  named_count : (m f k : ℕ) (o : Option Operation) (es : Expressions) (spawned : Expression) (n : ℕ)
      → (AreWhole es → tree.count_all es ≡ n) → Count spawned n
      → Count (named_call names current m f k o es spawned) n
  named_count m f k None es spawned n a b h =
      let o = function_head (function_called names current m f k) in
      call_count o es h ∙ a (call_counted o es h)
  named_count m f k (Some (Plain p)) es spawned n a b h = a h
  named_count m f k (Some SetsElement) es spawned n a b h = a h
  named_count m f k (Some Sends) es spawned n a b h = a h
  named_count m f k (Some Spawns) es spawned n a b h = b h
  named_count m f k (Some Displays) es spawned n a b h = a h
  named_count m f k (Some (RaisesAs class)) es spawned n a b h = a h

  mutual
    pub counted : (e : Syntax) (locals : List FunName)
        → Count (resolve names current e locals) (count e)
    counted (s.Tuple site es) locals h = all_counted es locals h
    counted (s.ListOf site es e) locals h =
        λ i. all_counted es locals h.0 i + counted e locals h.1 i
    counted (s.Values es) locals h = all_counted es locals h
    counted (s.Let xs e b) locals h = λ i. counted e locals h.0 i + counted b locals h.1 i
    counted (s.Do e b) locals h = λ i. counted e locals h.0 i + counted b locals h.1 i
    counted (s.Case e cs) locals h = λ i. counted e locals h.0 i + clauses_counted cs locals h.1 i
    counted (s.Letrec fs e) locals h =
        let inside = defined_names fs ++ locals in
        λ i. definitions_counted fs inside h.0 i + counted e inside h.1 i
    counted (s.Apply (s.Name f) es) locals h =
        let o = applied_head names current f locals in
        let parts = resolve_all names current es locals in
        call_count o parts h ∙ all_counted es locals (call_counted o parts h)
    counted (s.Call (s.Atom m) (s.Atom f) es) locals h =
        named_count m f (size es) (erlang_operation names current m f (size es))
        (resolve_all names current es locals) (resolve_spawn names current es locals)
        (count_all es) (all_counted es locals) (spawn_counted es locals) h
    counted (s.Primop a es) locals h =
        let b = is_match_fail (text_of names.atoms a) (size es) in
        let parts = resolve_all names current es locals in
        match_fail_count b parts h ∙ all_counted es locals (match_fail_parts b parts h)
    counted (s.Receive cs t e) locals h =
        let o = timeout_of names current t in
        let clauses = resolve_clauses names current cs locals in
        let body = resolve names current e locals in
        let parts = received_parts clauses o body h in
        received_count clauses o body h
        ∙ (λ i. clauses_counted cs locals parts.0 i + counted e locals parts.1 i)
    counted (s.Int n) locals h = refl
    counted (s.Atom a) locals h = refl
    counted s.Nil locals h = refl
    counted (s.Str text) locals h = refl
    counted (s.Var x) locals h = refl
    counted _ locals h = absurd h

    pub all_counted : (es : Syntaxes) (locals : List FunName)
        → AreWhole (resolve_all names current es locals)
        → tree.count_all (resolve_all names current es locals) ≡ count_all es
    all_counted NoSyntax locals h = refl
    all_counted (MoreSyntax e es) locals h =
        λ i. counted e locals h.0 i + all_counted es locals h.1 i

    spawn_counted : (es : Syntaxes) (locals : List FunName)
        → Count (resolve_spawn names current es locals) (count_all es)
    spawn_counted
        (MoreSyntax (s.Atom m) (MoreSyntax (s.Atom f) (MoreSyntax s.Nil NoSyntax))) locals h =
        call_count (spawn_head (function_called names current m f 0)) NoExpressions h
    spawn_counted
        (MoreSyntax (s.Atom m) (MoreSyntax (s.Atom f)
        (MoreSyntax (s.ListOf site es s.Nil) NoSyntax))) locals h =
        let o = spawn_head (function_called names current m f (size es)) in
        let parts = resolve_all names current es locals in
        let own = all_counted es locals (call_counted o parts h) in
        let none : count_all es ≡ 0 + (0 + (count_all es + 0 + 0)) = omega arith in
        call_count o parts h ∙ own ∙ none
    spawn_counted _ locals h = absurd h

    pub guard_counted : (e : Syntax) (locals : List FunName)
        → Count (resolve names current e locals) (count e)
        → Count (resolve_guard names current e (resolve names current e locals) locals) (count e)
    guard_counted (s.Try e xs (s.Var x) ys (s.Atom a)) locals k h =
        chosen_count (is_guard_form names current xs x ys a) (resolve names current e locals)
        (count e) (counted e locals) h
    guard_counted _ locals k h = k h

    pub clauses_counted : (cs : s.Clauses) (locals : List FunName)
        → ClausesAreWhole (resolve_clauses names current cs locals)
        → tree.count_clauses (resolve_clauses names current cs locals) ≡ count_clauses cs
    clauses_counted s.NoClauses locals h = refl
    clauses_counted (s.MoreClauses ps g b cs) locals h =
        λ i. guard_counted g locals (counted g locals) h.0 i
        + (counted b locals h.1 i + clauses_counted cs locals h.2 i)

    pub definitions_counted : (fs : s.Definitions) (locals : List FunName)
        → FunctionsAreWhole (resolve_definitions names current fs locals)
        → tree.count_functions (resolve_definitions names current fs locals)
        ≡ count_definitions fs
    definitions_counted s.NoDefinitions locals h = refl
    definitions_counted (s.MoreDefinitions f xs b fs) locals h =
        λ i. suc (counted b locals h.0 i + definitions_counted fs locals h.1 i)
