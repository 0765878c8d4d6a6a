-- Nor does it resolve to an empty one.
use Rattle.std.proofs.Common.{◌≡◌, ℕ, suc, Bool, true, false, List, refl, ap, arith}
use Rattle.std.proofs.Common.{Option, Some, None, if◌then◌else◌}
use Rattle.hy_terms.specs.Naming.{text_of}
use Rattle.hy_core.specs.BuiltIn.{Operation, Plain, SetsElement, Sends, Spawns, Displays, RaisesAs}
use Rattle.hy_core.specs.Resolve.{Names, applied_head, call_of, erlang_operation}
use Rattle.hy_core.specs.Resolve.{function_called, function_head, is_guard_form, is_match_fail}
use Rattle.hy_core.specs.Resolve.{named_call, received, resolve, resolve_all, resolve_clauses}
use Rattle.hy_core.specs.Resolve.{resolve_definitions, resolve_guard, resolve_spawn, spawn_head}
use Rattle.hy_core.specs.Resolve.{timeout_of}
use Rattle.hy_core.specs.Resolved as r
use Rattle.hy_core.specs.Resolved.{Expression, Expressions}
use Rattle.hy_core.specs.Supplied.{expression_count}
use Rattle.hy_core.specs.Syntax as s
use Rattle.hy_core.specs.Syntax.{Syntax, Syntaxes, NoSyntax, MoreSyntax, count}
use Rattle.hy_core.specs.declared.tree.FunName.{FunName}
use Rattle.lifted_numbers.specs.TreeNumbers as tree
use Rattle.list_heads.proofs.WrittenHeads.{AllHaveHeads, ClausesHaveHeads, DefinitionsHaveHeads}
use Rattle.list_heads.proofs.WrittenHeads.{HasHeads}

module _ (names : Names) (current : ℕ) where
  count_resolved : (xs : Syntaxes) (locals : List FunName)
      → expression_count (resolve_all names current xs locals) ≡ count xs
  count_resolved NoSyntax locals = refl
  count_resolved (MoreSyntax x xs) locals = ap (λ n. suc n) (count_resolved xs locals)

  -- a call has what its arguments have

  called : (head : Option r.Head) (es : Expressions) → tree.AllHaveHeads es
      → tree.HasHeads (call_of head es)
  called None es h = tt
  called (Some head) es h = h

  named : (a b n : ℕ) (o : Option Operation) (es : Expressions) (spawned : Expression)
      → tree.AllHaveHeads es → tree.HasHeads spawned
      → tree.HasHeads (named_call names current a b n o es spawned)
  named a b n None es spawned h k =
      called (function_head (function_called names current a b n)) es h
  named a b n (Some (Plain f)) es spawned h k = h
  named a b n (Some SetsElement) es spawned h k = h
  named a b n (Some Sends) es spawned h k = h
  named a b n (Some Spawns) es spawned h k = k
  named a b n (Some Displays) es spawned h k = h
  named a b n (Some (RaisesAs class)) es spawned h k = h

  waiting : (cs : r.Clauses) (timeout : Option r.Timeout) (e : Expression)
      → tree.ClausesHaveHeads cs → tree.HasHeads e → tree.HasHeads (received cs timeout e)
  waiting cs None e h k = tt
  waiting cs (Some timeout) e h k = (h, k)

  failing : (b : Bool) (es : Expressions) → tree.AllHaveHeads es
      → tree.HasHeads (if b then r.Call r.MatchFail es else r.Refused)
  failing true es h = h
  failing false es h = tt

  either : (b : Bool) (e f : Expression) → tree.HasHeads e → tree.HasHeads f
      → tree.HasHeads (if b then e else f)
  either true e f h k = h
  either false e f h k = k

  mutual
    pub resolved_has : (x : Syntax) (locals : List FunName) → HasHeads x
        → tree.HasHeads (resolve names current x locals)
    resolved_has (s.Tuple site parts) locals h = all_have parts locals h
    resolved_has (s.ListOf site heads tail) locals h =
        let same = count_resolved heads locals in (
          omega (arith, h.0, same),
          all_have heads locals h.1,
          resolved_has tail locals h.2,
        )
    resolved_has (s.Values parts) locals h = all_have parts locals h
    resolved_has (s.Let xs value body) locals h =
        (resolved_has value locals h.0, resolved_has body locals h.1)
    resolved_has (s.Do first second) locals h =
        (resolved_has first locals h.0, resolved_has second locals h.1)
    resolved_has (s.Case value clauses) locals h =
        (resolved_has value locals h.0, clauses_have clauses locals h.1)
    resolved_has (s.Letrec functions body) locals h =
        (definitions_have functions _ h.0, resolved_has body _ h.1)
    resolved_has (s.Apply (s.Name f) args) locals h =
        called (applied_head names current f locals) _ (all_have args locals h.1)
    resolved_has (s.Call (s.Atom a) (s.Atom b) args) locals h =
        named a b (count args) (erlang_operation names current a b (count args)) _ _
        (all_have args locals h.2) (spawn_has args locals h.2)
    resolved_has (s.Primop name args) locals h =
        failing (is_match_fail (text_of names.atoms name) (count args)) _ (all_have args locals h)
    resolved_has (s.Receive clauses timeout body) locals h =
        waiting _ (timeout_of names current timeout) _ (clauses_have clauses locals h.0)
        (resolved_has body locals h.2)
    resolved_has _ locals h = tt

    all_have : (xs : Syntaxes) (locals : List FunName) → AllHaveHeads xs
        → tree.AllHaveHeads (resolve_all names current xs locals)
    all_have NoSyntax locals h = tt
    all_have (MoreSyntax x xs) locals h = (resolved_has x locals h.0, all_have xs locals h.1)

    spawn_has : (xs : Syntaxes) (locals : List FunName) → AllHaveHeads xs
        → tree.HasHeads (resolve_spawn names current xs locals)
    spawn_has (MoreSyntax (s.Atom a) (MoreSyntax (s.Atom b) (MoreSyntax s.Nil NoSyntax))) locals
        h =
        called (spawn_head (function_called names current a b 0)) r.NoExpressions tt
    spawn_has
        (MoreSyntax (s.Atom a)
        (MoreSyntax (s.Atom b) (MoreSyntax (s.ListOf site heads s.Nil) NoSyntax))) locals h =
        called (spawn_head (function_called names current a b (count heads))) _
        (all_have heads locals h.1.1.0.1)
    spawn_has _ locals h = tt

    guard_has : (x : Syntax) (otherwise : Expression) (locals : List FunName) → HasHeads x
        → tree.HasHeads otherwise → tree.HasHeads (resolve_guard names current x otherwise locals)
    guard_has (s.Try value vars (s.Var x) caught (s.Atom a)) otherwise locals h k =
        either (is_guard_form names current vars x caught a) _ _ (resolved_has value locals h.0) k
    guard_has _ otherwise locals h k = k

    clauses_have : (cs : s.Clauses) (locals : List FunName) → ClausesHaveHeads cs
        → tree.ClausesHaveHeads (resolve_clauses names current cs locals)
    clauses_have s.NoClauses locals h = tt
    clauses_have (s.MoreClauses ps guard body cs) locals h = (
      guard_has guard _ locals h.0 (resolved_has guard locals h.0),
      resolved_has body locals h.1,
      clauses_have cs locals h.2,
    )

    definitions_have : (fs : s.Definitions) (locals : List FunName) → DefinitionsHaveHeads fs
        → tree.FunctionsHaveHeads (resolve_definitions names current fs locals)
    definitions_have s.NoDefinitions locals h = tt
    definitions_have (s.MoreDefinitions f xs body fs) locals h =
        (resolved_has body locals h.0, definitions_have fs locals h.1)
