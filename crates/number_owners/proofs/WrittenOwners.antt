-- The owners of events in syntax are those of its resolved tree, where no form of that is refused.
use Rattle.std.proofs.Common.{◌≡◌, ℕ, suc, ◌+◌, List, [], ◌∷◌, ◌++◌, Option, Some, None, Bool}
use Rattle.std.proofs.Common.{true, false, refl, sym, ap, ◌∙◌, arith, if◌then◌else◌}
use Rattle.std.proofs.lemmas.List.{append-nil}
use Rattle.hy_terms.specs.Naming.{text_of}
use Rattle.hy_core.specs.BuiltIn.{Operation, Plain, SetsElement, Sends, Spawns, Displays, RaisesAs}
use Rattle.hy_core.specs.ProgramTrees.{does_event}
use Rattle.hy_core.specs.Resolve.{Names, call_of, defined_names, erlang_operation}
use Rattle.hy_core.specs.Resolve.{function_called, function_head, function_number, is_guard_form}
use Rattle.hy_core.specs.Resolve.{is_local, is_match_fail, named_call, received, resolve}
use Rattle.hy_core.specs.Resolve.{resolve_all, resolve_clauses, resolve_definitions}
use Rattle.hy_core.specs.Resolve.{resolve_guard, resolve_spawn, spawn_head, timeout_of}
use Rattle.hy_core.specs.Resolved as r
use Rattle.hy_core.specs.Resolved.{Expression, Expressions, NoExpressions, Timeout}
use Rattle.hy_core.specs.Syntax as s
use Rattle.hy_core.specs.Syntax.{Syntax, Syntaxes, NoSyntax, MoreSyntax}
use Rattle.hy_core.specs.Syntax.{count as size}
use Rattle.hy_core.specs.declared.tree.FunName.{FunName}
use Rattle.lifted_program.specs.LetrecNumbers as tree
use Rattle.lifted_syntax.specs.LiftedSyntax.{count, count_clauses}
use Rattle.lifted_syntax.specs.Whole.{IsWhole, AreWhole, ClausesAreWhole, FunctionsAreWhole}
use Rattle.lifted_syntax.proofs.LiftedCounts.{all_counted, clauses_counted, counted}
use Rattle.lifted_syntax.proofs.LiftedCounts.{definitions_counted, guard_counted, received_parts}
use Rattle.number_owners.specs.EventOwners.{all_event_owners, clauses_event_owners, event_owners}
use Rattle.number_owners.specs.EventOwners.{functions_event_owners}
use Rattle.number_owners.specs.WrittenOwners as w

-- one part, and behind it another one, at the number behind the first
joined : {c d : ℕ} {os ps : List ℕ} (n : ℕ) (f g : ℕ → List ℕ) → os ≡ ps → c ≡ d
    → ((m : ℕ) → f m ≡ g m) → os ++ f (n + d) ≡ ps ++ g (n + c)
joined {c = c} {d = d} n f g p is q =
    λ i. p i ++ (ap (λ c. f (n + c)) (sym is) ∙ q (n + c)) i

module _ (names : Names) (current : ℕ) where
  abbrev R : Syntax → List FunName → Expression
  R = resolve names current

  abbrev Rs : Syntaxes → List FunName → Expressions
  Rs = resolve_all names current

  abbrev W : (owner n : ℕ) → Syntax → List ℕ
  W = w.written_owners names.atoms

  abbrev Ws : (owner n : ℕ) → Syntaxes → List ℕ
  Ws = w.all_written_owners names.atoms

  -- a call without an event of its own

  applied : (b : Bool) (f : FunName) (top : Option ℕ) (ts : Expressions) (k n : ℕ) (os : List ℕ)
      → (AreWhole ts → os ≡ all_event_owners k n ts)
      → IsWhole (call_of (if b then Some (r.Local f) else function_head top) ts)
      → os ≡ event_owners k n (call_of (if b then Some (r.Local f) else function_head top) ts)
  applied true f top ts k n os same h = same h
  applied false f (Some g) ts k n os same h = same h
  applied false f None ts k n os same h = absurd h

  function_call : (g : Option ℕ) (ts : Expressions) (k n : ℕ) (os : List ℕ)
      → (AreWhole ts → os ≡ all_event_owners k n ts) → IsWhole (call_of (function_head g) ts)
      → os ≡ event_owners k n (call_of (function_head g) ts)
  function_call None ts k n os same h = absurd h
  function_call (Some g) ts k n os same h = same h

  spawned_call : (g : Option ℕ) (ts : Expressions) (k n : ℕ) (os : List ℕ)
      → (AreWhole ts → os ≡ all_event_owners k n ts) → IsWhole (call_of (spawn_head g) ts)
      → k ∷ os ≡ event_owners k n (call_of (spawn_head g) ts)
  spawned_call None ts k n os same h = absurd h
  spawned_call (Some g) ts k n os same h = ap (λ os. k ∷ os) (same h)

  -- a call by names, whose arguments have these owners
  named : (a b arity : ℕ) (o : Option Operation) (ts : Expressions) (t : Expression) (k n : ℕ)
      (os : List ℕ) → (AreWhole ts → os ≡ all_event_owners k n ts)
      → (IsWhole t → k ∷ os ≡ event_owners k n t)
      → IsWhole (named_call names current a b arity o ts t)
      → (if does_event o then k ∷ [] else []) ++ os
      ≡ event_owners k n (named_call names current a b arity o ts t)
  named a b arity None ts t k n os same spawned h =
      function_call (function_called names current a b arity) ts k n os same h
  named a b arity (Some (Plain p)) ts t k n os same spawned h = same h
  named a b arity (Some SetsElement) ts t k n os same spawned h = same h
  named a b arity (Some Sends) ts t k n os same spawned h = ap (λ os. k ∷ os) (same h)
  named a b arity (Some Spawns) ts t k n os same spawned h = spawned h
  named a b arity (Some Displays) ts t k n os same spawned h = ap (λ os. k ∷ os) (same h)
  named a b arity (Some (RaisesAs class)) ts t k n os same spawned h = same h

  failing : (b : Bool) (ts : Expressions) (k n : ℕ) (os : List ℕ)
      → (AreWhole ts → os ≡ all_event_owners k n ts)
      → IsWhole (if b then r.Call r.MatchFail ts else r.Refused)
      → os ≡ event_owners k n (if b then r.Call r.MatchFail ts else r.Refused)
  failing true ts k n os same h = same h
  failing false ts k n os same h = absurd h

  waiting : (t : Option Timeout) (ds : r.Clauses) (e : Expression) (k n : ℕ) (os : List ℕ)
      → os ≡ clauses_event_owners k n ds ++ event_owners k (n + tree.count_clauses ds) e
      → IsWhole (received ds t e) → os ≡ event_owners k n (received ds t e)
  waiting None ds e k n os same h = absurd h
  waiting (Some t) ds e k n os same h = same

  -- a timeout has no events
  timeout_none : (t : Syntax) (ds : r.Clauses) (e : Expression) (k n : ℕ)
      → IsWhole (received ds (timeout_of names current t) e) → W k n t ≡ []
  timeout_none (s.Int v) ds e k n h = refl
  timeout_none (s.Atom a) ds e k n h = refl
  timeout_none _ ds e k n h = absurd h

  chosen : (b : Bool) (e : Expression) (k n : ℕ) (os : List ℕ)
      → (IsWhole e → os ≡ event_owners k n e) → IsWhole (if b then e else r.Refused)
      → os ≡ event_owners k n (if b then e else r.Refused)
  chosen true e k n os same h = same h
  chosen false e k n os same h = absurd h

  mutual
    pub owners_are : (e : Syntax) (k n : ℕ) (locals : List FunName) → IsWhole (R e locals)
        → W k n e ≡ event_owners k n (R e locals)
    owners_are (s.Int v) k n locals h = refl
    owners_are (s.Atom a) k n locals h = refl
    owners_are s.Nil k n locals h = refl
    owners_are (s.Str text) k n locals h = refl
    owners_are (s.Var x) k n locals h = refl
    owners_are (s.Tuple site es) k n locals h = all_are es k n locals h
    owners_are (s.ListOf site es e) k n locals h =
        joined n (λ m. W k m e) (λ m. event_owners k m (R e locals)) (all_are es k n locals h.0)
        (all_counted names current es locals h.0) (λ m. owners_are e k m locals h.1)
    owners_are (s.Values es) k n locals h = all_are es k n locals h
    owners_are (s.Let xs e b) k n locals h =
        joined n (λ m. W k m b) (λ m. event_owners k m (R b locals)) (owners_are e k n locals h.0)
        (counted names current e locals h.0) (λ m. owners_are b k m locals h.1)
    owners_are (s.Do e b) k n locals h =
        joined n (λ m. W k m b) (λ m. event_owners k m (R b locals)) (owners_are e k n locals h.0)
        (counted names current e locals h.0) (λ m. owners_are b k m locals h.1)
    owners_are (s.Case e cs) k n locals h =
        joined n (λ m. w.clauses_written_owners names.atoms k m cs)
        (λ m. clauses_event_owners k m (resolve_clauses names current cs locals))
        (owners_are e k n locals h.0) (counted names current e locals h.0)
        (λ m. clauses_are cs k m locals h.1)
    owners_are (s.Letrec fs e) k n locals h =
        let inside = defined_names fs ++ locals in
        joined n (λ m. W k m e) (λ m. event_owners k m (R e inside))
        (definitions_are fs n inside h.0) (definitions_counted names current fs inside h.0)
        (λ m. owners_are e k m inside h.1)
    owners_are (s.Apply (s.Name f) es) k n locals h =
        applied (is_local f locals) f (function_number names.functions current f) (Rs es locals) k
        n (Ws k n es) (all_are es k n locals) h
    owners_are (s.Call (s.Atom a) (s.Atom b) es) k n locals h =
        named a b (size es) (erlang_operation names current a b (size es)) (Rs es locals)
        (resolve_spawn names current es locals) k n (Ws k n es) (all_are es k n locals)
        (spawn_are es k n locals) h
    owners_are (s.Primop a es) k n locals h =
        failing (is_match_fail (text_of names.atoms a) (size es)) (Rs es locals) k n (Ws k n es)
        (all_are es k n locals) h
    owners_are (s.Receive cs t e) k n locals h =
        let ds = resolve_clauses names current cs locals in
        let whole = received_parts ds (timeout_of names current t) (R e locals) h in
        let before = w.clauses_written_owners names.atoms k n cs in
        let behind = W k (n + count_clauses cs) e in
        waiting (timeout_of names current t) ds (R e locals) k n
        (before ++ (W k n t ++ behind))
        (ap (λ os. before ++ (os ++ behind)) (timeout_none t ds (R e locals) k n h)
        ∙ joined n (λ m. W k m e) (λ m. event_owners k m (R e locals))
        (clauses_are cs k n locals whole.0) (clauses_counted names current cs locals whole.0)
        (λ m. owners_are e k m locals whole.1)) h
    owners_are _ k n locals h = absurd h

    all_are : (es : Syntaxes) (k n : ℕ) (locals : List FunName) → AreWhole (Rs es locals)
        → Ws k n es ≡ all_event_owners k n (Rs es locals)
    all_are NoSyntax k n locals h = refl
    all_are (MoreSyntax e es) k n locals h =
        joined n (λ m. Ws k m es) (λ m. all_event_owners k m (Rs es locals))
        (owners_are e k n locals h.0) (counted names current e locals h.0)
        (λ m. all_are es k m locals h.1)

    spawn_are : (es : Syntaxes) (k n : ℕ) (locals : List FunName)
        → IsWhole (resolve_spawn names current es locals)
        → k ∷ Ws k n es ≡ event_owners k n (resolve_spawn names current es locals)
    spawn_are (MoreSyntax (s.Atom a) (MoreSyntax (s.Atom b) (MoreSyntax s.Nil NoSyntax))) k n
        locals h =
        spawned_call (function_called names current a b 0) NoExpressions k n [] (λ _. refl) h
    spawn_are
        (MoreSyntax (s.Atom a) (MoreSyntax (s.Atom b)
        (MoreSyntax (s.ListOf site es s.Nil) NoSyntax))) k n locals h =
        let m = n + 0 + 0 in
        let same : m ≡ n = omega arith in
        spawned_call (function_called names current a b (size es)) (Rs es locals) k n
        ((Ws k m es ++ []) ++ [])
        (λ whole.
        append-nil (Ws k m es ++ []) ∙ append-nil (Ws k m es) ∙ ap (λ m. Ws k m es) same
        ∙ all_are es k n locals whole) h
    spawn_are _ k n locals h = absurd h

    guard_are : (g : Syntax) (k n : ℕ) (locals : List FunName)
        → (IsWhole (R g locals) → W k n g ≡ event_owners k n (R g locals))
        → IsWhole (resolve_guard names current g (R g locals) locals)
        → W k n g ≡ event_owners k n (resolve_guard names current g (R g locals) locals)
    guard_are (s.Try e xs (s.Var x) ys (s.Atom a)) k n locals same h =
        append-nil (W k n e)
        ∙ chosen (is_guard_form names current xs x ys a) (R e locals) k n (W k n e)
        (owners_are e k n locals) h
    guard_are _ k n locals same h = same h

    clauses_are : (cs : s.Clauses) (k n : ℕ) (locals : List FunName)
        → ClausesAreWhole (resolve_clauses names current cs locals)
        → w.clauses_written_owners names.atoms k n cs
        ≡ clauses_event_owners k n (resolve_clauses names current cs locals)
    clauses_are s.NoClauses k n locals h = refl
    clauses_are (s.MoreClauses ps g b cs) k n locals h =
        let guard = resolve_guard names current g (R g locals) locals in
        let many = guard_counted names current g locals (counted names current g locals) h.0 in
        joined n
        (λ m. W k m b ++ w.clauses_written_owners names.atoms k (m + count b) cs)
        (λ m. event_owners k m (R b locals)
        ++ clauses_event_owners k (m + tree.count (R b locals))
        (resolve_clauses names current cs locals))
        (guard_are g k n locals (owners_are g k n locals) h.0) many
        (λ m. joined m (λ l. w.clauses_written_owners names.atoms k l cs)
        (λ l. clauses_event_owners k l (resolve_clauses names current cs locals))
        (owners_are b k m locals h.1) (counted names current b locals h.1)
        (λ l. clauses_are cs k l locals h.2))

    definitions_are : (fs : s.Definitions) (n : ℕ) (locals : List FunName)
        → FunctionsAreWhole (resolve_definitions names current fs locals)
        → w.definitions_written_owners names.atoms n fs
        ≡ functions_event_owners n (resolve_definitions names current fs locals)
    definitions_are s.NoDefinitions n locals h = refl
    definitions_are (s.MoreDefinitions f xs b fs) n locals h =
        joined n (λ m. w.definitions_written_owners names.atoms (suc m) fs)
        (λ m. functions_event_owners (suc m) (resolve_definitions names current fs locals))
        (owners_are b n (suc n) locals h.0) (counted names current b locals h.0)
        (λ m. definitions_are fs (suc m) locals h.1)
