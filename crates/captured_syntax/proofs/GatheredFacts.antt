-- What is gathered of syntax are the facts of its resolved tree, where no form of that is refused.
use Rattle.std.proofs.Common.{◌≡◌, ℕ, suc, ◌+◌, ◌-◌, List, [], ◌∷◌, ◌++◌, Option, Some, None, Bool}
use Rattle.std.proofs.Common.{true, false, true≢false, refl, sym, ap, ◌∙◌, arith, append_assoc}
use Rattle.std.proofs.Common.{length, length-append}
use Rattle.std.specs.Prelude.{◌||◌, if◌then◌else◌}
use Rattle.std.proofs.lemmas.List.{append-nil}
use Rattle.hy_terms.specs.Naming.{text_of}
use Rattle.hy_core.specs.BuiltIn.{Operation, Plain, SetsElement, Sends, Spawns, Displays, RaisesAs}
use Rattle.hy_core.specs.Resolve.{Names, applied_head, call_of, defined_names, erlang_operation}
use Rattle.hy_core.specs.Resolve.{function_called, function_head, function_number, is_guard_form}
use Rattle.hy_core.specs.Resolve.{is_local, is_match_fail, named_call, received, resolve}
use Rattle.hy_core.specs.Resolve.{resolve_all, resolve_clauses, resolve_definitions}
use Rattle.hy_core.specs.Resolve.{resolve_guard, resolve_spawn, spawn_head, timeout_of}
use Rattle.hy_core.specs.Resolved as r
use Rattle.hy_core.specs.Resolved.{Timeout, Expression, Expressions, NoExpressions, Patterns}
use Rattle.hy_core.specs.Resolved.{is_name}
use Rattle.hy_core.specs.Scopes.{with_variables, with_patterns}
use Rattle.hy_core.specs.Syntax as s
use Rattle.hy_core.specs.Syntax.{Syntax, Syntaxes, NoSyntax, MoreSyntax, count as size}
use Rattle.hy_core.specs.declared.tree.FunName.{FunName}
use Rattle.capture_flow.specs.declared.fact.Fact.{Fact}
use Rattle.lifted_program.specs.LetrecNumbers as tree
use Rattle.lifted_program.specs.LetrecNumbers.{Reach, number_in}
use Rattle.lifted_syntax.specs.LiftedSyntax.{count, count_all, count_clauses, count_definitions}
use Rattle.lifted_syntax.specs.LiftedSyntax.{reach_of}
use Rattle.lifted_syntax.specs.LiftingLaws.{names_in}
use Rattle.lifted_syntax.specs.Whole.{IsWhole, AreWhole, ClausesAreWhole, FunctionsAreWhole}
use Rattle.lifted_syntax.proofs.LiftedCounts.{call_counted, received_parts}
use Rattle.lifted_syntax.proofs.LiftedCounts.{counted, all_counted, guard_counted, clauses_counted}
use Rattle.lifted_syntax.proofs.LiftedCounts.{definitions_counted}
use Rattle.lifted_syntax.proofs.LiftedResolved.{reach-same, reach-names}
use Rattle.captured_facts.proofs.Places.{within_patterns, within_variables}
use Rattle.captured_facts.specs.Facts.{facts, facts_all, facts_clauses, facts_functions}
use Rattle.captured_facts.specs.Facts.{using, using_some}
use Rattle.captured_syntax.proofs.Back.{back_within, behind_front}
use Rattle.captured_syntax.specs.Gathered.{back_to, beginning, begun, binding, entering}
use Rattle.captured_syntax.specs.Gathered.{gathered, gathered_all, gathered_clauses}
use Rattle.captured_syntax.specs.Gathered.{gathered_definitions, leaving, matching, noting}
use Rattle.captured_syntax.specs.Gathered.{Gathering}
use Rattle.captured_facts.specs.declared.owner.Owner.{Owner}

-- so many functions further, with these facts
abbrev pub after : Gathering → ℕ → List Fact → Gathering
after w c q = record {
  scope = w.scope;
  around = w.around;
  next = w.next + c;
  facts = w.facts ++ q;
}

pub after-none : (w : Gathering) → w ≡ after w 0 []
after-none w =
    let n : w.next ≡ w.next + 0 = omega arith in
    λ i. record {
      scope = w.scope;
      around = w.around;
      next = n i;
      facts = sym (append-nil w.facts) i;
    }

after-noted : (w : Gathering) (q : List Fact) → noting w q ≡ after w 0 q
after-noted w q =
    let n : w.next ≡ w.next + 0 = omega arith in
    λ i. record { scope = w.scope; around = w.around; next = n i; facts = w.facts ++ q }

pub after-both : (w : Gathering) (c d : ℕ) (q q' : List Fact)
    → after (after w c q) d q' ≡ after w (c + d) (q ++ q')
after-both w c d q q' =
    let n : (w.next + c) + d ≡ w.next + (c + d) = omega arith in
    λ i. record {
      scope = w.scope;
      around = w.around;
      next = n i;
      facts = append_assoc w.facts q q' i;
    }

-- one part after another; the facts of the second are by the number that it begins with
pub follows : {v : Gathering} {c' : ℕ} (w : Gathering) (F : Gathering → Gathering) (c d : ℕ) (q : List Fact)
    (G : ℕ → List Fact) → v ≡ after w c q
    → F (after w c q) ≡ after (after w c q) d (G (w.next + c)) → c' ≡ c
    → F v ≡ after w (c + d) (q ++ G (w.next + c'))
follows w F c d q G h k e =
    ap F h ∙ k ∙ after-both w c d q (G (w.next + c))
    ∙ ap (λ m. after w (c + d) (q ++ G (w.next + m))) (sym e)

-- what is bound goes out of scope
pub back-bound : (w v : Gathering) (xs : List ℕ) (c : ℕ) (q : List Fact)
    → v ≡ after (binding w xs) c q → back_to (length w.scope) v ≡ after w c q
back-bound w v xs c q h =
    ap (back_to (length w.scope)) h
    ∙ (λ i. record {
      scope = back_within (within_variables w.scope xs) i;
      around = w.around;
      next = w.next + c;
      facts = w.facts ++ q;
    })

back-matched : (w v : Gathering) (ps : Patterns) (c : ℕ) (q : List Fact)
    → v ≡ after (matching w ps) c q → back_to (length w.scope) v ≡ after w c q
back-matched w v ps c q h =
    ap (back_to (length w.scope)) h
    ∙ (λ i. record {
      scope = back_within (within_patterns w.scope ps) i;
      around = w.around;
      next = w.next + c;
      facts = w.facts ++ q;
    })

left : (w v : Gathering) (fs : s.Definitions) (c : ℕ) (q : List Fact)
    → v ≡ after (entering w fs) c q → leaving (length w.around) v ≡ after w c q
left w v fs c q h =
    let front = reach_of w.next fs in
    let sum = length-append front w.around in
    ap (leaving (length w.around)) h
    ∙ (λ i. record {
      scope = w.scope;
      around =
          behind_front (length (front ++ w.around) - length w.around) front w.around
          (omega (arith, sum)) i;
      next = w.next + c;
      facts = w.facts ++ q;
    })

-- a name that no letrec around defines has no number
no_number : (reach : Reach) (f : FunName) → is_local f (names_in reach) ≡ false
    → number_in reach f ≡ None
no_number [] f h = refl
no_number (g ∷ reach) f h = by (is_name g.0 f) h (no_number reach f)
  where
    by : (b : Bool) → (b || is_local f (names_in reach)) ≡ false
        → (is_local f (names_in reach) ≡ false → number_in reach f ≡ None)
        → (if b then Some g.1 else number_in reach f) ≡ None
    by true h k = absurd (true≢false h)
    by false h k = k h

module _ (names : Names) (current : ℕ) where
  abbrev R : Syntax → List FunName → Expression
  R = resolve names current

  abbrev Rs : Syntaxes → List FunName → Expressions
  Rs = resolve_all names current

  -- the state behind a part, by the facts of a tree
  abbrev Is : Owner → Gathering → Gathering → ℕ → Expression → Type 0
  Is o w v c e = v ≡ after w c (facts o w.scope w.around w.next e)

  abbrev AreAll : Owner → Gathering → Gathering → ℕ → Expressions → Type 0
  AreAll o w v c es = v ≡ after w c (facts_all o w.scope w.around w.next es)

  applied-is : (o : Owner) (w v : Gathering) (c : ℕ) (f : FunName) (top : Option ℕ) (b : Bool)
      (ts : Expressions) → (b ≡ false → number_in w.around f ≡ None)
      → v ≡ after w c (using_some o (number_in w.around f)
      ++ facts_all o w.scope w.around w.next ts)
      → IsWhole (call_of (if b then Some (r.Local f) else function_head top) ts)
      → Is o w v c (call_of (if b then Some (r.Local f) else function_head top) ts)
  applied-is o w v c f top true ts none k h = k
  applied-is o w v c f (Some g) false ts none k h =
      k ∙ ap (λ m. after w c (using_some o m ++ facts_all o w.scope w.around w.next ts))
      (none refl)
  applied-is o w v c f None false ts none k h = absurd h

  function-is : (k : Option ℕ) (o : Owner) (w v : Gathering) (c : ℕ) (ts : Expressions)
      → (AreWhole ts → AreAll o w v c ts) → IsWhole (call_of (function_head k) ts)
      → Is o w v c (call_of (function_head k) ts)
  function-is None o w v c ts a h = absurd h
  function-is (Some k) o w v c ts a h = a h

  named-is : (m f k : ℕ) (operation : Option Operation) (o : Owner) (w v : Gathering) (c : ℕ)
      (ts : Expressions) (t : Expression) → (AreWhole ts → AreAll o w v c ts)
      → (IsWhole t → Is o w v c t) → IsWhole (named_call names current m f k operation ts t)
      → Is o w v c (named_call names current m f k operation ts t)
  named-is m f k None o w v c ts t a b h =
      function-is (function_called names current m f k) o w v c ts a h
  named-is m f k (Some (Plain p)) o w v c ts t a b h = a h
  named-is m f k (Some SetsElement) o w v c ts t a b h = a h
  named-is m f k (Some Sends) o w v c ts t a b h = a h
  named-is m f k (Some Spawns) o w v c ts t a b h = b h
  named-is m f k (Some Displays) o w v c ts t a b h = a h
  named-is m f k (Some (RaisesAs class)) o w v c ts t a b h = a h

  spawned-is : (k : Option ℕ) (o : Owner) (w v : Gathering) (c : ℕ) (ts : Expressions)
      → (AreWhole ts → AreAll o w v c ts) → IsWhole (call_of (spawn_head k) ts)
      → Is o w v c (call_of (spawn_head k) ts)
  spawned-is None o w v c ts a h = absurd h
  spawned-is (Some k) o w v c ts a h = a h

  match_fail-is : (b : Bool) (o : Owner) (w v : Gathering) (c : ℕ) (ts : Expressions)
      → (AreWhole ts → AreAll o w v c ts)
      → IsWhole (if b then r.Call r.MatchFail ts else r.Refused)
      → Is o w v c (if b then r.Call r.MatchFail ts else r.Refused)
  match_fail-is true o w v c ts a h = a h
  match_fail-is false o w v c ts a h = absurd h

  received-is : (k : Option Timeout) (o : Owner) (w v : Gathering) (c : ℕ) (ds : r.Clauses)
      (t : Expression) → v ≡ after w c (facts_clauses o w.scope w.around w.next ds
      ++ facts o w.scope w.around (w.next + tree.count_clauses ds) t)
      → IsWhole (received ds k t) → Is o w v c (received ds k t)
  received-is None o w v c ds t a h = absurd h
  received-is (Some timeout) o w v c ds t a h = a

  chosen-is : (b : Bool) (o : Owner) (w v : Gathering) (c : ℕ) (t : Expression)
      → (IsWhole t → Is o w v c t) → IsWhole (if b then t else r.Refused)
      → Is o w v c (if b then t else r.Refused)
  chosen-is true o w v c t k h = k h
  chosen-is false o w v c t k h = absurd h

  mutual
    pub gathered-is : (e : Syntax) (o : Owner) (w : Gathering) (locals : List FunName)
        → names_in w.around ≡ locals → IsWhole (R e locals)
        → Is o w (gathered o w e) (count e) (R e locals)
    gathered-is (s.Int v) o w locals is h = after-none w
    gathered-is (s.Atom a) o w locals is h = after-none w
    gathered-is s.Nil o w locals is h = after-none w
    gathered-is (s.Str text) o w locals is h = after-none w
    gathered-is (s.Var x) o w locals is h =
        after-noted w (facts o w.scope w.around w.next (r.Variable x))
    gathered-is (s.Tuple site es) o w locals is h = all-is es o w locals is h
    gathered-is (s.ListOf site es e) o w locals is h =
        let c = count_all es in
        let q = facts_all o w.scope w.around w.next (Rs es locals) in
        follows w (λ v. gathered o v e) c (count e) q
        (λ n. facts o w.scope w.around n (R e locals)) (all-is es o w locals is h.0)
        (gathered-is e o (after w c q) locals is h.1) (all_counted names current es locals h.0)
    gathered-is (s.Values es) o w locals is h = all-is es o w locals is h
    gathered-is (s.Let xs e b) o w locals is h =
        let c = count e in
        let q = facts o w.scope w.around w.next (R e locals) in
        let v = after w c q in
        let inner = with_variables w.scope xs in
        follows w (λ v. back_to (length v.scope) (gathered o (binding v xs) b)) c (count b) q
        (λ n. facts o inner w.around n (R b locals)) (gathered-is e o w locals is h.0)
        (back-bound v _ xs (count b) (facts o inner w.around (w.next + c) (R b locals))
        (gathered-is b o (binding v xs) locals is h.1)) (counted names current e locals h.0)
    gathered-is (s.Do e b) o w locals is h =
        let c = count e in
        let q = facts o w.scope w.around w.next (R e locals) in
        follows w (λ v. gathered o v b) c (count b) q
        (λ n. facts o w.scope w.around n (R b locals)) (gathered-is e o w locals is h.0)
        (gathered-is b o (after w c q) locals is h.1) (counted names current e locals h.0)
    gathered-is (s.Case e cs) o w locals is h =
        let c = count e in
        let q = facts o w.scope w.around w.next (R e locals) in
        follows w (λ v. gathered_clauses o v cs) c (count_clauses cs) q
        (λ n. facts_clauses o w.scope w.around n (resolve_clauses names current cs locals))
        (gathered-is e o w locals is h.0) (clauses-is cs o (after w c q) locals is h.1)
        (counted names current e locals h.0)
    gathered-is (s.Letrec fs e) o w locals is h =
        let inside = defined_names fs ++ locals in
        let v = entering w fs in
        let ds = resolve_definitions names current fs inside in
        let around = reach_of w.next fs ++ w.around in
        let named = reach-names names current (λ _. []) fs w.next w.around
        ∙ ap (λ ls. defined_names fs ++ ls) is in
        let c = count_definitions fs in
        let q = facts_functions o w.scope around w.next ds in
        let same = sym (reach-same names current (λ _. []) fs inside w.next h.0) in
        let body = λ (n : ℕ). facts o w.scope around n (R e inside) in
        left w _ fs (c + count e) (q ++ body (w.next + tree.count_functions ds))
        (follows v (λ v. gathered o v e) c (count e) q body
        (definitions-is fs o v inside named h.0)
        (gathered-is e o (after v c q) inside named h.1)
        (definitions_counted names current fs inside h.0))
        ∙ (λ i. after w (c + count e)
        (facts_functions o w.scope (same i ++ w.around) w.next ds
        ++ facts o w.scope (same i ++ w.around) (w.next + tree.count_functions ds) (R e inside)))
    gathered-is (s.Apply (s.Name f) es) o w locals is h =
        let ts = Rs es locals in
        let head = applied_head names current f locals in
        let whole = call_counted head ts h in
        let u = using_some o (number_in w.around f) in
        let first = after-noted w u in
        let n : w.next + 0 ≡ w.next = omega arith in
        let m : 0 + count_all es ≡ count_all es = omega arith in
        applied-is o w (gathered_all o (noting w u) es) (count_all es) f
        (function_number names.functions current f) (is_local f locals) ts
        (λ e. no_number w.around f (ap (is_local f) is ∙ e))
        (follows {c' = 0} w (λ v. gathered_all o v es) 0 (count_all es) u
        (λ n. facts_all o w.scope w.around n ts) first
        (all-is es o (after w 0 u) locals is whole) refl
        ∙ (λ i. after w (m i) (u ++ facts_all o w.scope w.around (n i) ts)))
        h
    gathered-is (s.Call (s.Atom m) (s.Atom f) es) o w locals is h =
        named-is m f (size es) (erlang_operation names current m f (size es)) o w
        (gathered_all o w es) (count_all es) (Rs es locals)
        (resolve_spawn names current es locals) (all-is es o w locals is)
        (spawn-is es o w locals is) h
    gathered-is (s.Primop a es) o w locals is h =
        match_fail-is (is_match_fail (text_of names.atoms a) (size es)) o w (gathered_all o w es)
        (count_all es) (Rs es locals) (all-is es o w locals is) h
    gathered-is (s.Receive cs t e) o w locals is h =
        let ds = resolve_clauses names current cs locals in
        let k = timeout_of names current t in
        let both = received_parts ds k (R e locals) h in
        let c = count_clauses cs in
        let q = facts_clauses o w.scope w.around w.next ds in
        received-is k o w (gathered o (gathered_clauses o w cs) e) (c + count e) ds (R e locals)
        (follows w (λ v. gathered o v e) c (count e) q
        (λ n. facts o w.scope w.around n (R e locals)) (clauses-is cs o w locals is both.0)
        (gathered-is e o (after w c q) locals is both.1)
        (clauses_counted names current cs locals both.0)) h
    gathered-is _ o w locals is h = absurd h

    all-is : (es : Syntaxes) (o : Owner) (w : Gathering) (locals : List FunName)
        → names_in w.around ≡ locals → AreWhole (Rs es locals)
        → AreAll o w (gathered_all o w es) (count_all es) (Rs es locals)
    all-is NoSyntax o w locals is h = after-none w
    all-is (MoreSyntax e es) o w locals is h =
        let c = count e in
        let q = facts o w.scope w.around w.next (R e locals) in
        follows w (λ v. gathered_all o v es) c (count_all es) q
        (λ n. facts_all o w.scope w.around n (Rs es locals)) (gathered-is e o w locals is h.0)
        (all-is es o (after w c q) locals is h.1) (counted names current e locals h.0)

    spawn-is : (es : Syntaxes) (o : Owner) (w : Gathering) (locals : List FunName)
        → names_in w.around ≡ locals → IsWhole (resolve_spawn names current es locals)
        → Is o w (gathered_all o w es) (count_all es) (resolve_spawn names current es locals)
    spawn-is
        (MoreSyntax (s.Atom m) (MoreSyntax (s.Atom f) (MoreSyntax s.Nil NoSyntax))) o w locals is
        h =
        spawned-is (function_called names current m f 0) o w w 0 NoExpressions
        (λ _. after-none w) h
    spawn-is
        (MoreSyntax (s.Atom m) (MoreSyntax (s.Atom f)
        (MoreSyntax (s.ListOf site es s.Nil) NoSyntax))) o w locals is h =
        let none : count_all es ≡ 0 + (0 + (count_all es + 0 + 0)) = omega arith in
        let ts = Rs es locals in
        spawned-is (function_called names current m f (size es)) o w (gathered_all o w es)
        (0 + (0 + (count_all es + 0 + 0))) ts
        (λ k. all-is es o w locals is k
        ∙ ap (λ c. after w c (facts_all o w.scope w.around w.next ts)) none) h
    spawn-is _ o w locals is h = absurd h

    guard-is : (g : Syntax) (o : Owner) (w : Gathering) (locals : List FunName)
        → names_in w.around ≡ locals
        → (IsWhole (R g locals) → Is o w (gathered o w g) (count g) (R g locals))
        → IsWhole (resolve_guard names current g (R g locals) locals)
        → Is o w (gathered o w g) (count g) (resolve_guard names current g (R g locals) locals)
    guard-is (s.Try e xs (s.Var x) ys (s.Atom a)) o w locals is k h =
        chosen-is (is_guard_form names current xs x ys a) o w (gathered o w e) (count e)
        (R e locals) (gathered-is e o w locals is) h
    guard-is _ o w locals is k h = k h

    clauses-is : (cs : s.Clauses) (o : Owner) (w : Gathering) (locals : List FunName)
        → names_in w.around ≡ locals → ClausesAreWhole (resolve_clauses names current cs locals)
        → gathered_clauses o w cs ≡ after w (count_clauses cs)
        (facts_clauses o w.scope w.around w.next (resolve_clauses names current cs locals))
    clauses-is s.NoClauses o w locals is h = after-none w
    clauses-is (s.MoreClauses ps g b cs) o w locals is h =
        let inner = with_patterns w.scope ps in
        let v = matching w ps in
        let guard = resolve_guard names current g (R g locals) locals in
        let c = count g in
        let d = count b in
        let q = facts o inner w.around w.next guard in
        let behind = guard_counted names current g locals (counted names current g locals) h.0 in
        let body = λ (n : ℕ). facts o inner w.around n (R b locals) in
        let q' = body (w.next + tree.count guard) in
        let rest = λ (n : ℕ).
        facts_clauses o w.scope w.around n (resolve_clauses names current cs locals) in
        let one : back_to (length w.scope) (gathered o (gathered o v g) b)
        ≡ after w (c + d) (q ++ q') =
        back-matched w _ ps (c + d) (q ++ q')
        (follows v (λ v. gathered o v b) c d q body
        (guard-is g o v locals is (gathered-is g o v locals is) h.0)
        (gathered-is b o (after v c q) locals is h.1) behind) in
        let bodies = counted names current b locals h.1 in
        let both : tree.count guard + tree.count (R b locals) ≡ c + d =
        λ i. behind i + bodies i in
        let all = follows w (λ v. gathered_clauses o v cs) (c + d) (count_clauses cs)
        (q ++ q') rest one (clauses-is cs o (after w (c + d) (q ++ q')) locals is h.2) both in
        let m : (c + d) + count_clauses cs ≡ c + (d + count_clauses cs) = omega arith in
        let n : w.next + (tree.count guard + tree.count (R b locals))
        ≡ w.next + tree.count guard + tree.count (R b locals) = omega arith in
        all
        ∙ (λ i. after w (m i) (append_assoc q q' (rest (n i)) i))

    definitions-is : (fs : s.Definitions) (o : Owner) (w : Gathering) (locals : List FunName)
        → names_in w.around ≡ locals
        → FunctionsAreWhole (resolve_definitions names current fs locals)
        → gathered_definitions o w fs ≡ after w (count_definitions fs)
        (facts_functions o w.scope w.around w.next (resolve_definitions names current fs locals))
    definitions-is s.NoDefinitions o w locals is h = after-none w
    definitions-is (s.MoreDefinitions f xs b fs) o w locals is h =
        let inner = with_variables w.scope xs in
        let v = begun o w in
        let c = count b in
        let q = facts (beginning w) inner w.around (suc w.next) (R b locals) in
        let u = using o w.next in
        let ds = resolve_definitions names current fs locals in
        let rest = λ (n : ℕ). facts_functions o w.scope w.around n ds in
        let one = back-bound v _ xs c q (gathered-is b (beginning w) (binding v xs) locals is h.0) in
        let all = follows v (λ v. gathered_definitions o v fs) c (count_definitions fs) q
        rest one (definitions-is fs o (after v c q) locals is h.1)
        (counted names current b locals h.0) in
        let m : suc w.next + (c + count_definitions fs)
        ≡ w.next + suc (c + count_definitions fs) = omega arith in
        let n : suc w.next + tree.count (R b locals) ≡ suc (w.next + tree.count (R b locals)) =
        omega arith in
        all
        ∙ (λ i. record {
          scope = w.scope;
          around = w.around;
          next = m i;
          facts = append_assoc w.facts u (q ++ rest (n i)) i;
        })
