-- Lifted syntax is the lifted tree of its syntax.
use Rattle.std.proofs.Common.{◌≡◌, ℕ, suc, ◌+◌, List, [], ◌∷◌, ◌++◌, Option, Some, None, Bool}
use Rattle.std.proofs.Common.{true, false, true≢false, refl, sym, ap, ◌∙◌, arith}
use Rattle.std.specs.Prelude.{◌||◌, if◌then◌else◌, is_some}
use Rattle.hy_terms.specs.Naming.{text_of}
use Rattle.hy_core.specs.BuiltIn.{Operation, Plain, SetsElement, Sends, Spawns, Displays, RaisesAs}
use Rattle.hy_core.specs.Resolve.{Names, applied_head, call_of, defined_names, erlang_operation}
use Rattle.hy_core.specs.Resolve.{function_called, function_head, function_number, is_guard_form}
use Rattle.hy_core.specs.Resolve.{is_local, is_match_fail, named_call, received, resolve}
use Rattle.hy_core.specs.Resolve.{resolve_all, resolve_clauses, resolve_definitions}
use Rattle.hy_core.specs.Resolve.{resolve_guard, resolve_spawn, spawn_head, timeout_of}
use Rattle.hy_core.specs.Resolved as r
use Rattle.hy_core.specs.Resolved.{Timeout, Expression, Expressions, NoExpressions, is_name}
use Rattle.hy_core.specs.Syntax as s
use Rattle.hy_core.specs.Syntax.{Syntax, Syntaxes, NoSyntax, MoreSyntax, count as size}
use Rattle.hy_core.specs.declared.tree.FunName.{FunName}
use Rattle.lifted_program.specs.LetrecNumbers as tree
use Rattle.lifted_program.specs.LetrecNumbers.{Reach, number_in}
use Rattle.lifted_program.specs.LiftedProgram as in_tree
use Rattle.lifted_syntax.specs.LiftedSyntax.{count, count_all, count_clauses, count_definitions}
use Rattle.lifted_syntax.specs.LiftedSyntax.{reach_of, passing, applied, lifted, lifted_all}
use Rattle.lifted_syntax.specs.LiftedSyntax.{lifted_clauses}
use Rattle.lifted_syntax.specs.LiftedTrees.{plain, plain_all, plain_spawn, plain_guard}
use Rattle.lifted_syntax.specs.LiftedTrees.{plain_clauses}
use Rattle.lifted_syntax.specs.LiftingLaws.{names_in}
use Rattle.lifted_syntax.specs.Whole.{IsWhole, AreWhole, ClausesAreWhole, FunctionsAreWhole}
use Rattle.lifted_syntax.proofs.LiftedCounts.{call_counted, received_parts, match_fail_parts}
use Rattle.lifted_syntax.proofs.LiftedCounts.{counted, all_counted, guard_counted, clauses_counted}
use Rattle.lifted_syntax.proofs.LiftedCounts.{definitions_counted}

-- a name is defined around where it has a number
local_is : (reach : Reach) (f : FunName) → is_local f (names_in reach) ≡ is_some (number_in reach f)
local_is [] f = refl
local_is (g ∷ reach) f = by_case (is_name g.0 f) (local_is reach f)
  where
    by_case : (b : Bool) → is_local f (names_in reach) ≡ is_some (number_in reach f)
        → (b || is_local f (names_in reach)) ≡ is_some (if b then Some g.1 else number_in reach f)
    by_case true h = refl
    by_case false h = h

module _ (names : Names) (current : ℕ) (captured : ℕ → List ℕ) where
  abbrev L : Reach → ℕ → Syntax → Syntax
  L = lifted names current captured

  abbrev Ls : Reach → ℕ → Syntaxes → Syntaxes
  Ls = lifted_all names current captured

  abbrev P : Syntax → Expression
  P = plain names

  abbrev Ps : Syntaxes → Expressions
  Ps = plain_all names

  abbrev T : Reach → ℕ → Expression → Expression
  T = in_tree.lifted captured

  abbrev Ts : Reach → ℕ → Expressions → Expressions
  Ts = in_tree.lifted_all captured

  abbrev R : Syntax → List FunName → Expression
  R = resolve names current

  abbrev Rs : Syntaxes → List FunName → Expressions
  Rs = resolve_all names current

  size-lifted : (reach : Reach) (n : ℕ) (es : Syntaxes) → size (Ls reach n es) ≡ size es
  size-lifted reach n NoSyntax = refl
  size-lifted reach n (MoreSyntax e es) = ap suc (size-lifted reach (n + count e) es)

  passing-plain : (xs : List ℕ) (es : Syntaxes) → Ps (passing xs es) ≡ in_tree.passing xs (Ps es)
  passing-plain [] es = refl
  passing-plain (x ∷ xs) es = ap (r.MoreExpressions (r.Variable x)) (passing-plain xs es)

  -- a call of an applied name
  applied-plain : (f : FunName) (reach : Reach) (n : ℕ) (o top : Option ℕ) (b : Bool)
      (es : Syntaxes) (ts : Expressions) → number_in reach f ≡ o → b ≡ is_some o
      → Ps es ≡ Ts reach n ts
      → P (applied names current captured f o top es)
      ≡ T reach n (call_of (if b then Some (r.Local f) else function_head top) ts)
  applied-plain f reach n (Some k) top true es ts at is h =
      ap (r.Call (r.Function k))
      (passing-plain (captured k) es ∙ ap (in_tree.passing (captured k)) h)
      ∙ ap (λ o. in_tree.call_lifted captured o (Ts reach n ts)) (sym at)
  applied-plain f reach n None (Some j) false es ts at is h = ap (r.Call (r.Function j)) h
  applied-plain f reach n None None false es ts at is h = refl
  applied-plain f reach n (Some k) top false es ts at is h = absurd (true≢false (sym is))
  applied-plain f reach n None top true es ts at is h = absurd (true≢false is)

  function-plain : (o : Option ℕ) (reach : Reach) (n : ℕ) (es : Syntaxes) (ts : Expressions)
      → Ps es ≡ Ts reach n ts
      → call_of (function_head o) (Ps es) ≡ T reach n (call_of (function_head o) ts)
  function-plain None reach n es ts h = refl
  function-plain (Some k) reach n es ts h = ap (r.Call (r.Function k)) h

  spawned-plain : (o : Option ℕ) (reach : Reach) (n : ℕ) (es ts : Expressions)
      → es ≡ Ts reach n ts → call_of (spawn_head o) es ≡ T reach n (call_of (spawn_head o) ts)
  spawned-plain None reach n es ts h = refl
  spawned-plain (Some k) reach n es ts h = ap (r.Call (r.Spawn 0 k)) h

  head_counted : (o : Option ℕ) (ts : Expressions) → IsWhole (call_of (function_head o) ts)
      → AreWhole ts
  head_counted o ts h = call_counted (function_head o) ts h

  named-plain : (m f k : ℕ) (o : Option Operation) (reach : Reach) (n : ℕ) (es : Syntaxes)
      (ts : Expressions) (e t : Expression) → (AreWhole ts → Ps es ≡ Ts reach n ts)
      → (IsWhole t → e ≡ T reach n t) → IsWhole (named_call names current m f k o ts t)
      → named_call names current m f k o (Ps es) e
      ≡ T reach n (named_call names current m f k o ts t)
  named-plain m f k None reach n es ts e t a b h =
      let o = function_called names current m f k in
      function-plain o reach n es ts (a (head_counted o ts h))
  named-plain m f k (Some (Plain p)) reach n es ts e t a b h = ap (r.Call (r.BuiltIn p)) (a h)
  named-plain m f k (Some SetsElement) reach n es ts e t a b h = ap (r.Call (r.Setelement 0)) (a h)
  named-plain m f k (Some Sends) reach n es ts e t a b h = ap (r.Call (r.Send 0)) (a h)
  named-plain m f k (Some Spawns) reach n es ts e t a b h = b h
  named-plain m f k (Some Displays) reach n es ts e t a b h = ap (r.Call (r.Display 0)) (a h)
  named-plain m f k (Some (RaisesAs class)) reach n es ts e t a b h =
      ap (r.Call (r.Raising class)) (a h)

  abbrev match_fail : Bool → Expressions → Expression
  match_fail b es = if b then r.Call r.MatchFail es else r.Refused

  match_fail-plain : (b : Bool) (reach : Reach) (n : ℕ) (es ts : Expressions)
      → es ≡ Ts reach n ts → match_fail b es ≡ T reach n (match_fail b ts)
  match_fail-plain true reach n es ts h = ap (r.Call r.MatchFail) h
  match_fail-plain false reach n es ts h = refl

  received-plain : (o : Option Timeout) (reach : Reach) (n : ℕ) (cs ds : r.Clauses)
      (e t : Expression) → cs ≡ in_tree.lifted_clauses captured reach n ds
      → e ≡ T reach (n + tree.count_clauses ds) t → received cs o e ≡ T reach n (received ds o t)
  received-plain None reach n cs ds e t h k = refl
  received-plain (Some timeout) reach n cs ds e t h k = λ i. r.Receive (h i) timeout (k i)

  chosen-plain : (b : Bool) (reach : Reach) (n : ℕ) (e t : Expression)
      → (IsWhole t → e ≡ T reach n t)
      → IsWhole (if b then t else r.Refused)
      → (if b then e else r.Refused) ≡ T reach n (if b then t else r.Refused)
  chosen-plain true reach n e t k h = k h
  chosen-plain false reach n e t k h = absurd h

  -- the functions of a letrec have the numbers that their texts have
  pub reach-same : (fs : s.Definitions) (locals : List FunName) (n : ℕ)
      → FunctionsAreWhole (resolve_definitions names current fs locals)
      → tree.reach_of n (resolve_definitions names current fs locals) ≡ reach_of n fs
  reach-same s.NoDefinitions locals n h = refl
  reach-same (s.MoreDefinitions f xs b fs) locals n h =
      let behind = counted names current b locals h.0 in
      ap (λ k. (f, n) ∷ tree.reach_of (suc (n + k)) (resolve_definitions names current fs locals))
      behind
      ∙ ap (◌∷◌ (f, n)) (reach-same fs locals (suc (n + count b)) h.1)

  pub reach-names : (fs : s.Definitions) (n : ℕ) (reach : Reach)
      → names_in (reach_of n fs ++ reach) ≡ defined_names fs ++ names_in reach
  reach-names s.NoDefinitions n reach = refl
  reach-names (s.MoreDefinitions f xs b fs) n reach =
      ap (◌∷◌ f) (reach-names fs (suc (n + count b)) reach)

  -- what isn't refused is no guard form when it is lifted
  applied-no_guard : (f : FunName) (o top : Option ℕ) (es : Syntaxes) (x : Expression)
      → plain_guard names (applied names current captured f o top es) x ≡ x
  applied-no_guard f (Some k) top es x = refl
  applied-no_guard f None (Some k) es x = refl
  applied-no_guard f None None es x = refl

  no_guard : (e : Syntax) (reach : Reach) (n : ℕ) (locals : List FunName) (x : Expression)
      → IsWhole (R e locals) → plain_guard names (L reach n e) x ≡ x
  no_guard (s.Letrec fs e) reach n locals x h =
      no_guard e (reach_of n fs ++ reach) (n + count_definitions fs) (defined_names fs ++ locals) x
      h.1
  no_guard (s.Apply (s.Name f) es) reach n locals x h =
      applied-no_guard f (number_in reach f) (function_number names.functions current f)
      (Ls reach n es) x
  no_guard (s.Apply _ es) reach n locals x h = absurd h
  no_guard (s.Try e xs b ys c) reach n locals x h = absurd h
  no_guard _ reach n locals x h = refl

  mutual
    pub lifted-plain : (e : Syntax) (reach : Reach) (n : ℕ) (locals : List FunName)
        → names_in reach ≡ locals → IsWhole (R e locals)
        → P (L reach n e) ≡ T reach n (R e locals)
    lifted-plain (s.Int v) reach n locals is h = refl
    lifted-plain (s.Atom a) reach n locals is h = refl
    lifted-plain s.Nil reach n locals is h = refl
    lifted-plain (s.Str text) reach n locals is h = refl
    lifted-plain (s.Var x) reach n locals is h = refl
    lifted-plain (s.Tuple site es) reach n locals is h =
        ap (r.Tuple 0) (all-plain es reach n locals is h)
    lifted-plain (s.ListOf site es e) reach n locals is h =
        λ i. r.ListOf 0 (all-plain es reach n locals is h.0 i)
        ((lifted-plain e reach (n + count_all es) locals is h.1
        ∙ ap (λ k. T reach (n + k) (R e locals))
        (sym (all_counted names current es locals h.0))) i)
    lifted-plain (s.Values es) reach n locals is h =
        ap r.Values (all-plain es reach n locals is h)
    lifted-plain (s.Let xs e b) reach n locals is h =
        λ i. r.Let xs (lifted-plain e reach n locals is h.0 i)
        ((lifted-plain b reach (n + count e) locals is h.1
        ∙ ap (λ k. T reach (n + k) (R b locals))
        (sym (counted names current e locals h.0))) i)
    lifted-plain (s.Do e b) reach n locals is h =
        λ i. r.Do (lifted-plain e reach n locals is h.0 i)
        ((lifted-plain b reach (n + count e) locals is h.1
        ∙ ap (λ k. T reach (n + k) (R b locals))
        (sym (counted names current e locals h.0))) i)
    lifted-plain (s.Case e cs) reach n locals is h =
        λ i. r.Case (lifted-plain e reach n locals is h.0 i)
        ((clauses-plain cs reach (n + count e) locals is h.1
        ∙ ap (λ k. in_tree.lifted_clauses captured reach (n + k)
        (resolve_clauses names current cs locals))
        (sym (counted names current e locals h.0))) i)
    lifted-plain (s.Letrec fs e) reach n locals is h =
        let inside = defined_names fs ++ locals in
        let body = R e inside in
        let around = reach_of n fs ++ reach in
        let named = reach-names fs n reach ∙ ap (λ ls. defined_names fs ++ ls) is in
        lifted-plain e around (n + count_definitions fs) inside named h.1
        ∙ (λ i. T (sym (reach-same fs inside n h.0) i ++ reach)
        (n + sym (definitions_counted names current fs inside h.0) i) body)
    lifted-plain (s.Apply (s.Name f) es) reach n locals is h =
        let ts = Rs es locals in
        let local = ap (is_local f) (sym is) ∙ local_is reach f in
        let o = applied_head names current f locals in
        applied-plain f reach n (number_in reach f) (function_number names.functions current f)
        (is_local f locals) (Ls reach n es) ts refl local
        (all-plain es reach n locals is (call_counted o ts h))
    lifted-plain (s.Call (s.Atom m) (s.Atom f) es) reach n locals is h =
        let ts = Rs es locals in
        let t = resolve_spawn names current es locals in
        let same = size-lifted reach n es in
        let call = λ (k : ℕ).
        named_call names current m f k (erlang_operation names current m f k)
        (Ps (Ls reach n es)) (plain_spawn names (Ls reach n es)) in
        ap call same
        ∙ named-plain m f (size es) (erlang_operation names current m f (size es)) reach n
        (Ls reach n es) ts (plain_spawn names (Ls reach n es)) t
        (all-plain es reach n locals is) (spawn-plain es reach n locals is) h
    lifted-plain (s.Primop a es) reach n locals is h =
        let ts = Rs es locals in
        let test = λ (k : ℕ). is_match_fail (text_of names.atoms a) k in
        ap (λ k. match_fail (test k) (Ps (Ls reach n es))) (size-lifted reach n es)
        ∙ match_fail-plain (test (size es)) reach n (Ps (Ls reach n es)) ts
        (all-plain es reach n locals is (match_fail_parts (test (size es)) ts h))
    lifted-plain (s.Receive cs t e) reach n locals is h =
        let ds = resolve_clauses names current cs locals in
        let o = timeout_of names current t in
        let both = received_parts ds o (R e locals) h in
        received-plain o reach n _ ds _ (R e locals) (clauses-plain cs reach n locals is both.0)
        (lifted-plain e reach (n + count_clauses cs) locals is both.1
        ∙ ap (λ k. T reach (n + k) (R e locals))
        (sym (clauses_counted names current cs locals both.0)))
    lifted-plain _ reach n locals is h = absurd h

    pub all-plain : (es : Syntaxes) (reach : Reach) (n : ℕ) (locals : List FunName)
        → names_in reach ≡ locals → AreWhole (Rs es locals)
        → Ps (Ls reach n es) ≡ Ts reach n (Rs es locals)
    all-plain NoSyntax reach n locals is h = refl
    all-plain (MoreSyntax e es) reach n locals is h =
        λ i. r.MoreExpressions (lifted-plain e reach n locals is h.0 i)
        ((all-plain es reach (n + count e) locals is h.1
        ∙ ap (λ k. Ts reach (n + k) (Rs es locals))
        (sym (counted names current e locals h.0))) i)

    spawn-plain : (es : Syntaxes) (reach : Reach) (n : ℕ) (locals : List FunName)
        → names_in reach ≡ locals → IsWhole (resolve_spawn names current es locals)
        → plain_spawn names (Ls reach n es)
        ≡ T reach n (resolve_spawn names current es locals)
    spawn-plain (MoreSyntax (s.Atom m) (MoreSyntax (s.Atom f) (MoreSyntax s.Nil NoSyntax)))
        reach n locals is h =
        spawned-plain (function_called names current m f 0) reach n NoExpressions NoExpressions refl
    spawn-plain
        (MoreSyntax (s.Atom m) (MoreSyntax (s.Atom f)
        (MoreSyntax (s.ListOf site es s.Nil) NoSyntax))) reach n locals is h =
        let o = λ (k : ℕ). function_called names current m f k in
        let ts = Rs es locals in
        let at : n + 0 + 0 ≡ n = omega arith in
        let whole = call_counted (spawn_head (o (size es))) ts h in
        let here = λ (k : ℕ). call_of (spawn_head (o (size (Ls reach k es))))
        (Ps (Ls reach k es)) in
        ap here at
        ∙ ap (λ k. call_of (spawn_head (o k)) (Ps (Ls reach n es))) (size-lifted reach n es)
        ∙ spawned-plain (o (size es)) reach n (Ps (Ls reach n es)) ts
        (all-plain es reach n locals is whole)
    spawn-plain _ reach n locals is h = absurd h

    guard-plain : (e : Syntax) (reach : Reach) (n : ℕ) (locals : List FunName)
        → names_in reach ≡ locals
        → (IsWhole (R e locals) → P (L reach n e) ≡ T reach n (R e locals))
        → IsWhole (resolve_guard names current e (R e locals) locals)
        → plain_guard names (L reach n e) (P (L reach n e))
        ≡ T reach n (resolve_guard names current e (R e locals) locals)
    guard-plain (s.Try e xs (s.Var x) ys (s.Atom a)) reach n locals is k h =
        chosen-plain (is_guard_form names current xs x ys a) reach n (P (L reach n e)) (R e locals)
        (lifted-plain e reach n locals is) h
    guard-plain (s.Try e xs b ys c) reach n locals is k h = absurd h
    guard-plain e reach n locals is k h =
        no_guard e reach n locals (P (L reach n e)) h ∙ k h

    clauses-plain : (cs : s.Clauses) (reach : Reach) (n : ℕ) (locals : List FunName)
        → names_in reach ≡ locals → ClausesAreWhole (resolve_clauses names current cs locals)
        → plain_clauses names (lifted_clauses names current captured reach n cs)
        ≡ in_tree.lifted_clauses captured reach n (resolve_clauses names current cs locals)
    clauses-plain s.NoClauses reach n locals is h = refl
    clauses-plain (s.MoreClauses ps g b cs) reach n locals is h =
        let guard = resolve_guard names current g (R g locals) locals in
        let ds = resolve_clauses names current cs locals in
        let first = guard_counted names current g locals (counted names current g locals) h.0 in
        let second = counted names current b locals h.1 in
        λ i. r.MoreClauses ps
        (guard-plain g reach n locals is (lifted-plain g reach n locals is) h.0 i)
        ((lifted-plain b reach (n + count g) locals is h.1
        ∙ ap (λ k. T reach (n + k) (R b locals)) (sym first)) i)
        ((clauses-plain cs reach (n + count g + count b) locals is h.2
        ∙ (λ j. in_tree.lifted_clauses captured reach (n + sym first j + sym second j) ds)) i)
