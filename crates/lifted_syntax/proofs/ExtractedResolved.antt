-- The functions of letrecs in lifted syntax are those of the lifted tree.
use Rattle.std.proofs.Common.{◌≡◌, ℕ, suc, ◌+◌, List, [], ◌∷◌, ◌++◌, map, Option, Some, None, Bool}
use Rattle.std.proofs.Common.{true, false, refl, sym, ap, ◌∙◌, arith}
use Rattle.std.specs.Prelude.{if◌then◌else◌}
use Rattle.std.proofs.lemmas.List.{map-append, append-nil}
use Rattle.hy_terms.specs.Naming.{text_of}
use Rattle.hy_core.specs.BuiltIn.{Operation, Plain, SetsElement, Sends, Spawns, Displays, RaisesAs}
use Rattle.hy_core.specs.Resolve.{Names, applied_head, call_of, defined_names, erlang_operation}
use Rattle.hy_core.specs.Resolve.{function_called, function_head, is_guard_form, is_match_fail}
use Rattle.hy_core.specs.Resolve.{named_call, received, resolve, resolve_all, resolve_clauses}
use Rattle.hy_core.specs.Resolve.{resolve_definitions, resolve_guard, resolve_spawn, spawn_head}
use Rattle.hy_core.specs.Resolve.{timeout_of}
use Rattle.hy_core.specs.Resolved as r
use Rattle.hy_core.specs.Resolved.{Head, Timeout, Expression, Expressions, NoExpressions}
use Rattle.hy_core.specs.Resolved.{FunctionTree}
use Rattle.hy_core.specs.Syntax as s
use Rattle.hy_core.specs.Syntax.{Syntax, Syntaxes, NoSyntax, MoreSyntax, count as size}
use Rattle.hy_core.specs.declared.tree.FunName.{FunName}
use Rattle.lifted_program.specs.LetrecNumbers as tree
use Rattle.lifted_program.specs.LetrecNumbers.{Reach}
use Rattle.lifted_program.specs.LiftedProgram as in_tree
use Rattle.lifted_syntax.specs.ExtractedSyntax.{FunctionSyntax, extracted, extracted_all}
use Rattle.lifted_syntax.specs.ExtractedSyntax.{extracted_clauses, extracted_functions}
use Rattle.lifted_syntax.specs.ExtractedSyntax.{plain_function}
use Rattle.lifted_syntax.specs.LiftedSyntax.{count, count_all, count_clauses, count_definitions}
use Rattle.lifted_syntax.specs.LiftedSyntax.{reach_of}
use Rattle.lifted_syntax.specs.LiftingLaws.{names_in}
use Rattle.lifted_syntax.specs.Whole.{IsWhole, AreWhole, ClausesAreWhole, FunctionsAreWhole}
use Rattle.lifted_syntax.proofs.LiftedCounts.{call_counted, received_parts, match_fail_parts}
use Rattle.lifted_syntax.proofs.LiftedCounts.{counted, all_counted, guard_counted, clauses_counted}
use Rattle.lifted_syntax.proofs.LiftedCounts.{definitions_counted}
use Rattle.lifted_syntax.proofs.LiftedResolved.{lifted-plain, reach-same, reach-names}

module _ (names : Names) (current : ℕ) (captured : ℕ → List ℕ) where
  abbrev shown : List FunctionSyntax → List FunctionTree
  shown = map (plain_function names)

  abbrev E : Reach → ℕ → Syntax → List FunctionSyntax
  E = extracted names current captured

  abbrev T : Reach → ℕ → Expression → List FunctionTree
  T = in_tree.extracted captured

  abbrev Ts : Reach → ℕ → Expressions → List FunctionTree
  Ts = in_tree.extracted_all captured

  abbrev R : Syntax → List FunName → Expression
  R = resolve names current

  abbrev Rs : Syntaxes → List FunName → Expressions
  Rs = resolve_all names current

  both : (xs ys : List FunctionSyntax) {gs hs : List FunctionTree} → shown xs ≡ gs → shown ys ≡ hs
      → shown (xs ++ ys) ≡ gs ++ hs
  both xs ys p q = map-append (plain_function names) xs ys ∙ (λ i. p i ++ q i)

  call-extracted : (o : Option Head) (reach : Reach) (n : ℕ) (ts : Expressions)
      → IsWhole (call_of o ts) → Ts reach n ts ≡ T reach n (call_of o ts)
  call-extracted None reach n ts h = absurd h
  call-extracted (Some head) reach n ts h = refl

  named-extracted : (m f k : ℕ) (o : Option Operation) (reach : Reach) (n : ℕ)
      (gs : List FunctionTree) (ts : Expressions) (t : Expression)
      → (AreWhole ts → gs ≡ Ts reach n ts) → (IsWhole t → gs ≡ T reach n t)
      → IsWhole (named_call names current m f k o ts t)
      → gs ≡ T reach n (named_call names current m f k o ts t)
  named-extracted m f k None reach n gs ts t a b h =
      let o = function_head (function_called names current m f k) in
      a (call_counted o ts h) ∙ call-extracted o reach n ts h
  named-extracted m f k (Some (Plain p)) reach n gs ts t a b h = a h
  named-extracted m f k (Some SetsElement) reach n gs ts t a b h = a h
  named-extracted m f k (Some Sends) reach n gs ts t a b h = a h
  named-extracted m f k (Some Spawns) reach n gs ts t a b h = b h
  named-extracted m f k (Some Displays) reach n gs ts t a b h = a h
  named-extracted m f k (Some (RaisesAs class)) reach n gs ts t a b h = a h

  match_fail-extracted : (b : Bool) (reach : Reach) (n : ℕ) (ts : Expressions)
      → IsWhole (if b then r.Call r.MatchFail ts else r.Refused)
      → Ts reach n ts ≡ T reach n (if b then r.Call r.MatchFail ts else r.Refused)
  match_fail-extracted true reach n ts h = refl
  match_fail-extracted false reach n ts h = absurd h

  received-extracted : (cs : r.Clauses) (o : Option Timeout) (e : Expression) (reach : Reach)
      (n : ℕ)
      → IsWhole (received cs o e)
      → in_tree.extracted_clauses captured reach n cs ++ T reach (n + tree.count_clauses cs) e
      ≡ T reach n (received cs o e)
  received-extracted cs None e reach n h = absurd h
  received-extracted cs (Some t) e reach n h = refl

  chosen-extracted : (b : Bool) (reach : Reach) (n : ℕ) (gs : List FunctionTree) (t : Expression)
      → (IsWhole t → gs ≡ T reach n t) → IsWhole (if b then t else r.Refused)
      → gs ≡ T reach n (if b then t else r.Refused)
  chosen-extracted true reach n gs t k h = k h
  chosen-extracted false reach n gs t k h = absurd h

  moved : (k m : ℕ) (reach : Reach) (n : ℕ) (t : Expression) → k ≡ m
      → T reach (n + m) t ≡ T reach (n + k) t
  moved k m reach n t p = ap (λ k. T reach (n + k) t) (sym p)

  mutual
    pub extracted-plain : (e : Syntax) (reach : Reach) (n : ℕ) (locals : List FunName)
        → names_in reach ≡ locals → IsWhole (R e locals)
        → shown (E reach n e) ≡ T reach n (R e locals)
    extracted-plain (s.Int v) reach n locals is h = refl
    extracted-plain (s.Atom a) reach n locals is h = refl
    extracted-plain s.Nil reach n locals is h = refl
    extracted-plain (s.Str text) reach n locals is h = refl
    extracted-plain (s.Var x) reach n locals is h = refl
    extracted-plain (s.Tuple site es) reach n locals is h = all-extracted es reach n locals is h
    extracted-plain (s.ListOf site es e) reach n locals is h =
        both _ _ (all-extracted es reach n locals is h.0)
        (extracted-plain e reach (n + count_all es) locals is h.1
        ∙ moved _ _ reach n (R e locals) (all_counted names current es locals h.0))
    extracted-plain (s.Values es) reach n locals is h = all-extracted es reach n locals is h
    extracted-plain (s.Let xs e b) reach n locals is h =
        both _ _ (extracted-plain e reach n locals is h.0)
        (extracted-plain b reach (n + count e) locals is h.1
        ∙ moved _ _ reach n (R b locals) (counted names current e locals h.0))
    extracted-plain (s.Do e b) reach n locals is h =
        both _ _ (extracted-plain e reach n locals is h.0)
        (extracted-plain b reach (n + count e) locals is h.1
        ∙ moved _ _ reach n (R b locals) (counted names current e locals h.0))
    extracted-plain (s.Case e cs) reach n locals is h =
        both _ _ (extracted-plain e reach n locals is h.0)
        (clauses-extracted cs reach (n + count e) locals is h.1
        ∙ ap (λ k. in_tree.extracted_clauses captured reach (n + k)
        (resolve_clauses names current cs locals))
        (sym (counted names current e locals h.0)))
    extracted-plain (s.Letrec fs e) reach n locals is h =
        let inside = defined_names fs ++ locals in
        let around = reach_of n fs ++ reach in
        let functions = resolve_definitions names current fs inside in
        let body = R e inside in
        let named = reach-names names current captured fs n reach
        ∙ ap (λ ls. defined_names fs ++ ls) is in
        let same = reach-same names current captured fs inside n h.0 in
        both _ _
        (functions-extracted fs around n inside named h.0
        ∙ ap (λ g. in_tree.extracted_functions captured (g ++ reach) n functions) (sym same))
        (extracted-plain e around (n + count_definitions fs) inside named h.1
        ∙ (λ i. T (sym same i ++ reach)
        (n + sym (definitions_counted names current fs inside h.0) i) body))
    extracted-plain (s.Apply (s.Name f) es) reach n locals is h =
        let ts = Rs es locals in
        let o = applied_head names current f locals in
        all-extracted es reach n locals is (call_counted o ts h) ∙ call-extracted o reach n ts h
    extracted-plain (s.Call (s.Atom m) (s.Atom f) es) reach n locals is h =
        named-extracted m f (size es) (erlang_operation names current m f (size es)) reach n _
        (Rs es locals) (resolve_spawn names current es locals) (all-extracted es reach n locals is)
        (spawn-extracted es reach n locals is) h
    extracted-plain (s.Primop a es) reach n locals is h =
        let ts = Rs es locals in
        let b = is_match_fail (text_of names.atoms a) (size es) in
        all-extracted es reach n locals is (match_fail_parts b ts h)
        ∙ match_fail-extracted b reach n ts h
    extracted-plain (s.Receive cs t e) reach n locals is h =
        let ds = resolve_clauses names current cs locals in
        let o = timeout_of names current t in
        let parts = received_parts ds o (R e locals) h in
        both _ _ (clauses-extracted cs reach n locals is parts.0)
        (extracted-plain e reach (n + count_clauses cs) locals is parts.1
        ∙ moved _ _ reach n (R e locals) (clauses_counted names current cs locals parts.0))
        ∙ received-extracted ds o (R e locals) reach n h
    extracted-plain _ reach n locals is h = absurd h

    all-extracted : (es : Syntaxes) (reach : Reach) (n : ℕ) (locals : List FunName)
        → names_in reach ≡ locals → AreWhole (Rs es locals)
        → shown (extracted_all names current captured reach n es) ≡ Ts reach n (Rs es locals)
    all-extracted NoSyntax reach n locals is h = refl
    all-extracted (MoreSyntax e es) reach n locals is h =
        both _ _ (extracted-plain e reach n locals is h.0)
        (all-extracted es reach (n + count e) locals is h.1
        ∙ ap (λ k. Ts reach (n + k) (Rs es locals)) (sym (counted names current e locals h.0)))

    spawn-extracted : (es : Syntaxes) (reach : Reach) (n : ℕ) (locals : List FunName)
        → names_in reach ≡ locals → IsWhole (resolve_spawn names current es locals)
        → shown (extracted_all names current captured reach n es)
        ≡ T reach n (resolve_spawn names current es locals)
    spawn-extracted (MoreSyntax (s.Atom m) (MoreSyntax (s.Atom f) (MoreSyntax s.Nil NoSyntax)))
        reach n locals is h =
        call-extracted (spawn_head (function_called names current m f 0)) reach n NoExpressions h
    spawn-extracted
        (MoreSyntax (s.Atom m) (MoreSyntax (s.Atom f)
        (MoreSyntax (s.ListOf site es s.Nil) NoSyntax))) reach n locals is h =
        let o = spawn_head (function_called names current m f (size es)) in
        let ts = Rs es locals in
        let at : n + 0 + 0 ≡ n = omega arith in
        ap (λ k. shown ((extracted_all names current captured reach k es ++ []) ++ [])) at
        ∙ ap shown (append-nil _ ∙ append-nil _)
        ∙ all-extracted es reach n locals is (call_counted o ts h)
        ∙ call-extracted o reach n ts h
    spawn-extracted _ reach n locals is h = absurd h

    guard-extracted : (e : Syntax) (reach : Reach) (n : ℕ) (locals : List FunName)
        → names_in reach ≡ locals
        → (IsWhole (R e locals) → shown (E reach n e) ≡ T reach n (R e locals))
        → IsWhole (resolve_guard names current e (R e locals) locals)
        → shown (E reach n e) ≡ T reach n (resolve_guard names current e (R e locals) locals)
    guard-extracted (s.Try e xs (s.Var x) ys (s.Atom a)) reach n locals is k h =
        chosen-extracted (is_guard_form names current xs x ys a) reach n (shown (E reach n e))
        (R e locals) (extracted-plain e reach n locals is) h
    guard-extracted _ reach n locals is k h = k h

    clauses-extracted : (cs : s.Clauses) (reach : Reach) (n : ℕ) (locals : List FunName)
        → names_in reach ≡ locals → ClausesAreWhole (resolve_clauses names current cs locals)
        → shown (extracted_clauses names current captured reach n cs)
        ≡ in_tree.extracted_clauses captured reach n (resolve_clauses names current cs locals)
    clauses-extracted s.NoClauses reach n locals is h = refl
    clauses-extracted (s.MoreClauses ps g b cs) reach n locals is h =
        let ds = resolve_clauses names current cs locals in
        let first = guard_counted names current g locals (counted names current g locals) h.0 in
        let second = counted names current b locals h.1 in
        both _ _ (guard-extracted g reach n locals is (extracted-plain g reach n locals is) h.0)
        (both _ _
        (extracted-plain b reach (n + count g) locals is h.1
        ∙ moved _ _ reach n (R b locals) first)
        (clauses-extracted cs reach (n + count g + count b) locals is h.2
        ∙ (λ j. in_tree.extracted_clauses captured reach (n + sym first j + sym second j) ds)))

    functions-extracted : (fs : s.Definitions) (reach : Reach) (n : ℕ) (locals : List FunName)
        → names_in reach ≡ locals → FunctionsAreWhole (resolve_definitions names current fs locals)
        → shown (extracted_functions names current captured reach n fs)
        ≡ in_tree.extracted_functions captured reach n (resolve_definitions names current fs locals)
    functions-extracted s.NoDefinitions reach n locals is h = refl
    functions-extracted (s.MoreDefinitions f xs b fs) reach n locals is h =
        let gs = resolve_definitions names current fs locals in
        let own = lifted-plain names current captured b reach (suc n) locals is h.0 in
        let others = both _ _ (extracted-plain b reach (suc n) locals is h.0)
        (functions-extracted fs reach (suc (n + count b)) locals is h.1
        ∙ ap (λ k. in_tree.extracted_functions captured reach (suc (n + k)) gs)
        (sym (counted names current b locals h.0))) in
        λ i. record { parameters = captured n ++ xs; body = own i } ∷ others i
