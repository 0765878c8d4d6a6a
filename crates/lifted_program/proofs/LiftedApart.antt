-- In a lifted program no binding stands in the scope of another of its variable.
use Rattle.std.proofs.Common.{◌≡◌, ℕ, suc, ◌+◌, List, [], ◌∷◌, ◌++◌, length, Bool, true, false}
use Rattle.std.proofs.Common.{true≢false, Option, Some, None, refl, sym, ap, ◌∙◌, subst, ◌⊎◌, inl}
use Rattle.std.proofs.Common.{inr, ⊎_elim}
use Rattle.std.specs.Prelude.{◌==◌, ◌||◌}
use Rattle.std.specs.List.{All, AllByRecursion, IsDistinct}
use Rattle.std.proofs.lemmas.Bool.{ne_eqb, eq-eqb}
use Rattle.std.proofs.lemmas.List.Elements.{All-nil, All-cons, All-append, All-head, All-tail}
use Rattle.std.proofs.lemmas.Map.Keys.{IsDistinct-head, IsDistinct-tail}
use Rattle.hy_core.specs.Resolved as r
use Rattle.hy_core.specs.Resolved.{Pattern, Patterns, NoPatterns, MorePatterns, Head, Expression}
use Rattle.hy_core.specs.Resolved.{Expressions, NoExpressions, MoreExpressions, Clauses, NoClauses}
use Rattle.hy_core.specs.Resolved.{MoreClauses, Functions, NoFunctions, MoreFunctions, FunctionTree}
use Rattle.hy_core.specs.Scopes.{Scope, is_bound, with_variables, with_pattern, with_patterns}
use Rattle.lifted_program.specs.Apart.{AreNew, IsNewPattern, AreNewPatterns, BindsApart, BindApart}
use Rattle.lifted_program.specs.Apart.{ClausesBindApart, FunctionsBindApart, FunctionBindsApart}
use Rattle.lifted_program.specs.Captured.{Definition, definitions, definitions_all}
use Rattle.lifted_program.specs.Captured.{definitions_clauses, definitions_functions}
use Rattle.lifted_program.specs.Captured.{definitions_of, uses, AreCaptured}
use Rattle.lifted_program.specs.LetrecNumbers.{count, count_all, count_clauses, count_functions}
use Rattle.lifted_program.specs.LetrecNumbers.{Reach, reach_of, number_in}
use Rattle.lifted_program.specs.LiftedProgram.{passing, call_lifted, call_of, lifted, lifted_all}
use Rattle.lifted_program.specs.LiftedProgram.{lifted_clauses, extracted, extracted_all}
use Rattle.lifted_program.specs.LiftedProgram.{extracted_clauses, extracted_functions, lifted_tops}
use Rattle.lifted_program.specs.LiftedProgram.{extracted_program, lifted_program}
use Rattle.lifted_program.proofs.Lifted.{facts}
use Rattle.lifted_program.proofs.ReadyLemmas.{HaveAll, have_left, have_right, have_from, further}
use Rattle.lifted_program.proofs.ReadyLemmas.{definitions-count, definitions_all-count}
use Rattle.lifted_program.proofs.ReadyLemmas.{definitions_clauses-count}
use Rattle.lifted_program.proofs.ReadyLemmas.{definitions_functions-count}
use Rattle.lifted_program.proofs.Variables.{In, bound_in, in_bound, with_append, with_wider}
use Rattle.lifted_program.proofs.Variables.{with_pattern_wider, with_patterns_wider}

abbrev Inside : Scope → Scope → Type 0
Inside vs s = (y : ℕ) → In y vs → In y s

not_bound : (x : ℕ) (vs s : Scope) → Inside vs s → is_bound x s ≡ false → is_bound x vs ≡ false
not_bound x vs s h e = by_case (is_bound x vs) refl
  where
    by_case : (c : Bool) → is_bound x vs ≡ c → is_bound x vs ≡ false
    by_case true p = absurd (true≢false (sym (in_bound x s (h x (bound_in x vs p))) ∙ e))
    by_case false p = p

inside_more : (x : ℕ) (vs s : Scope) → Inside vs s → Inside (x ∷ vs) (x ∷ s)
inside_more x vs s h y i = ⊎_elim inl (λ k. inr (h y k)) i

-- what is new in a scope is new in one that lies inside

new_inside : (xs : List ℕ) (vs s : Scope) → Inside vs s → AreNew s xs → AreNew vs xs
new_inside [] vs s h n = tt
new_inside (x ∷ xs) vs s h n =
    (not_bound x vs s h n.0, new_inside xs (x ∷ vs) (x ∷ s) (inside_more x vs s h) n.1)

mutual
  pattern_inside : (p : Pattern) (vs s : Scope) → Inside vs s → IsNewPattern s p → IsNewPattern vs p
  pattern_inside (r.AnyTerm x) vs s h n = not_bound x vs s h n
  pattern_inside (r.TheTuple ps) vs s h n = patterns_inside ps vs s h n
  pattern_inside (r.TheList ps p) vs s h n = (
    patterns_inside ps vs s h n.0,
    pattern_inside p (with_patterns vs ps) (with_patterns s ps)
        (with_patterns_wider ps vs s h) n.1,
  )
  pattern_inside (r.Alias x p) vs s h n =
      (not_bound x vs s h n.0, pattern_inside p (x ∷ vs) (x ∷ s) (inside_more x vs s h) n.1)
  pattern_inside _ vs s h n = tt

  patterns_inside : (ps : Patterns) (vs s : Scope) → Inside vs s → AreNewPatterns s ps
      → AreNewPatterns vs ps
  patterns_inside NoPatterns vs s h n = tt
  patterns_inside (MorePatterns p ps) vs s h n = (
    pattern_inside p vs s h n.0,
    patterns_inside ps (with_pattern vs p) (with_pattern s p) (with_pattern_wider p vs s h) n.1,
  )

-- distinct variables, none of them in scope, are new
new_distinct : (xs : List ℕ) (scope : Scope) → IsDistinct ◌==◌ xs
    → ((y : ℕ) → In y xs → is_bound y scope ≡ false) → AreNew scope xs
new_distinct [] scope d h = tt
new_distinct (x ∷ xs) scope d h = (
  h x (inl refl),
  new_distinct xs (x ∷ scope) (IsDistinct-tail ◌==◌ x xs d)
      (λ y i. ap (λ c. c || is_bound y scope)
      (ne_eqb y x (λ e. other xs y i (IsDistinct-head ◌==◌ x xs d) (sym e))) ∙ h y (inr i)),
)
  where
    other : (ys : List ℕ) (y : ℕ) → In y ys → AllByRecursion (λ z. (x == z) ≡ false) ys → x ≡ y → ⊥
    other [] y i a e = absurd i
    other (z ∷ ys) y i a e =
        ⊎_elim (λ k. true≢false (sym (eq-eqb x z (e ∙ k)) ∙ a.0)) (λ k. other ys y k a.1 e) i

new_append : (xs ys : List ℕ) (scope : Scope) → AreNew scope xs
    → AreNew (with_variables scope xs) ys → AreNew scope (xs ++ ys)
new_append [] ys scope h k = k
new_append (x ∷ xs) ys scope h k = (h.0, new_append xs ys (x ∷ scope) h.1 k)

only : (xs : List ℕ) (scope : Scope) (y : ℕ) → In y (with_variables scope xs) → In y xs ⊎ In y scope
only [] scope y h = inr h
only (x ∷ xs) scope y h =
    ⊎_elim (λ k. inl (inr k)) (λ k. ⊎_elim (λ e. inl (inl e)) inr k) (only xs (x ∷ scope) y h)

passing_apart : (xs : List ℕ) (es : Expressions) (s : Scope) → BindApart s es
    → BindApart s (passing xs es)
passing_apart [] es s h = h
passing_apart (x ∷ xs) es s h = (tt, passing_apart xs es s h)

module _ (captured : ℕ → List ℕ) where
  call_apart : (o : Option ℕ) (es : Expressions) (s : Scope) → BindApart s es
      → BindsApart s (call_lifted captured o es)
  call_apart None es s h = tt
  call_apart (Some k) es s h = passing_apart (captured k) es s h

  head_apart : (reach : Reach) (head : Head) (es : Expressions) (s : Scope) → BindApart s es
      → BindsApart s (call_of captured reach head es)
  head_apart reach (r.Local f) es s h = call_apart (number_in reach f) es s h
  head_apart reach (r.BuiltIn b) es s h = h
  head_apart reach (r.Function f) es s h = h
  head_apart reach (r.Setelement site) es s h = h
  head_apart reach (r.Send node) es s h = h
  head_apart reach (r.Spawn node f) es s h = h
  head_apart reach (r.Display node) es s h = h
  head_apart reach (r.Raising class) es s h = h
  head_apart reach r.MatchFail es s h = h

  -- lifting leaves bindings apart, in a scope that lies inside too
  mutual
    apart : (e : Expression) (reach : Reach) (n : ℕ) (vs s : Scope) → Inside vs s → BindsApart s e
        → BindsApart vs (lifted captured reach n e)
    apart (r.Int v) reach n vs s i h = tt
    apart (r.Atom a) reach n vs s i h = tt
    apart r.Nil reach n vs s i h = tt
    apart (r.Text site t) reach n vs s i h = tt
    apart (r.Variable x) reach n vs s i h = tt
    apart (r.Tuple site es) reach n vs s i h = all_apart es reach n vs s i h
    apart (r.ListOf site es e) reach n vs s i h =
        (all_apart es reach n vs s i h.0, apart e reach (n + count_all es) vs s i h.1)
    apart (r.Values es) reach n vs s i h = all_apart es reach n vs s i h
    apart (r.Let xs e b) reach n vs s i h = (
      apart e reach n vs s i h.0,
      new_inside xs vs s i h.1,
      apart b reach (n + count e) (with_variables vs xs) (with_variables s xs)
          (with_wider xs vs s i) h.2,
    )
    apart (r.Do e b) reach n vs s i h =
        (apart e reach n vs s i h.0, apart b reach (n + count e) vs s i h.1)
    apart (r.Case e cs) reach n vs s i h =
        (apart e reach n vs s i h.0, clauses_apart cs reach (n + count e) vs s i h.1)
    apart (r.Letrec fs e) reach n vs s i h =
        apart e (reach_of n fs ++ reach) (n + count_functions fs) vs s i h.1
    apart (r.Call head es) reach n vs s i h =
        head_apart reach head (lifted_all captured reach n es) vs (all_apart es reach n vs s i h)
    apart (r.Receive cs timeout e) reach n vs s i h =
        (clauses_apart cs reach n vs s i h.0, apart e reach (n + count_clauses cs) vs s i h.1)
    apart r.Refused reach n vs s i h = tt

    all_apart : (es : Expressions) (reach : Reach) (n : ℕ) (vs s : Scope) → Inside vs s
        → BindApart s es → BindApart vs (lifted_all captured reach n es)
    all_apart NoExpressions reach n vs s i h = tt
    all_apart (MoreExpressions e es) reach n vs s i h =
        (apart e reach n vs s i h.0, all_apart es reach (n + count e) vs s i h.1)

    clauses_apart : (cs : Clauses) (reach : Reach) (n : ℕ) (vs s : Scope) → Inside vs s
        → ClausesBindApart s cs → ClausesBindApart vs (lifted_clauses captured reach n cs)
    clauses_apart NoClauses reach n vs s i h = tt
    clauses_apart (MoreClauses ps g b cs) reach n vs s i h =
        let vs' = with_patterns vs ps in
        let s' = with_patterns s ps in
        let i' = with_patterns_wider ps vs s i in (
          patterns_inside ps vs s i h.0,
          apart g reach n vs' s' i' h.1,
          apart b reach (n + count g) vs' s' i' h.2,
          clauses_apart cs reach (n + count g + count b) vs s i h.3,
        )

  -- what a function captured is in scope of its letrec, each once
  pub record Captures (k : ℕ) (d : Definition) : Type 0 where
    pub within : Inside (captured k) d.scope
    pub once : IsDistinct ◌==◌ (captured k)

  function_apart : (n : ℕ) (us : Definition) (xs : List ℕ) (b : Expression) (reach : Reach)
      → Captures n us → AreNew us.scope xs → BindsApart (with_variables us.scope xs) b
      → FunctionBindsApart
      (record { parameters = captured n ++ xs; body = lifted captured reach (suc n) b })
  function_apart n us xs b reach c new h =
      let ys = captured n in
      let base = with_variables [] ys in
      let inside : Inside base us.scope = λ y i. ⊎_elim (λ k. c.within y k) (λ k. absurd k)
      (only ys [] y i) in (
        new_append ys xs [] (new_distinct ys [] c.once (λ y i. refl))
            (new_inside xs base us.scope inside new),
        subst (λ s. BindsApart s (lifted captured reach (suc n) b)) (sym (with_append ys xs []))
            (apart b reach (suc n) (with_variables base xs) (with_variables us.scope xs)
            (with_wider xs base us.scope inside) h),
      )

  abbrev AllApart : List FunctionTree → Type 0
  AllApart fs = All FunctionBindsApart fs

  both : (fs gs : List FunctionTree) → AllApart fs → AllApart gs → AllApart (fs ++ gs)
  both fs gs h k = All-append FunctionBindsApart fs gs h k

  abbrev Have : ℕ → List Definition → Type 0
  Have n ds = HaveAll Captures n ds

  behind : (n c : ℕ) (a b : List Definition) → length a ≡ c → Have n (a ++ b) → Have (n + c) b
  behind n c a b e h = have_right Captures n (n + c) a b (ap (λ l. n + l) (sym e)) h

  mutual
    extracted_apart : (e : Expression) (s : Scope) (reach : Reach) (n : ℕ) → BindsApart s e
        → Have n (definitions s reach n e) → AllApart (extracted captured reach n e)
    extracted_apart (r.Tuple site es) s reach n h d = all_extracted es s reach n h d
    extracted_apart (r.ListOf site es e) s reach n h d =
        let m = n + count_all es in
        let a = definitions_all s reach n es in
        let b = definitions s reach m e in
        both (extracted_all captured reach n es) (extracted captured reach m e)
        (all_extracted es s reach n h.0 (have_left Captures n a b d))
        (extracted_apart e s reach m h.1
        (behind n (count_all es) a b (definitions_all-count es s reach n) d))
    extracted_apart (r.Values es) s reach n h d = all_extracted es s reach n h d
    extracted_apart (r.Let xs e c) s reach n h d =
        let m = n + count e in
        let a = definitions s reach n e in
        let b = definitions (with_variables s xs) reach m c in
        both (extracted captured reach n e) (extracted captured reach m c)
        (extracted_apart e s reach n h.0 (have_left Captures n a b d))
        (extracted_apart c (with_variables s xs) reach m h.2
        (behind n (count e) a b (definitions-count e s reach n) d))
    extracted_apart (r.Do e c) s reach n h d =
        let m = n + count e in
        let a = definitions s reach n e in
        let b = definitions s reach m c in
        both (extracted captured reach n e) (extracted captured reach m c)
        (extracted_apart e s reach n h.0 (have_left Captures n a b d))
        (extracted_apart c s reach m h.1 (behind n (count e) a b (definitions-count e s reach n) d))
    extracted_apart (r.Case e cs) s reach n h d =
        let m = n + count e in
        let a = definitions s reach n e in
        let b = definitions_clauses s reach m cs in
        both (extracted captured reach n e) (extracted_clauses captured reach m cs)
        (extracted_apart e s reach n h.0 (have_left Captures n a b d))
        (clauses_extracted cs s reach m h.1
        (behind n (count e) a b (definitions-count e s reach n) d))
    extracted_apart (r.Letrec fs e) s reach n h d =
        let inside = reach_of n fs ++ reach in
        let m = n + count_functions fs in
        let a = definitions_functions s inside n fs in
        let b = definitions s inside m e in
        both (extracted_functions captured inside n fs) (extracted captured inside m e)
        (functions_extracted fs s inside n h.0 (have_left Captures n a b d))
        (extracted_apart e s inside m h.1
        (behind n (count_functions fs) a b (definitions_functions-count fs s inside n) d))
    extracted_apart (r.Call head es) s reach n h d = all_extracted es s reach n h d
    extracted_apart (r.Receive cs timeout e) s reach n h d =
        let m = n + count_clauses cs in
        let a = definitions_clauses s reach n cs in
        let b = definitions s reach m e in
        both (extracted_clauses captured reach n cs) (extracted captured reach m e)
        (clauses_extracted cs s reach n h.0 (have_left Captures n a b d))
        (extracted_apart e s reach m h.1
        (behind n (count_clauses cs) a b (definitions_clauses-count cs s reach n) d))
    extracted_apart _ s reach n h d = All-nil FunctionBindsApart

    all_extracted : (es : Expressions) (s : Scope) (reach : Reach) (n : ℕ) → BindApart s es
        → Have n (definitions_all s reach n es) → AllApart (extracted_all captured reach n es)
    all_extracted NoExpressions s reach n h d = All-nil FunctionBindsApart
    all_extracted (MoreExpressions e es) s reach n h d =
        let m = n + count e in
        let a = definitions s reach n e in
        let b = definitions_all s reach m es in
        both (extracted captured reach n e) (extracted_all captured reach m es)
        (extracted_apart e s reach n h.0 (have_left Captures n a b d))
        (all_extracted es s reach m h.1 (behind n (count e) a b (definitions-count e s reach n) d))

    clauses_extracted : (cs : Clauses) (s : Scope) (reach : Reach) (n : ℕ) → ClausesBindApart s cs
        → Have n (definitions_clauses s reach n cs)
        → AllApart (extracted_clauses captured reach n cs)
    clauses_extracted NoClauses s reach n h d = All-nil FunctionBindsApart
    clauses_extracted (MoreClauses ps g c cs) s reach n h d =
        let inside = with_patterns s ps in
        let m = n + count g in
        let l = m + count c in
        let a = definitions inside reach n g in
        let b = definitions inside reach m c in
        let others = definitions_clauses s reach l cs in
        let d' = behind n (count g) a (b ++ others) (definitions-count g inside reach n) d in
        both (extracted captured reach n g)
        (extracted captured reach m c ++ extracted_clauses captured reach l cs)
        (extracted_apart g inside reach n h.1 (have_left Captures n a (b ++ others) d))
        (both (extracted captured reach m c) (extracted_clauses captured reach l cs)
        (extracted_apart c inside reach m h.2 (have_left Captures m b others d'))
        (clauses_extracted cs s reach l h.3
        (behind m (count c) b others (definitions-count c inside reach m) d')))

    functions_extracted : (fs : Functions) (s : Scope) (reach : Reach) (n : ℕ)
        → FunctionsBindApart s fs → Have n (definitions_functions s reach n fs)
        → AllApart (extracted_functions captured reach n fs)
    functions_extracted NoFunctions s reach n h d = All-nil FunctionBindsApart
    functions_extracted (MoreFunctions f xs c fs) s reach n h d =
        let inside = with_variables s xs in
        let m = suc (n + count c) in
        let a = definitions inside reach (suc n) c in
        let b = definitions_functions s reach m fs in
        let inner = extracted captured reach (suc n) c in
        let others = extracted_functions captured reach m fs in
        let here = definitions_functions s reach n (MoreFunctions f xs c fs) in
        All-cons FunctionBindsApart
        (record { parameters = captured n ++ xs; body = lifted captured reach (suc n) c })
        (inner ++ others)
        (function_apart n
        (record { scope = s; uses = uses reach (suc n) c }) xs c reach d.0 h.0 h.1)
        (both inner others
        (extracted_apart c inside reach (suc n) h.1 (have_left Captures (suc n) a b d.1))
        (functions_extracted fs s reach m h.2
        (have_right Captures (suc n) m a b
        (further n (count c) (length a) (definitions-count c inside reach (suc n))) d.1)))

  tops_apart : (fs : List FunctionTree) (n : ℕ) → AllApart fs → AllApart (lifted_tops captured n fs)
  tops_apart [] n h = All-nil FunctionBindsApart
  tops_apart (f ∷ fs) n h =
      let scope = with_variables [] f.parameters in
      let here = All-head FunctionBindsApart f fs h in
      All-cons FunctionBindsApart
      (record { parameters = f.parameters; body = lifted captured [] n f.body })
      (lifted_tops captured (n + count f.body) fs)
      (here.0, apart f.body [] n scope scope (λ y i. i) here.1)
      (tops_apart fs (n + count f.body) (All-tail FunctionBindsApart f fs h))

  program_apart : (fs : List FunctionTree) (n : ℕ) → AllApart fs → Have n (definitions_of n fs)
      → AllApart (extracted_program captured n fs)
  program_apart [] n h d = All-nil FunctionBindsApart
  program_apart (f ∷ fs) n h d =
      let scope = with_variables [] f.parameters in
      let m = n + count f.body in
      let here = All-head FunctionBindsApart f fs h in
      let a = definitions scope [] n f.body in
      let b = definitions_of m fs in
      both (extracted captured [] n f.body) (extracted_program captured m fs)
      (extracted_apart f.body scope [] n here.1 (have_left Captures n a b d))
      (program_apart fs m (All-tail FunctionBindsApart f fs h)
      (behind n (count f.body) a b (definitions-count f.body scope [] n) d))

  pub lifted_apart : (program : List FunctionTree) → AreCaptured program captured
      → All FunctionBindsApart program → All FunctionBindsApart (lifted_program captured program)
  lifted_apart program exact h =
      let n = length program in
      let have = have_from Captures n (definitions_of n program)
      (λ j d p.
      record { within = (facts captured program exact j d p).within; once = exact.once (n + j) }) in
      both (lifted_tops captured n program) (extracted_program captured n program)
      (tops_apart program n h) (program_apart program n h have)
