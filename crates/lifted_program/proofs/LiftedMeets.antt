-- The lifted program is one with its letrecs lifted, where the captured variables are closed.
use Rattle.std.proofs.Common.{◌≡◌, ℕ, suc, ◌+◌, List, [], ◌∷◌, ◌++◌, map, Some, Bool, true, false}
use Rattle.std.proofs.Common.{refl, sym, ap, ◌∙◌, subst, ◌⊎◌, inl, inr, ⊎_elim}
use Rattle.std.specs.Prelude.{if◌then◌else◌, slice_get}
use Rattle.std.proofs.lemmas.List.{map-append}
use Rattle.std.proofs.lemmas.Option.{none-some, same_Some}
use Rattle.hy_core.specs.declared.tree.FunName.{FunName}
use Rattle.hy_core.specs.Resolved as r
use Rattle.hy_core.specs.Resolved.{Patterns, Head, Expression, Expressions, NoExpressions}
use Rattle.hy_core.specs.Resolved.{MoreExpressions, Clauses, NoClauses, MoreClauses, Functions}
use Rattle.hy_core.specs.Resolved.{NoFunctions, MoreFunctions, FunctionTree, is_name}
use Rattle.hy_core.specs.Scopes.{with_variables, with_patterns}
use Rattle.lifted_program.proofs.Variables.{In, in_left, in_right, in_split, AllOut, all_in_from}
use Rattle.lifted_program.proofs.Variables.{all_out_from, patterns_variables, patterns_bind}
use Rattle.lifted_program.proofs.Variables.{in_with, in_these, in_with_patterns, with_append}
use Rattle.lifted_program.proofs.LiftOf.{LocalFunction, find, all_captured, IsPlain, LiftOf}
use Rattle.lifted_program.proofs.LiftOf.{lift_int, lift_atom, lift_nil, lift_text, lift_variable}
use Rattle.lifted_program.proofs.LiftOf.{lift_tuple, lift_list, lift_values, lift_let, lift_do}
use Rattle.lifted_program.proofs.LiftOf.{lift_case, lift_receive, lift_call, lift_local}
use Rattle.lifted_program.proofs.LiftOf.{lift_letrec, lift_refused, LiftsOf, lifts_none, lifts_more}
use Rattle.lifted_program.proofs.LiftOf.{LiftClauses, clauses_none, clauses_more, GroupOf}
use Rattle.lifted_program.proofs.LiftOf.{group_none, group_more}
use Rattle.lifted_program.specs.LetrecNumbers.{count, count_all, count_clauses, count_functions}
use Rattle.lifted_program.specs.LetrecNumbers.{Reach, reach_of, number_in}
use Rattle.lifted_program.specs.Captured.{Use, OfVariable, OfFunction, uses, uses_all, uses_clauses}
use Rattle.lifted_program.specs.Captured.{uses_functions, head_uses, use_of}
use Rattle.lifted_program.specs.LiftedProgram.{passing, lifted, lifted_all, lifted_clauses}
use Rattle.lifted_program.specs.LiftedProgram.{call_lifted, call_of}

module _ (tops : ℕ) (program : List FunctionTree) (captured : ℕ → List ℕ) where
  abbrev pub local_of : FunName × ℕ → LocalFunction
  local_of g = record { name = g.0; number = g.1; captured = captured g.1 }

  abbrev pub locals_of : Reach → List LocalFunction
  locals_of = map local_of

  -- what the free variables of a function are: closed, and none more
  pub record Facts (k : ℕ) (scope : List ℕ) (us : List Use) : Type 0 where
    pub within : (x : ℕ) → In x (captured k) → In x scope
    pub used : (x : ℕ) → In x scope → In (OfVariable x) us → In x (captured k)
    pub passed : (g x : ℕ) → In x scope → In (OfFunction g) us → In x (captured g)
        → In x (captured k)
    pub why : (x : ℕ) → In x (captured k) → In (OfVariable x) us
        ⊎ ((g : ℕ) × In (OfFunction g) us × In x (captured g))

  abbrev pub HeadReady : Reach → Head → Type 0
  HeadReady reach (r.Local f) = (k : ℕ) × (number_in reach f ≡ Some k)
  HeadReady reach head = IsPlain tops program head

  -- variables are bound, no binding meets another, functions of letrecs are in reach, and stand
  -- lifted in the program
  abbrev mutual
    pub Ready : List ℕ → Reach → (n : ℕ) → Expression → Type 0
    Ready s reach n (r.Variable x) = In x s
    Ready s reach n (r.Tuple site es) = ReadyAll s reach n es
    Ready s reach n (r.ListOf site es e) =
        ReadyAll s reach n es × Ready s reach (n + count_all es) e
    Ready s reach n (r.Values es) = ReadyAll s reach n es
    Ready s reach n (r.Let xs e b) =
        Ready s reach n e × AllOut xs s × Ready (with_variables s xs) reach (n + count e) b
    Ready s reach n (r.Do e b) = Ready s reach n e × Ready s reach (n + count e) b
    Ready s reach n (r.Case e cs) = Ready s reach n e × ReadyClauses s reach (n + count e) cs
    Ready s reach n (r.Letrec fs e) =
        ReadyFunctions s (reach_of n fs ++ reach) n fs
        × Ready s (reach_of n fs ++ reach) (n + count_functions fs) e
    Ready s reach n (r.Call head es) = HeadReady reach head × ReadyAll s reach n es
    Ready s reach n (r.Receive cs timeout e) =
        ReadyClauses s reach n cs × Ready s reach (n + count_clauses cs) e
    Ready s reach n _ = Unit {0}

    pub ReadyAll : List ℕ → Reach → (n : ℕ) → Expressions → Type 0
    ReadyAll s reach n NoExpressions = Unit {0}
    ReadyAll s reach n (MoreExpressions e es) =
        Ready s reach n e × ReadyAll s reach (n + count e) es

    pub ReadyClauses : List ℕ → Reach → (n : ℕ) → Clauses → Type 0
    ReadyClauses s reach n NoClauses = Unit {0}
    ReadyClauses s reach n (MoreClauses ps g b cs) =
        AllOut (patterns_variables ps) s × Ready (with_patterns s ps) reach n g
        × Ready (with_patterns s ps) reach (n + count g) b
        × ReadyClauses s reach (n + count g + count b) cs

    pub ReadyFunctions : List ℕ → Reach → (n : ℕ) → Functions → Type 0
    ReadyFunctions s reach n NoFunctions = Unit {0}
    ReadyFunctions s reach n (MoreFunctions f xs b fs) =
        (slice_get program n
        ≡ Some (record { parameters = captured n ++ xs; body = lifted captured reach (suc n) b }))
        × Facts n s (uses reach (suc n) b) × AllOut xs s
        × Ready (with_variables s xs) reach (suc n) b
        × ReadyFunctions s reach (suc (n + count b)) fs

  -- s: all that is in scope, vs: what is in scope of the lifted function, base: what is in scope of
  -- the letrec that defines it
  record Here (s vs base : List ℕ) (us : List Use) : Type 0 where
    inside : (x : ℕ) → In x s → In x vs ⊎ In x base
    used : (x : ℕ) → In (OfVariable x) us → In x base → In x vs
    passed : (g x : ℕ) → In (OfFunction g) us → In x (captured g) → In x base → In x vs

  here_left : {s vs base : List ℕ} (a b : List Use) → Here s vs base (a ++ b) → Here s vs base a
  here_left a b h =
      record {
        inside = h.inside;
        used = λ x u. h.used x (in_left (OfVariable x) a b u);
        passed = λ g x u. h.passed g x (in_left (OfFunction g) a b u);
      }

  here_right : {s vs base : List ℕ} (a b : List Use) → Here s vs base (a ++ b) → Here s vs base b
  here_right a b h =
      record {
        inside = h.inside;
        used = λ x u. h.used x (in_right (OfVariable x) a b u);
        passed = λ g x u. h.passed g x (in_right (OfFunction g) a b u);
      }

  here_with : {s vs base : List ℕ} {us : List Use} (xs : List ℕ) → Here s vs base us
      → Here (with_variables s xs) (with_variables vs xs) base us
  here_with [] h = h
  here_with {us = us} (x ∷ xs) h =
      here_with {us = us} xs
      (record {
        inside = λ y i. ⊎_elim (λ e. inl (inl e))
            (λ k. ⊎_elim (λ m. inl (inr m)) inr (h.inside y k)) i;
        used = λ y u b. inr (h.used y u b);
        passed = λ g y u c b. inr (h.passed g y u c b);
      })

  here_with_patterns : {s vs base : List ℕ} {us : List Use} (ps : Patterns) → Here s vs base us
      → Here (with_patterns s ps) (with_patterns vs ps) base us
  here_with_patterns {s = s} {vs = vs} {base = base} {us = us} ps h =
      subst (λ ws. Here ws (with_patterns vs ps) base us) (patterns_bind ps s)
      (subst (λ ws. Here (with_variables s (patterns_variables ps)) ws base us)
      (patterns_bind ps vs) (here_with {us = us} (patterns_variables ps) h))

  -- the functions in reach capture nothing but what is in scope
  abbrev pub Reaches : List ℕ → Reach → Type 0
  Reaches s reach = (x : ℕ) → In x (all_captured (locals_of reach)) → In x s

  record Found (reach : Reach) (f : FunName) (k : ℕ) : Type 0 where
    l : LocalFunction
    found : find f (locals_of reach) ≡ Some l
    number : l.number ≡ k
    variables : l.captured ≡ captured k
    inside : (x : ℕ) → In x (captured k) → In x (all_captured (locals_of reach))

  found_in : (reach : Reach) (f : FunName) (k : ℕ) → number_in reach f ≡ Some k → Found reach f k
  found_in [] f k h = absurd (none-some k h)
  found_in (g ∷ reach) f k h = by_case (found_in reach f k) (is_name g.0 f) refl h
    where
      by_case : (number_in reach f ≡ Some k → Found reach f k) → (c : Bool) → is_name g.0 f ≡ c
          → (if c then Some g.1 else number_in reach f) ≡ Some k → Found (g ∷ reach) f k
      by_case rest true p q =
          let e = same_Some g.1 k q in
          record {
            l = local_of g;
            found = ap (λ c. if c then Some (local_of g) else find f (locals_of reach)) p;
            number = e;
            variables = ap captured e;
            inside = λ x i. in_left x (captured g.1) (all_captured (locals_of reach))
                (subst (λ j. In x (captured j)) (sym e) i);
          }
      by_case rest false p q =
          let o = rest q in
          record {
            l = o.l;
            found = ap (λ c. if c then Some (local_of g) else find f (locals_of reach)) p
                ∙ o.found;
            number = o.number;
            variables = o.variables;
            inside = λ x i. in_right x (captured g.1) (all_captured (locals_of reach))
                (o.inside x i);
          }

  -- with the functions of a letrec
  pub reaches_more : (s : List ℕ) (around reach : Reach) (n : ℕ) (fs : Functions)
      → ReadyFunctions s around n fs → Reaches s reach → Reaches s (reach_of n fs ++ reach)
  reaches_more s around reach n NoFunctions h m = m
  reaches_more s around reach n (MoreFunctions f xs b fs) h m =
      λ x i. ⊎_elim (λ k. h.1.within x k)
      (λ k. reaches_more s around reach (suc (n + count b)) fs h.4 m x k)
      (in_split x (captured n)
      (all_captured (locals_of (reach_of (suc (n + count b)) fs ++ reach))) i)

  meets_call : (head : Head) (es : Expressions) (s vs base : List ℕ) (reach : Reach) (n : ℕ)
      → HeadReady reach head → Reaches s reach
      → Here s vs base (head_uses reach head ++ uses_all reach n es)
      → LiftsOf tops program (locals_of reach) vs es (lifted_all captured reach n es)
      → LiftOf tops program (locals_of reach) vs (r.Call head es)
      (call_of captured reach head (lifted_all captured reach n es))
  meets_call (r.Local f) es s vs base reach n h m k d =
      let o = found_in reach f h.0 h.1 in
      let es' = lifted_all captured reach n es in
      let us : head_uses reach (r.Local f) ≡ OfFunction h.0 ∷ [] = ap use_of h.1 in
      let here : In (OfFunction h.0) (head_uses reach (r.Local f)) = subst (In (OfFunction h.0))
      (sym us) (inl refl) in
      let passes : (x : ℕ) → In x (captured h.0)
      → In x vs = λ x i. ⊎_elim (λ j. j)
      (λ b. k.passed h.0 x
      (in_left (OfFunction h.0) (head_uses reach (r.Local f)) (uses_all reach n es) here) i b)
      (k.inside x (m x (o.inside x i))) in
      let written : r.Call (r.Function o.l.number) (passing o.l.captured es')
      ≡ call_lifted captured (number_in reach f) es' =
      (λ i. r.Call (r.Function (o.number i)) (passing (o.variables i) es'))
      ∙ ap (λ p. call_lifted captured p es') (sym h.1) in
      subst (LiftOf tops program (locals_of reach) vs (r.Call (r.Local f) es)) written
      (lift_local o.found
      (all_in_from o.l.captured vs (λ x i. passes x (subst (In x) o.variables i))) d)
  meets_call (r.BuiltIn b) es s vs base reach n h m k d = lift_call h d
  meets_call (r.Function f) es s vs base reach n h m k d = lift_call h d
  meets_call (r.Setelement site) es s vs base reach n h m k d = lift_call h d
  meets_call (r.Send node) es s vs base reach n h m k d = lift_call h d
  meets_call (r.Spawn node f) es s vs base reach n h m k d = lift_call h d
  meets_call (r.Display node) es s vs base reach n h m k d = lift_call h d
  meets_call (r.Raising class) es s vs base reach n h m k d = lift_call h d
  meets_call r.MatchFail es s vs base reach n h m k d = lift_call h d

  mutual
    meets : (e : Expression) (s vs base : List ℕ) (reach : Reach) (n : ℕ) → Ready s reach n e
        → Reaches s reach → Here s vs base (uses reach n e)
        → LiftOf tops program (locals_of reach) vs e (lifted captured reach n e)
    meets (r.Int v) s vs base reach n h m k = lift_int
    meets (r.Atom a) s vs base reach n h m k = lift_atom
    meets r.Nil s vs base reach n h m k = lift_nil
    meets (r.Text site t) s vs base reach n h m k = lift_text
    meets (r.Variable x) s vs base reach n h m k =
        lift_variable (⊎_elim (λ i. i) (λ b. k.used x (inl refl) b) (k.inside x h))
    meets (r.Tuple site es) s vs base reach n h m k =
        lift_tuple (meets_all es s vs base reach n h m k)
    meets (r.ListOf site es e) s vs base reach n h m k =
        let a = uses_all reach n es in
        let b = uses reach (n + count_all es) e in
        lift_list (meets_all es s vs base reach n h.0 m (here_left a b k))
        (meets e s vs base reach (n + count_all es) h.1 m (here_right a b k))
    meets (r.Values es) s vs base reach n h m k = lift_values (meets_all es s vs base reach n h m k)
    meets (r.Let xs e c) s vs base reach n h m k =
        let a = uses reach n e in
        let b = uses reach (n + count e) c in
        lift_let (meets e s vs base reach n h.0 m (here_left a b k))
        (all_out_from xs (all_captured (locals_of reach)) s m h.1)
        (meets c (with_variables s xs) (with_variables vs xs) base reach (n + count e) h.2
        (λ x i. in_with xs s x (m x i)) (here_with {us = b} xs (here_right a b k)))
    meets (r.Do e c) s vs base reach n h m k =
        let a = uses reach n e in
        let b = uses reach (n + count e) c in
        lift_do (meets e s vs base reach n h.0 m (here_left a b k))
        (meets c s vs base reach (n + count e) h.1 m (here_right a b k))
    meets (r.Case e cs) s vs base reach n h m k =
        let a = uses reach n e in
        let b = uses_clauses reach (n + count e) cs in
        lift_case (meets e s vs base reach n h.0 m (here_left a b k))
        (meets_clauses cs s vs base reach (n + count e) h.1 m (here_right a b k))
    meets (r.Letrec fs e) s vs base reach n h m k =
        let group = reach_of n fs in
        let inner = group ++ reach in
        let a = uses_functions inner n fs in
        let b = uses inner (n + count_functions fs) e in
        let more = reaches_more s inner reach n fs h.0 m in
        let same : locals_of inner ≡ locals_of group
        ++ locals_of reach = map-append local_of group reach in
        lift_letrec (meets_functions fs s vs base reach group n h.0 more (here_left a b k))
        (subst
        (λ ls. LiftOf tops program ls vs e (lifted captured inner (n + count_functions fs) e)) same
        (meets e s vs base inner (n + count_functions fs) h.1 more (here_right a b k)))
    meets (r.Call head es) s vs base reach n h m k =
        meets_call head es s vs base reach n h.0 m k
        (meets_all es s vs base reach n h.1 m
        (here_right (head_uses reach head) (uses_all reach n es) k))
    meets (r.Receive cs timeout e) s vs base reach n h m k =
        let a = uses_clauses reach n cs in
        let b = uses reach (n + count_clauses cs) e in
        lift_receive (meets_clauses cs s vs base reach n h.0 m (here_left a b k))
        (meets e s vs base reach (n + count_clauses cs) h.1 m (here_right a b k))
    meets r.Refused s vs base reach n h m k = lift_refused

    meets_all : (es : Expressions) (s vs base : List ℕ) (reach : Reach) (n : ℕ)
        → ReadyAll s reach n es → Reaches s reach → Here s vs base (uses_all reach n es)
        → LiftsOf tops program (locals_of reach) vs es (lifted_all captured reach n es)
    meets_all NoExpressions s vs base reach n h m k = lifts_none
    meets_all (MoreExpressions e es) s vs base reach n h m k =
        let a = uses reach n e in
        let b = uses_all reach (n + count e) es in
        lifts_more (meets e s vs base reach n h.0 m (here_left a b k))
        (meets_all es s vs base reach (n + count e) h.1 m (here_right a b k))

    meets_clauses : (cs : Clauses) (s vs base : List ℕ) (reach : Reach) (n : ℕ)
        → ReadyClauses s reach n cs → Reaches s reach → Here s vs base (uses_clauses reach n cs)
        → LiftClauses tops program (locals_of reach) vs cs (lifted_clauses captured reach n cs)
    meets_clauses NoClauses s vs base reach n h m k = clauses_none
    meets_clauses (MoreClauses ps g c cs) s vs base reach n h m k =
        let s' = with_patterns s ps in
        let vs' = with_patterns vs ps in
        let a = uses reach n g in
        let b = uses reach (n + count g) c in
        let d = uses_clauses reach (n + count g + count c) cs in
        let inner : Reaches s' reach = λ x i. in_with_patterns ps s x (m x i) in
        clauses_more (all_out_from (patterns_variables ps) (all_captured (locals_of reach)) s m h.0)
        (meets g s' vs' base reach n h.1 inner
        (here_with_patterns {us = a} ps (here_left a (b ++ d) k)))
        (meets c s' vs' base reach (n + count g) h.2 inner
        (here_with_patterns {us = b} ps (here_left b d (here_right a (b ++ d) k))))
        (meets_clauses cs s vs base reach (n + count g + count c) h.3 m
        (here_right b d (here_right a (b ++ d) k)))

    -- the functions of a letrec: all of them are the group
    meets_functions : (fs : Functions) (s vs base : List ℕ) (reach group : Reach) (n : ℕ)
        → ReadyFunctions s (group ++ reach) n fs → Reaches s (group ++ reach)
        → Here s vs base (uses_functions (group ++ reach) n fs)
        → GroupOf tops program (locals_of reach) vs (locals_of group) fs (locals_of (reach_of n fs))
    meets_functions NoFunctions s vs base reach group n h m k = group_none
    meets_functions (MoreFunctions f xs c fs) s vs base reach group n h m k =
        let inner = group ++ reach in
        let a = uses inner (suc n) c in
        let b = uses_functions inner (suc (n + count c)) fs in
        let facts = h.1 in
        let same : locals_of inner ≡ locals_of group
        ++ locals_of reach = map-append local_of group reach in
        let start : Here s
        (captured n) s
        a = record {
          inside = λ x i. inr i;
          used = λ x u i. facts.used x i u;
          passed = λ g x u j i. facts.passed g x i u j;
        } in
        let passes : (x : ℕ) → In x (captured n) → In x vs =
        λ x i. ⊎_elim (λ j. j)
        (λ j. ⊎_elim (λ u. k.used x (in_left (OfVariable x) a b u) j)
        (λ u. k.passed u.0 x (in_left (OfFunction u.0) a b u.1) u.2 j) (facts.why x i))
        (k.inside x (facts.within x i)) in
        group_more h.0 (all_in_from (captured n) vs passes)
        (subst (λ ls. AllOut xs (all_captured ls)) same
        (all_out_from xs (all_captured (locals_of inner)) s m h.2))
        (subst
        (λ ls. LiftOf tops program ls (with_variables (captured n) xs) c
        (lifted captured inner (suc n) c)) same
        (meets c (with_variables s xs) (with_variables (captured n) xs) s inner (suc n) h.3
        (λ x i. in_with xs s x (m x i)) (here_with {us = a} xs start)))
        (meets_functions fs s vs base reach group (suc (n + count c)) h.4 m (here_right a b k))

  -- a function of a letrec, with the variables that it captured and its own in scope
  pub function_meets : (c : Expression) (xs : List ℕ) (s : List ℕ) (reach : Reach) (n : ℕ)
      → Facts n s (uses reach (suc n) c) → Ready (with_variables s xs) reach (suc n) c
      → Reaches s reach
      → LiftOf tops program (locals_of reach) (with_variables [] (captured n ++ xs)) c
      (lifted captured reach (suc n) c)
  function_meets c xs s reach n facts h m =
      let ys = captured n in
      let base = with_variables [] ys in
      let a = uses reach (suc n) c in
      let start : Here s base s
      a = record {
        inside = λ x i. inr i;
        used = λ x u i. in_these ys [] x (facts.used x i u);
        passed = λ g x u j i. in_these ys [] x (facts.passed g x i u j);
      } in
      subst (λ vs. LiftOf tops program (locals_of reach) vs c (lifted captured reach (suc n) c))
      (sym (with_append ys xs []))
      (meets c (with_variables s xs) (with_variables base xs) s reach (suc n) h
      (λ x i. in_with xs s x (m x i)) (here_with {us = a} xs start))

  -- a function of a module
  pub lifted_meets : (e : Expression) (xs : List ℕ) (n : ℕ) → Ready (with_variables [] xs) [] n e
      → LiftOf tops program [] (with_variables [] xs) e (lifted captured [] n e)
  lifted_meets e xs n h =
      meets e (with_variables [] xs) (with_variables [] xs) [] [] n h (λ x i. absurd i)
      (record { inside = λ x i. inl i; used = λ x u b. absurd b; passed = λ g x u c b. absurd b })
