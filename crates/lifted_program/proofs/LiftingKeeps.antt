-- A lifted program does what the program does.
use Rattle.std.proofs.Common.{◌≡◌, ◌≢◌, ℕ, ◌<◌, List, [], ◌∷◌, ◌++◌, length, Bool, true, false}
use Rattle.std.proofs.Common.{Option, Some, None, refl, sym, ap, ◌∙◌, subst, ◌⊎◌, inl, inr, ⊎_elim}
use Rattle.std.specs.Prelude.{◌==◌, if◌then◌else◌, slice_get}
use Rattle.std.proofs.lemmas.Bool.{eq-eqb, ne_eqb}
use Rattle.std.proofs.lemmas.Bool.Decides.{eqb_tells}
use Rattle.std.proofs.lemmas.Option.{none-some, same_Some}
use Rattle.hy_terms.specs.Term as term
use Rattle.hy_terms.specs.Term.{Term, Terms, NoTerms, MoreTerms, terms_of}
use Rattle.hy_core.specs.declared.class.Class.{Class}
use Rattle.hy_core.specs.declared.tree.FunName.{FunName}
use Rattle.hy_core.specs.BuiltIn.{Answer, Value, Raises, NoAnswer, answer}
use Rattle.hy_core.specs.Computation.{Computation, Give, Raise, Fault, Act, Call, Birth, Receive}
use Rattle.hy_core.specs.Computation.{bind}
use Rattle.hy_core.specs.Evaluation.{Callee, Top, Inner, Doing, give, single, in_env, or_fault}
use Rattle.hy_core.specs.Evaluation.{or_no_clause, value_of, answered, conses, call, defines}
use Rattle.hy_core.specs.Evaluation.{local_callee, call_if, send_to, send, display, raise, fail}
use Rattle.hy_core.specs.Evaluation.{setelement, holds, first_of_two, lapse, act_on, denote}
use Rattle.hy_core.specs.Evaluation.{denote_all, choose, function_named, enter, body_of, is_some}
use Rattle.hy_core.specs.Match.{Env, Empty, Bound, Locals, lookup, bind_variables, and_then}
use Rattle.hy_core.specs.Match.{on_true, match, match_parts, match_heads, match_all}
use Rattle.hy_core.specs.Resolved as r
use Rattle.hy_core.specs.Resolved.{Pattern, Patterns, NoPatterns, MorePatterns, Head, Timeout}
use Rattle.hy_core.specs.Resolved.{AtOnce, Never, Expression, Expressions, NoExpressions}
use Rattle.hy_core.specs.Resolved.{MoreExpressions, Clauses, NoClauses, MoreClauses, Functions}
use Rattle.hy_core.specs.Resolved.{NoFunctions, MoreFunctions, FunctionTree, is_name}
use Rattle.hy_core.proofs.Runs.{attempt_assoc}
use Rattle.hy_core.specs.Scopes.{with_variables, with_pattern, with_patterns}
use Rattle.lifted_program.specs.LiftedProgram.{passing}
use Rattle.lifted_program.proofs.Variables.{In, in_left, in_right, in_split, AllIn, Out, AllOut}
use Rattle.lifted_program.proofs.Variables.{not_in, out_left, out_right, pattern_variables}
use Rattle.lifted_program.proofs.Variables.{patterns_variables}
use Rattle.lifted_program.proofs.LiftOf.{LocalFunction, find, all_captured, IsPlain, LiftOf}
use Rattle.lifted_program.proofs.LiftOf.{lift_int, lift_atom, lift_nil, lift_text, lift_variable}
use Rattle.lifted_program.proofs.LiftOf.{lift_tuple, lift_list, lift_values, lift_let, lift_do}
use Rattle.lifted_program.proofs.LiftOf.{lift_case, lift_receive, lift_call, lift_local}
use Rattle.lifted_program.proofs.LiftOf.{lift_letrec, lift_refused, LiftsOf, lifts_none, lifts_more}
use Rattle.lifted_program.proofs.LiftOf.{LiftClauses, clauses_none, clauses_more, GroupOf}
use Rattle.lifted_program.proofs.LiftOf.{group_none, group_more, IsLiftedFunction, IsLifted}
use Rattle.std.proofs.lemmas.List.{map-id}
use Rattle.hy_core.specs.Event.{Event}
use Rattle.hy_core.specs.SameBehaviour.{SpawnsOf}
use Rattle.hy_core.specs.SameProgram.{SameProgram, waits}
use Rattle.hy_core.specs.Simulation.{Simulates}
use Rattle.hy_core.proofs.SamePrograms.{simulated_program}
use Rattle.hy_core.proofs.SimulatingHere.{alike_bind, alike_call}

pub bind_give : {V C F A W : Type 0} (p : Computation V C F A W) → bind p Give ≡ p
bind_give (Give vs) = refl
bind_give (Raise c v) = refl
bind_give Fault = refl
bind_give (Act a p) = ap (Act a) (bind_give p)
bind_give (Call f vs k h) = λ i. Call f vs (λ us. bind_give (k us) i) (λ c v. bind_give (h c v) i)
bind_give (Birth k) = λ i. Birth (λ n. bind_give (k n) i)
bind_give (Receive w k p) = λ i. Receive w (λ v. bind_give (k v) i) (bind_give p i)

-- the variables in reach have one term in both
abbrev VarsOk : List ℕ → Env → Env → Type 0
VarsOk vs env env' =
    (x : ℕ) → In x vs → (t : Term) × (lookup x env ≡ Some t) × (lookup x env' ≡ Some t)

in_append : (y : ℕ) (gs hs : List LocalFunction) → In y (all_captured (gs ++ hs))
    → In y (all_captured gs) ⊎ In y (all_captured hs)
in_append y [] hs h = inr h
in_append y (g ∷ gs) hs h =
    ⊎_elim (λ k. inl (in_left y g.captured (all_captured gs) k))
    (λ k. ⊎_elim (λ m. inl (in_right y g.captured (all_captured gs) m)) inr (in_append y gs hs k))
    (in_split y g.captured (all_captured (gs ++ hs)) h)

append_front : (y : ℕ) (gs hs : List LocalFunction) → In y (all_captured gs)
    → In y (all_captured (gs ++ hs))
append_front y [] hs h = absurd h
append_front y (g ∷ gs) hs h =
    ⊎_elim (λ k. in_left y g.captured (all_captured (gs ++ hs)) k)
    (λ k. in_right y g.captured (all_captured (gs ++ hs)) (append_front y gs hs k))
    (in_split y g.captured (all_captured gs) h)

append_back : (y : ℕ) (gs hs : List LocalFunction) → In y (all_captured hs)
    → In y (all_captured (gs ++ hs))
append_back y [] hs h = h
append_back y (g ∷ gs) hs h =
    in_right y g.captured (all_captured (gs ++ hs)) (append_back y gs hs h)

lookup_other : (x y : ℕ) (t : Term) (env : Env) → y ≢ x → lookup y (Bound x t env) ≡ lookup y env
lookup_other x y t env h = ap (λ b. if b then Some t else lookup y env) (ne_eqb y x h)

lookup_here : (x y : ℕ) (t : Term) (env : Env) → y ≡ x → lookup y (Bound x t env) ≡ Some t
lookup_here x y t env h = ap (λ b. if b then Some t else lookup y env) (eq-eqb y x h)

vars_bound : (x : ℕ) (t : Term) (vs : List ℕ) (env env' : Env) → VarsOk vs env env'
    → VarsOk (x ∷ vs) (Bound x t env) (Bound x t env')
vars_bound x t vs env env' h =
    λ y i. ⊎_elim (λ e. (t, lookup_here x y t env e, lookup_here x y t env' e))
    (λ k. other y k (eqb_tells y x)) i
  where
    other : (y : ℕ) → In y vs → ((y == x) ≡ true) × (y ≡ x) ⊎ ((y == x) ≡ false) × (y ≢ x)
        → (u : Term) × (lookup y (Bound x t env) ≡ Some u) × (lookup y (Bound x t env') ≡ Some u)
    other y k s =
        ⊎_elim (λ e. (t, lookup_here x y t env e.1, lookup_here x y t env' e.1))
        (λ n. let u = h y k in
        (u.0, lookup_other x y t env n.1 ∙ u.1, lookup_other x y t env' n.1 ∙ u.2)) s

module _ (tops : ℕ) (program : List FunctionTree) where
  -- the functions of letrecs in reach, with the terms of the variables that they captured
  abbrev FunsOk : List LocalFunction → List ℕ → Env → Env → Type 0
  FunsOk ls vs Empty env' = ls ≡ []
  FunsOk ls vs (Bound x t env) env' = FunsOk ls vs env env'
  FunsOk ls vs (Locals fs env) env' =
      (gs : List LocalFunction) × (hs : List LocalFunction) × (ls ≡ gs ++ hs)
      × FunsOk hs vs env env'
      × ((ws : List ℕ) × (envd : Env) × VarsOk ws env envd × FunsOk hs ws env envd
      × GroupOf tops program hs ws gs fs gs
      × ((y : ℕ) → In y (all_captured gs) → In y vs → lookup y env' ≡ lookup y envd))

  funs_move : (ls : List LocalFunction) (vs ws : List ℕ) (env env' env'' : Env)
      → FunsOk ls vs env env'
      → ((y : ℕ) → In y (all_captured ls) → In y ws → In y vs × (lookup y env'' ≡ lookup y env'))
      → FunsOk ls ws env env''
  funs_move ls vs ws Empty env' env'' h m = h
  funs_move ls vs ws (Bound x t env) env' env'' h m = funs_move ls vs ws env env' env'' h m
  funs_move ls vs ws (Locals fs env) env' env'' h m =
      let inside_back : (y : ℕ) → In y (all_captured h.1)
      → In y (all_captured ls) = λ y i. subst (λ l. In y (all_captured l)) (sym h.2)
      (append_back y h.0 h.1 i) in
      let inside_front : (y : ℕ) → In y (all_captured h.0)
      → In y (all_captured ls) = λ y i. subst (λ l. In y (all_captured l)) (sym h.2)
      (append_front y h.0 h.1 i) in (
        h.0,
        h.1,
        h.2,
        funs_move h.1 vs ws env env' env'' h.3 (λ y i. m y (inside_back y i)),
        (
          h.4.0,
          h.4.1,
          h.4.2,
          h.4.3,
          h.4.4,
          λ y i j. let k = m y (inside_front y i) j in
              k.1 ∙ h.4.5 y i k.0,
        ),
      )

  funs_bound : (x : ℕ) (t : Term) (ls : List LocalFunction) (vs : List ℕ) (env env' : Env)
      → Out x (all_captured ls) → FunsOk ls vs env env'
      → FunsOk ls (x ∷ vs) (Bound x t env) (Bound x t env')
  funs_bound x t ls vs env env' o h =
      funs_move ls vs (x ∷ vs) env env' (Bound x t env') h
      (λ y i j. let n : y ≢ x = λ e. not_in x y (all_captured ls) o i (sym e) in
      (⊎_elim (λ e. absurd (n e)) (λ k. k) j, lookup_other x y t env' n))

  -- the captured variables have these terms
  abbrev ValuesAre : List ℕ → List Term → Env → Type 0
  ValuesAre [] [] env = Unit {0}
  ValuesAre (y ∷ ys) (v ∷ us) env = (lookup y env ≡ Some v) × ValuesAre ys us env
  ValuesAre _ _ env = ⊥

  record InnerOk (f : FunName) (fs : Functions) (env : Env) (ts : List Term) (k : ℕ)
      (us : List Term) : Type 0 where
    gs : List LocalFunction
    hs : List LocalFunction
    ws : List ℕ
    envd : Env
    vars : VarsOk ws env envd
    funs : FunsOk hs ws env envd
    group : GroupOf tops program hs ws gs fs gs
    l : LocalFunction
    found : find f gs ≡ Some l
    number : l.number ≡ k
    vals : List Term
    values : ValuesAre l.captured vals envd
    args : us ≡ vals ++ ts

  abbrev CallOk : Callee → List Term → Callee → List Term → Type 0
  CallOk (Top f) ts (Top g) us = (f < tops) × (f ≡ g) × (us ≡ ts)
  CallOk (Inner f fs env) ts (Top k) us = InnerOk f fs env ts k us
  CallOk _ _ _ _ = ⊥

  module _ (atoms : List (List ℕ)) (pid : ℕ) where
    abbrev Spawnable : Event Term → Type 0
    Spawnable = SpawnsOf (λ f. f < tops)

    abbrev Same : Doing → Doing → Type 0
    Same = Simulates (λ t. t) Some Spawnable CallOk (waits atoms pid) (waits atoms pid)

    same_bind : (p q : Doing) (k m : List Term → Doing) → Same p q
        → ((ts : List Term) → Same (k ts) (m ts)) → Same (bind p k) (bind q m)
    same_bind = alike_bind Spawnable CallOk (waits atoms pid) (waits atoms pid)

    give_same : (ts : List Term) → Same (single give ts) (single give ts)
    give_same [] = tt
    give_same (t ∷ []) = refl
    give_same (t ∷ u ∷ ts) = tt

    single_same : (k m : Term → Doing) → ((t : Term) → Same (k t) (m t)) → (ts : List Term)
        → Same (single k ts) (single m ts)
    single_same k m h [] = tt
    single_same k m h (t ∷ []) = h t
    single_same k m h (t ∷ u ∷ ts) = tt

    call_same : (c d : Callee) (ts us : List Term) → CallOk c ts d us → Same (call c ts) (call d us)
    call_same c d ts us h =
        alike_call Spawnable CallOk (waits atoms pid) (waits atoms pid) c ts d us (single give)
        (single give) Raise Raise h give_same (λ e t. (refl, refl))

    holds_same : (p q : Doing) → Same p q → holds q ≡ holds p
    holds_same (Give ts) (Give us) h = ap (λ l. holds (Give l)) (sym (map-id us) ∙ h)
    holds_same (Raise c t) (Raise d u) h = refl
    holds_same Fault Fault h = refl
    holds_same (Act e p) (Act d q) h = refl
    holds_same (Call c ts g i) (Call d us g' i') h = refl
    holds_same (Birth g) (Birth g') h = refl
    holds_same (Receive w g p) (Receive w' g' q) h = refl
    holds_same _ _ h = absurd h

    abbrev SameOption : Option Doing → Option Doing → Type 0
    SameOption None None = Unit {0}
    SameOption (Some p) (Some q) = Same p q
    SameOption _ _ = ⊥

    -- both match, with the same terms for the variables
    abbrev Both : List LocalFunction → List ℕ → Option Env → Option Env → Type 0
    Both ls vs None None = Unit {0}
    Both ls vs (Some env) (Some env') = VarsOk vs env env' × FunsOk ls vs env env'
    Both ls vs _ _ = ⊥

    both_also : (ls : List LocalFunction) (vs ws : List ℕ) (o o' : Option Env)
        (k m : Env → Option Env) → Both ls vs o o'
        → ((env env' : Env) → VarsOk vs env env' → FunsOk ls vs env env'
        → Both ls ws (k env) (m env')) → Both ls ws (and_then o k) (and_then o' m)
    both_also ls vs ws None None k m h j = tt
    both_also ls vs ws (Some env) (Some env') k m h j = j env env' h.0 h.1
    both_also ls vs ws _ _ k m h j = absurd h

    both_when : (b : Bool) (ls : List LocalFunction) (vs : List ℕ) (env env' : Env)
        → VarsOk vs env env' → FunsOk ls vs env env' → Both ls vs (on_true b env) (on_true b env')
    both_when true ls vs env env' h j = (h, j)
    both_when false ls vs env env' h j = tt

    mutual
      match_both : (p : Pattern) (ls : List LocalFunction) (vs : List ℕ) (t : Term) (env env' : Env)
          → AllOut (pattern_variables p) (all_captured ls) → VarsOk vs env env'
          → FunsOk ls vs env env' → Both ls (with_pattern vs p) (match p t env) (match p t env')
      match_both (r.AnyTerm x) ls vs t env env' o h j =
          (vars_bound x t vs env env' h, funs_bound x t ls vs env env' o.0 j)
      match_both (r.TheInt n) ls vs (term.Int m) env env' o h j = both_when _ ls vs env env' h j
      match_both (r.TheInt n) ls vs _ env env' o h j = tt
      match_both (r.TheAtom n) ls vs (term.Atom m) env env' o h j = both_when _ ls vs env env' h j
      match_both (r.TheAtom n) ls vs _ env env' o h j = tt
      match_both r.TheNil ls vs term.Nil env env' o h j = (h, j)
      match_both r.TheNil ls vs _ env env' o h j = tt
      match_both (r.TheText s) ls vs t env env' o h j = both_when _ ls vs env env' h j
      match_both (r.TheTuple ps) ls vs (term.Tuple ts) env env' o h j =
          parts_both ps ls vs ts env env' o h j
      match_both (r.TheTuple ps) ls vs _ env env' o h j = tt
      match_both (r.TheList ps p) ls vs t env env' o h j =
          let a = patterns_variables ps in
          let b = pattern_variables p in
          let inside = with_patterns vs ps in
          heads_both ps (λ u e. match p u e) ls vs (with_pattern inside p) t env env'
          (out_left a b (all_captured ls) o) h j
          (λ u e e' v f. match_both p ls inside u e e' (out_right a b (all_captured ls) o) v f)
      match_both (r.Alias x p) ls vs t env env' o h j =
          match_both p ls (x ∷ vs) t (Bound x t env) (Bound x t env') o.1
          (vars_bound x t vs env env' h) (funs_bound x t ls vs env env' o.0 j)

      parts_both : (ps : Patterns) (ls : List LocalFunction) (vs : List ℕ) (ts : Terms)
          (env env' : Env) → AllOut (patterns_variables ps) (all_captured ls) → VarsOk vs env env'
          → FunsOk ls vs env env'
          → Both ls (with_patterns vs ps) (match_parts ps ts env) (match_parts ps ts env')
      parts_both NoPatterns ls vs NoTerms env env' o h j = (h, j)
      parts_both NoPatterns ls vs (MoreTerms t ts) env env' o h j = tt
      parts_both (MorePatterns p ps) ls vs NoTerms env env' o h j = tt
      parts_both (MorePatterns p ps) ls vs (MoreTerms t ts) env env' o h j =
          let a = pattern_variables p in
          let b = patterns_variables ps in
          let inside = with_pattern vs p in
          both_also ls inside (with_patterns inside ps) (match p t env) (match p t env')
          (λ e. match_parts ps ts e) (λ e. match_parts ps ts e)
          (match_both p ls vs t env env' (out_left a b (all_captured ls) o) h j)
          (λ e e' v f. parts_both ps ls inside ts e e' (out_right a b (all_captured ls) o) v f)

      heads_both : (ps : Patterns) (k : Term → Env → Option Env) (ls : List LocalFunction)
          (vs ws : List ℕ) (t : Term) (env env' : Env)
          → AllOut (patterns_variables ps) (all_captured ls) → VarsOk vs env env'
          → FunsOk ls vs env env'
          → ((u : Term) (e e' : Env) → VarsOk (with_patterns vs ps) e e'
          → FunsOk ls (with_patterns vs ps) e e' → Both ls ws (k u e) (k u e'))
          → Both ls ws (match_heads ps k t env) (match_heads ps k t env')
      heads_both NoPatterns k ls vs ws t env env' o h j c = c t env env' h j
      heads_both (MorePatterns p ps) k ls vs ws (term.Cons x y) env env' o h j c =
          let a = pattern_variables p in
          let b = patterns_variables ps in
          let inside = with_pattern vs p in
          both_also ls inside ws (match p x env) (match p x env') (λ e. match_heads ps k y e)
          (λ e. match_heads ps k y e)
          (match_both p ls vs x env env' (out_left a b (all_captured ls) o) h j)
          (λ e e' v f. heads_both ps k ls inside ws y e e'
          (out_right a b (all_captured ls) o) v f c)
      heads_both (MorePatterns p ps) k ls vs ws _ env env' o h j c = tt

    all_both : (ps : Patterns) (ls : List LocalFunction) (vs : List ℕ) (ts : List Term)
        (env env' : Env) → AllOut (patterns_variables ps) (all_captured ls) → VarsOk vs env env'
        → FunsOk ls vs env env'
        → Both ls (with_patterns vs ps) (match_all ps ts env) (match_all ps ts env')
    all_both NoPatterns ls vs [] env env' o h j = (h, j)
    all_both NoPatterns ls vs (t ∷ ts) env env' o h j = tt
    all_both (MorePatterns p ps) ls vs [] env env' o h j = tt
    all_both (MorePatterns p ps) ls vs (t ∷ ts) env env' o h j =
        let a = pattern_variables p in
        let b = patterns_variables ps in
        let inside = with_pattern vs p in
        both_also ls inside (with_patterns inside ps) (match p t env) (match p t env')
        (λ e. match_all ps ts e) (λ e. match_all ps ts e)
        (match_both p ls vs t env env' (out_left a b (all_captured ls) o) h j)
        (λ e e' v f. all_both ps ls inside ts e e' (out_right a b (all_captured ls) o) v f)

    bind_both : (xs : List ℕ) (ts : List Term) (ls : List LocalFunction) (vs : List ℕ)
        (env env' : Env) → AllOut xs (all_captured ls) → VarsOk vs env env' → FunsOk ls vs env env'
        → Both ls (with_variables vs xs) (bind_variables xs ts env) (bind_variables xs ts env')
    bind_both [] [] ls vs env env' o h j = (h, j)
    bind_both [] (t ∷ ts) ls vs env env' o h j = tt
    bind_both (x ∷ xs) [] ls vs env env' o h j = tt
    bind_both (x ∷ xs) (t ∷ ts) ls vs env env' o h j =
        bind_both xs ts ls (x ∷ vs) (Bound x t env) (Bound x t env') o.1
        (vars_bound x t vs env env' h) (funs_bound x t ls vs env env' o.0 j)

    env_same : (ls : List LocalFunction) (vs : List ℕ) (o o' : Option Env) (k m : Env → Doing)
        → Both ls vs o o'
        → ((env env' : Env) → VarsOk vs env env' → FunsOk ls vs env env' → Same (k env) (m env'))
        → Same (in_env k o) (in_env m o')
    env_same ls vs None None k m h j = tt
    env_same ls vs (Some env) (Some env') k m h j = j env env' h.0 h.1
    env_same ls vs _ _ k m h j = absurd h

    -- the captured variables are bound, so they have terms
    values_of : (ys vs : List ℕ) (env env' : Env) → AllIn ys vs → VarsOk vs env env'
        → (us : List Term) × ValuesAre ys us env'
    values_of [] vs env env' h j = ([], tt)
    values_of (y ∷ ys) vs env env' h j =
        let t = j y h.0 in let us = values_of ys vs env env' h.1 j in (t.0 ∷ us.0, (t.2, us.1))

    values_move : (ys : List ℕ) (us : List Term) (env env' : Env)
        → ((y : ℕ) → In y ys → lookup y env ≡ lookup y env') → ValuesAre ys us env
        → ValuesAre ys us env'
    values_move [] [] env env' m h = tt
    values_move (y ∷ ys) (u ∷ us) env env' m h =
        (sym (m y (inl refl)) ∙ h.0, values_move ys us env env' (λ z i. m z (inr i)) h.1)
    values_move [] (u ∷ us) env env' m h = absurd h
    values_move (y ∷ ys) [] env env' m h = absurd h

    vars_first : (ys : List ℕ) (us : List Term) (es : Expressions) (env : Env) → ValuesAre ys us env
        → denote_all atoms pid (passing ys es) env
        ≡ bind (denote_all atoms pid es env) (λ ts. Give (us ++ ts))
    vars_first [] [] es env h = sym (bind_give (denote_all atoms pid es env))
    vars_first (y ∷ ys) (u ∷ us) es env h =
        ap
        (λ o. bind (value_of o)
        (single (λ v. bind (denote_all atoms pid (passing ys es) env) (λ ts. Give (v ∷ ts))))) h.0
        ∙ ap (λ p. bind p (λ ts. Give (u ∷ ts))) (vars_first ys us es env h.1)
        ∙ attempt_assoc (denote_all atoms pid es env) (λ ts. Give (us ++ ts)) Raise
        (λ ts. Give (u ∷ ts)) Raise
    vars_first [] (u ∷ us) es env h = absurd h
    vars_first (y ∷ ys) [] es env h = absurd h

    in_found : (f : FunName) (l : LocalFunction) (gs : List LocalFunction) → find f gs ≡ Some l
        → (y : ℕ) → In y l.captured → In y (all_captured gs)
    in_found f l [] e y i = absurd (none-some l e)
    in_found f l (g ∷ gs) e y i = go (λ p. in_found f l gs p y i) (is_name g.name f) e
      where
        go : (find f gs ≡ Some l → In y (all_captured gs)) → (c : Bool)
            → (if c then Some g else find f gs) ≡ Some l → In y (all_captured (g ∷ gs))
        go rest true p =
            in_left y g.captured (all_captured gs)
            (subst (λ m. In y m.captured) (sym (same_Some g l p)) i)
        go rest false p = in_right y g.captured (all_captured gs) (rest p)

    defined : (f : FunName) {os gs hs : List LocalFunction} {ws : List ℕ} {fs : Functions}
        → GroupOf tops program os ws gs fs hs → defines f fs ≡ is_some (find f hs)
    defined f group_none = refl
    defined f (group_more {hs = hs} {l = l} {fs = fs} at in_ws out b d) =
        step (is_name l.name f) (defines f fs) l hs (defined f d)
      where
        step : (c b : Bool) (l : LocalFunction) (hs : List LocalFunction) → b ≡ is_some (find f hs)
            → (if c then true else b) ≡ is_some (if c then Some l else find f hs)
        step true b l hs e = refl
        step false b l hs e = e

    all_in : (ys vs : List ℕ) → AllIn ys vs → (y : ℕ) → In y ys → In y vs
    all_in [] vs h y i = absurd i
    all_in (z ∷ ys) vs h y i =
        ⊎_elim (λ e. subst (λ x. In x vs) (sym e) h.0) (λ k. all_in ys vs h.1 y k) i

    abbrev or_else : Option LocalFunction → Option LocalFunction → Option LocalFunction
    or_else None o = o
    or_else (Some l) o = Some l

    find_append : (f : FunName) (gs hs : List LocalFunction) → find f (gs ++ hs)
        ≡ or_else (find f gs) (find f hs)
    find_append f [] hs = refl
    find_append f (g ∷ gs) hs = go (is_name g.name f) (find_append f gs hs)
      where
        go : (c : Bool) → find f (gs ++ hs) ≡ or_else (find f gs) (find f hs)
            → (if c then Some g else find f (gs ++ hs))
            ≡ or_else (if c then Some g else find f gs) (find f hs)
        go true e = refl
        go false e = e

    -- the function of a letrec is there, and means what the lifted function means with what it
    -- captured
    abbrev CallIfOk : Option Callee → List Term → Callee → List Term → Type 0
    CallIfOk None ts d us = ⊥
    CallIfOk (Some c) ts d us = CallOk c ts d us

    call_if_same : (o : Option Callee) (d : Callee) (ts us : List Term) → CallIfOk o ts d us
        → Same (call_if o ts) (call d us)
    call_if_same None d ts us h = absurd h
    call_if_same (Some c) d ts us h = call_same c d ts us h

    callee_local : (f : FunName) (l : LocalFunction) (ls : List LocalFunction) (vs : List ℕ)
        (env env' : Env) → find f ls ≡ Some l → AllIn l.captured vs → FunsOk ls vs env env'
        → (us : List Term) → ValuesAre l.captured us env' → (ts : List Term)
        → CallIfOk (local_callee f env) ts (Top l.number) (us ++ ts)
    callee_local f l ls vs Empty env' e i h us v ts =
        absurd (none-some l (subst (λ m. find f m ≡ Some l) h e))
    callee_local f l ls vs (Bound x t env) env' e i h us v ts =
        callee_local f l ls vs env env' e i h us v ts
    callee_local f l ls vs (Locals fs env) env' e i h us v ts =
        go (find f h.0) refl (λ p. callee_local f l h.1 vs env env' p i h.3 us v ts)
      where
        found : or_else (find f h.0) (find f h.1) ≡ Some l
        found = sym (find_append f h.0 h.1) ∙ subst (λ m. find f m ≡ Some l) h.2 e

        go : (o : Option LocalFunction) → find f h.0 ≡ o
            → (find f h.1 ≡ Some l → CallIfOk (local_callee f env) ts (Top l.number) (us ++ ts))
            → CallIfOk (if defines f fs then Some (Inner f fs env) else local_callee f env) ts
            (Top l.number) (us ++ ts)
        go None p rest =
            let no : defines f fs ≡ false = defined f h.4.4 ∙ ap is_some p in
            subst
            (λ c. CallIfOk (if c then Some (Inner f fs env) else local_callee f env) ts
            (Top l.number) (us ++ ts)) (sym no)
            (rest (subst (λ o. or_else o (find f h.1) ≡ Some l) p found))
        go (Some g) p rest =
            let yes : defines f fs ≡ true = defined f h.4.4 ∙ ap is_some p in
            let same : Some g ≡ Some l = subst (λ o. or_else o (find f h.1) ≡ Some l) p found in
            let here : find f h.0 ≡ Some l = p ∙ same in
            let moved = values_move l.captured us env' h.4.1
            (λ y k. h.4.5 y (in_found f l h.0 here y k) (all_in l.captured vs i y k)) v in
            subst
            (λ c. CallIfOk (if c then Some (Inner f fs env) else local_callee f env) ts
            (Top l.number) (us ++ ts)) (sym yes)
            (record {
              gs = h.0;
              hs = h.1;
              ws = h.4.0;
              envd = h.4.1;
              vars = h.4.2;
              funs = h.4.3;
              group = h.4.4;
              l = l;
              found = here;
              number = refl;
              vals = us;
              values = moved;
              args = refl;
            })

    -- an act on the same terms
    answered_same : (a : Answer) → Same (answered a) (answered a)
    answered_same (Value t) = refl
    answered_same (Raises c t) = (refl, refl)
    answered_same NoAnswer = tt

    setelement_same : (ts : List Term) → Same (setelement ts) (setelement ts)
    setelement_same (i ∷ t ∷ v ∷ []) = answered_same _
    setelement_same _ = tt

    send_to_same : (to t : Term) → Same (send_to to t) (send_to to t)
    send_to_same (term.Pid to) t = (refl, tt, refl)
    send_to_same _ t = (refl, refl)

    send_same : (ts : List Term) → Same (send ts) (send ts)
    send_same (to ∷ t ∷ []) = send_to_same to t
    send_same _ = tt

    display_same : (ts : List Term) → Same (display ts) (display ts)
    display_same (t ∷ []) = (refl, tt, refl)
    display_same _ = tt

    raise_same : (class : Class) (ts : List Term) → Same (raise class ts) (raise class ts)
    raise_same class (t ∷ []) = (refl, refl)
    raise_same class _ = tt

    fail_same : (ts : List Term) → Same (fail ts) (fail ts)
    fail_same (t ∷ []) = (refl, refl)
    fail_same _ = tt

    act_same : (head : Head) → IsPlain tops program head → (env env' : Env) (ts : List Term)
        → Same (act_on atoms pid head env ts) (act_on atoms pid head env' ts)
    act_same (r.BuiltIn b) p env env' ts = answered_same (answer atoms pid b ts)
    act_same (r.Function f) p env env' ts = call_same (Top f) (Top f) ts ts (p, refl, refl)
    act_same (r.Local f) p env env' ts = absurd p
    act_same (r.Setelement site) p env env' ts = setelement_same ts
    act_same (r.Send node) p env env' ts = send_same ts
    act_same (r.Spawn node f) p env env' ts = (refl, p, λ n. refl)
    act_same (r.Display node) p env env' ts = display_same ts
    act_same (r.Raising class) p env env' ts = raise_same class ts
    act_same r.MatchFail p env env' ts = fail_same ts

    no_clause_same : (o o' : Option Doing) → SameOption o o'
        → Same (or_no_clause o) (or_no_clause o')
    no_clause_same None None h = (refl, refl)
    no_clause_same (Some p) (Some q) h = h
    no_clause_same _ _ h = absurd h

    fault_same : (o o' : Option Doing) → SameOption o o' → Same (or_fault o) (or_fault o')
    fault_same None None h = tt
    fault_same (Some p) (Some q) h = h
    fault_same _ _ h = absurd h

    some_same : (o o' : Option Doing) → SameOption o o' → is_some o' ≡ is_some o
    some_same None None h = refl
    some_same (Some p) (Some q) h = refl
    some_same _ _ h = absurd h

    clause_same : (ls : List LocalFunction) (vs : List ℕ) (o o' : Option Env) (g g' : Env → Bool)
        (b b' : Env → Doing) (rest rest' : Option Doing) → Both ls vs o o'
        → ((env env' : Env) → VarsOk vs env env' → FunsOk ls vs env env' → g' env' ≡ g env)
        → ((env env' : Env) → VarsOk vs env env' → FunsOk ls vs env env' → Same (b env) (b' env'))
        → SameOption rest rest' → SameOption (first_of_two o g b rest) (first_of_two o' g' b' rest')
    clause_same ls vs None None g g' b b' rest rest' m hg hb h = h
    clause_same ls vs (Some env) (Some env') g g' b b' rest rest' m hg hb h =
        subst
        (λ c. SameOption (if g env then Some (b env) else rest)
        (if c then Some (b' env') else rest')) (sym (hg env env' m.0 m.1)) (go (g env))
      where
        go : (c : Bool)
            → SameOption (if c then Some (b env) else rest) (if c then Some (b' env') else rest')
        go true = hb env env' m.0 m.1
        go false = h
    clause_same ls vs _ _ g g' b b' rest rest' m hg hb h = absurd m

    lapse_same : (timeout : Timeout) (p q : Doing) → Same p q
        → Same (lapse timeout p) (lapse timeout q)
    lapse_same AtOnce p q h = h
    lapse_same Never p q h = tt

    mutual
      lift_same : {ls : List LocalFunction} {vs : List ℕ} {e e' : Expression}
          → LiftOf tops program ls vs e e' → (env env' : Env) → VarsOk vs env env'
          → FunsOk ls vs env env' → Same (denote atoms pid e env) (denote atoms pid e' env')
      lift_same lift_int env env' h j = refl
      lift_same lift_atom env env' h j = refl
      lift_same lift_nil env env' h j = refl
      lift_same lift_text env env' h j = refl
      lift_same (lift_variable {x = x} i) env env' h j =
          let t = h x i in
          subst (λ o. Same (value_of o) (value_of (lookup x env'))) (sym t.1)
          (subst (λ o. Same (Give (t.0 ∷ [])) (value_of o)) (sym t.2) refl)
      lift_same (lift_tuple {es = es} {es' = es'} ds) env env' h j =
          same_bind (denote_all atoms pid es env) (denote_all atoms pid es' env')
          (λ ts. give (term.Tuple (terms_of ts))) (λ ts. give (term.Tuple (terms_of ts)))
          (lifts_same ds env env' h j) (λ ts. refl)
      lift_same (lift_list {es = es} {es' = es'} {e = e} {e' = e'} ds d) env env' h j =
          same_bind (denote_all atoms pid es env) (denote_all atoms pid es' env')
          (λ ts. bind (denote atoms pid e env) (single (λ t. give (conses ts t))))
          (λ ts. bind (denote atoms pid e' env') (single (λ t. give (conses ts t))))
          (lifts_same ds env env' h j)
          (λ ts. same_bind (denote atoms pid e env) (denote atoms pid e' env')
          (single (λ t. give (conses ts t))) (single (λ t. give (conses ts t)))
          (lift_same d env env' h j)
          (single_same (λ t. give (conses ts t)) (λ t. give (conses ts t)) (λ t. refl)))
      lift_same (lift_values ds) env env' h j = lifts_same ds env env' h j
      lift_same
          (lift_let {ls = ls} {vs = vs} {xs = xs} {e = e} {e' = e'} {b = b} {b' = b'} d o d') env
          env' h j =
          same_bind (denote atoms pid e env) (denote atoms pid e' env')
          (λ ts. in_env (denote atoms pid b) (bind_variables xs ts env))
          (λ ts. in_env (denote atoms pid b') (bind_variables xs ts env'))
          (lift_same d env env' h j)
          (λ ts. env_same ls (with_variables vs xs) (bind_variables xs ts env)
          (bind_variables xs ts env') (denote atoms pid b) (denote atoms pid b')
          (bind_both xs ts ls vs env env' o h j) (λ e1 e2 v f. lift_same d' e1 e2 v f))
      lift_same (lift_do {e = e} {e' = e'} {b = b} {b' = b'} d d') env env' h j =
          same_bind (denote atoms pid e env) (denote atoms pid e' env')
          (single (λ t. denote atoms pid b env)) (single (λ t. denote atoms pid b' env'))
          (lift_same d env env' h j)
          (single_same (λ t. denote atoms pid b env) (λ t. denote atoms pid b' env')
          (λ t. lift_same d' env env' h j))
      lift_same (lift_case {e = e} {e' = e'} {cs = cs} {cs' = cs'} d ds) env env' h j =
          same_bind (denote atoms pid e env) (denote atoms pid e' env')
          (λ ts. or_no_clause (choose atoms pid cs ts env))
          (λ ts. or_no_clause (choose atoms pid cs' ts env')) (lift_same d env env' h j)
          (λ ts. no_clause_same (choose atoms pid cs ts env) (choose atoms pid cs' ts env')
          (clauses_same ds ts env env' h j))
      lift_same
          (lift_receive {e = e} {e' = e'} {cs = cs} {cs' = cs'} {timeout = timeout} ds d) env env' h
          j = (
            record {
              timeout = refl;
              accepts = λ t. some_same (choose atoms pid cs (t ∷ []) env)
                  (choose atoms pid cs' (t ∷ []) env') (clauses_same ds (t ∷ []) env env' h j);
            },
            (λ t. fault_same (choose atoms pid cs (t ∷ []) env) (choose atoms pid cs' (t ∷ []) env')
                (clauses_same ds (t ∷ []) env env' h j)),
            lapse_same timeout (denote atoms pid e env) (denote atoms pid e' env')
                (lift_same d env env' h j),
          )
      lift_same (lift_call {head = head} {es = es} {es' = es'} plain ds) env env' h j =
          same_bind (denote_all atoms pid es env) (denote_all atoms pid es' env')
          (act_on atoms pid head env) (act_on atoms pid head env') (lifts_same ds env env' h j)
          (act_same head plain env env')
      lift_same
          (lift_local {ls = ls} {vs = vs} {f = f} {l = l} {es = es} {es' = es'} e i ds) env env' h
          j =
          let us = values_of l.captured vs env env' i h in
          let k = call (Top l.number) in
          let lifted : bind (denote_all atoms pid (passing l.captured es') env') k
          ≡ bind (denote_all atoms pid es' env') (λ ts. k (us.0 ++ ts)) = ap (λ p. bind p k)
          (vars_first l.captured us.0 es' env' us.1)
          ∙ attempt_assoc (denote_all atoms pid es' env') (λ ts. Give (us.0 ++ ts)) Raise k Raise in
          subst (Same (denote atoms pid (r.Call (r.Local f) es) env)) (sym lifted)
          (same_bind (denote_all atoms pid es env) (denote_all atoms pid es' env')
          (λ ts. call_if (local_callee f env) ts) (λ ts. k (us.0 ++ ts))
          (lifts_same ds env env' h j)
          (λ ts. call_if_same (local_callee f env) (Top l.number) ts (us.0 ++ ts)
          (callee_local f l ls vs env env' e i j us.0 us.1 ts)))
      lift_same (lift_letrec {ls = ls} {gs = gs} {vs = vs} {fs = fs} group d) env env' h j =
          lift_same d (Locals fs env) env' h
          (gs, ls, refl, j, (vs, env', h, j, group, λ y i k. refl))
      lift_same lift_refused env env' h j = tt

      lifts_same : {ls : List LocalFunction} {vs : List ℕ} {es es' : Expressions}
          → LiftsOf tops program ls vs es es' → (env env' : Env) → VarsOk vs env env'
          → FunsOk ls vs env env'
          → Same (denote_all atoms pid es env) (denote_all atoms pid es' env')
      lifts_same lifts_none env env' h j = refl
      lifts_same (lifts_more {e = e} {e' = e'} {es = es} {es' = es'} d ds) env env' h j =
          same_bind (denote atoms pid e env) (denote atoms pid e' env')
          (single (λ t. bind (denote_all atoms pid es env) (λ ts. Give (t ∷ ts))))
          (single (λ t. bind (denote_all atoms pid es' env') (λ ts. Give (t ∷ ts))))
          (lift_same d env env' h j)
          (single_same (λ t. bind (denote_all atoms pid es env) (λ ts. Give (t ∷ ts)))
          (λ t. bind (denote_all atoms pid es' env') (λ ts. Give (t ∷ ts)))
          (λ t. same_bind (denote_all atoms pid es env) (denote_all atoms pid es' env')
          (λ ts. Give (t ∷ ts)) (λ ts. Give (t ∷ ts)) (lifts_same ds env env' h j)
          (λ ts. map-id (t ∷ ts))))

      clauses_same : {ls : List LocalFunction} {vs : List ℕ} {cs cs' : Clauses}
          → LiftClauses tops program ls vs cs cs' → (ts : List Term) (env env' : Env)
          → VarsOk vs env env' → FunsOk ls vs env env'
          → SameOption (choose atoms pid cs ts env) (choose atoms pid cs' ts env')
      clauses_same clauses_none ts env env' h j = tt
      clauses_same
          (clauses_more {ls = ls} {vs = vs} {ps = ps} {g = g} {g' = g'} {b = b} {b' = b'} {cs = cs}
          {cs' = cs'} o dg db ds) ts env env' h j =
          clause_same ls (with_patterns vs ps) (match_all ps ts env) (match_all ps ts env')
          (λ e. holds (denote atoms pid g e)) (λ e. holds (denote atoms pid g' e))
          (λ e. denote atoms pid b e) (λ e. denote atoms pid b' e) (choose atoms pid cs ts env)
          (choose atoms pid cs' ts env') (all_both ps ls vs ts env env' o h j)
          (λ e1 e2 v f. holds_same (denote atoms pid g e1) (denote atoms pid g' e2)
          (lift_same dg e1 e2 v f)) (λ e1 e2 v f. lift_same db e1 e2 v f)
          (clauses_same ds ts env env' h j)

    -- the environment of a lifted function's body: the captured variables, and then the parameters
    holding : List ℕ → List Term → Env → Env
    holding [] us env = env
    holding (y ∷ ys) [] env = env
    holding (y ∷ ys) (u ∷ us) env = holding ys us (Bound y u env)

    bind_split : (ys xs : List ℕ) (us ts : List Term) (envd env : Env) → ValuesAre ys us envd
        → bind_variables (ys ++ xs) (us ++ ts) env ≡ bind_variables xs ts (holding ys us env)
    unfolding holding
    bind_split [] xs [] ts envd env h = refl
    bind_split (y ∷ ys) xs (u ∷ us) ts envd env h = bind_split ys xs us ts envd (Bound y u env) h.1
    bind_split [] xs (u ∷ us) ts envd env h = absurd h
    bind_split (y ∷ ys) xs [] ts envd env h = absurd h

    holding_at : (ys : List ℕ) (us : List Term) (envd acc : Env) → ValuesAre ys us envd → (z : ℕ)
        → In z ys ⊎ (lookup z acc ≡ lookup z envd) → lookup z (holding ys us acc) ≡ lookup z envd
    unfolding holding
    holding_at [] [] envd acc h z i = ⊎_elim (λ k. absurd k) (λ e. e) i
    holding_at (y ∷ ys) (u ∷ us) envd acc h z i =
        holding_at ys us envd (Bound y u acc) h.1 z (next (eqb_tells z y))
      where
        next : ((z == y) ≡ true) × (z ≡ y) ⊎ ((z == y) ≡ false) × (z ≢ y) → In z ys
            ⊎ (lookup z (Bound y u acc) ≡ lookup z envd)
        next s =
            ⊎_elim
            (λ e. inr (lookup_here y z u acc e.1 ∙ sym h.0 ∙ ap (λ x. lookup x envd) (sym e.1)))
            (λ n. ⊎_elim (λ k. ⊎_elim (λ e. absurd (n.1 e)) inl k)
            (λ e. inr (lookup_other y z u acc n.1 ∙ e)) i) s
    holding_at [] (u ∷ us) envd acc h z i = absurd h
    holding_at (y ∷ ys) [] envd acc h z i = absurd h

    record Member (os : List LocalFunction) (ws : List ℕ) (gs : List LocalFunction) (f : FunName)
        (fs : Functions) (l : LocalFunction) : Type 0 where
      xs : List ℕ
      b : Expression
      b' : Expression
      source_at : function_named f fs ≡ Some (record { parameters = xs; body = b })
      lifted_at : slice_get program l.number
          ≡ Some (record { parameters = l.captured ++ xs; body = b' })
      inside : AllIn l.captured ws
      fresh : AllOut xs (all_captured (gs ++ os))
      lifted : LiftOf tops program (gs ++ os) (with_variables l.captured xs) b b'

    member : {os gs hs : List LocalFunction} {ws : List ℕ} {fs : Functions}
        → GroupOf tops program os ws gs fs hs → (f : FunName) (l : LocalFunction) → find f hs
        ≡ Some l → Member os ws gs f fs l
    member group_none f l e = absurd (none-some l e)
    member
        (group_more {ls = os} {gs = gs} {hs = hs} {vs = ws} {xs = xs} {l = m} {b = b} {b' = b'}
        {fs = fs} a i o d ds) f l e =
        go (λ p. member ds f l p) (is_name m.name f) refl e
      where
        first : (is_name m.name f) ≡ true → Member os ws gs f (MoreFunctions m.name xs b fs) m
        first p =
            record {
              xs = xs;
              b = b;
              b' = b';
              source_at = ap
                  (λ c. if c then Some
                  (record { parameters = xs; body = b }) else function_named f fs) p;
              lifted_at = a;
              inside = i;
              fresh = o;
              lifted = d;
            }

        go : (find f hs ≡ Some l → Member os ws gs f fs l) → (c : Bool) → (is_name m.name f) ≡ c
            → (if c then Some m else find f hs) ≡ Some l
            → Member os ws gs f (MoreFunctions m.name xs b fs) l
        go rest true p q =
            subst (Member os ws gs f (MoreFunctions m.name xs b fs)) (same_Some m l q) (first p)
        go rest false p q =
            let s = rest q in
            record {
              xs = s.xs;
              b = s.b;
              b' = s.b';
              source_at = ap
                  (λ c. if c then Some
                  (record { parameters = xs; body = b }) else function_named f fs) p
                  ∙ s.source_at;
              lifted_at = s.lifted_at;
              inside = s.inside;
              fresh = s.fresh;
              lifted = s.lifted;
            }

    inner_body : (source : List FunctionTree) (f : FunName) (fs : Functions) (env : Env)
        (ts : List Term) (k : ℕ) (us : List Term) → InnerOk f fs env ts k us
        → Same (enter source atoms pid (function_named f fs) ts (Locals fs env))
        (enter program atoms pid (slice_get program k) us Empty)
    inner_body source f fs env ts k us c =
        let m = member c.group f c.l c.found in
        let ys = c.l.captured in
        let base = holding ys c.vals Empty in
        let ls = c.gs ++ c.hs in
        let held : (y : ℕ) → In y ys → lookup y base
        ≡ lookup y c.envd = λ y i. holding_at ys c.vals c.envd Empty c.values y (inl i) in
        let vars : VarsOk ys (Locals fs env) base = λ y i. let t = c.vars y
        (all_in ys c.ws m.inside y i) in (t.0, t.1, held y i ∙ t.2) in
        let funs : FunsOk ls ys
        (Locals fs env)
        base = (
          c.gs,
          c.hs,
          refl,
          funs_move c.hs c.ws ys env c.envd base c.funs
              (λ y i j. (all_in ys c.ws m.inside y j, held y j)),
          (c.ws, c.envd, c.vars, c.funs, c.group, λ y i j. held y j),
        ) in
        let both = bind_both m.xs ts ls ys (Locals fs env) base m.fresh vars funs in
        let alike = env_same ls (with_variables ys m.xs) (bind_variables m.xs ts (Locals fs env))
        (bind_variables m.xs ts base) (denote atoms pid m.b) (denote atoms pid m.b') both
        (λ e1 e2 v g. lift_same m.lifted e1 e2 v g) in
        let split = bind_split ys m.xs c.vals ts c.envd Empty c.values in
        let lifted : enter program atoms pid (slice_get program k) us Empty
        ≡ in_env (denote atoms pid m.b') (bind_variables m.xs ts base) =
        ap (λ n. enter program atoms pid (slice_get program n) us Empty) (sym c.number)
        ∙ ap (λ o. enter program atoms pid o us Empty) m.lifted_at
        ∙ ap (λ l. in_env (denote atoms pid m.b') (bind_variables (ys ++ m.xs) l Empty)) c.args
        ∙ ap (λ o. in_env (denote atoms pid m.b') o) split in
        subst
        (λ o. Same (enter source atoms pid o ts (Locals fs env))
        (enter program atoms pid (slice_get program k) us Empty)) (sym m.source_at)
        (subst (Same (in_env (denote atoms pid m.b) (bind_variables m.xs ts (Locals fs env))))
        (sym lifted) alike)

    none_captured : (xs : List ℕ) → AllOut xs []
    none_captured [] = tt
    none_captured (x ∷ xs) = (tt, none_captured xs)

    top_body : (source : List FunctionTree) (o o' : Option FunctionTree)
        → IsLiftedFunction tops program o o' → (ts : List Term)
        → Same (enter source atoms pid o ts Empty) (enter program atoms pid o' ts Empty)
    top_body source (Some f) (Some g) h ts =
        let xs = f.parameters in
        subst
        (λ ys. Same (in_env (denote atoms pid f.body) (bind_variables xs ts Empty))
        (in_env (denote atoms pid g.body) (bind_variables ys ts Empty))) (sym h.0)
        (env_same [] (with_variables [] xs) (bind_variables xs ts Empty)
        (bind_variables xs ts Empty) (denote atoms pid f.body) (denote atoms pid g.body)
        (bind_both xs ts [] [] Empty Empty (none_captured xs) (λ x i. absurd i) refl)
        (λ e1 e2 v k. lift_same h.1 e1 e2 v k))
    top_body source _ _ h ts = absurd h

module _ (source program : List FunctionTree) (lifted : IsLifted source program)
    (atoms : List (List ℕ)) (pid : ℕ) where
  abbrev tops : ℕ
  tops = length source

  bodies : (c : Callee) (ts : List Term) (d : Callee) (us : List Term)
      → CallOk tops program c ts d us
      → Same tops program atoms pid (body_of source atoms pid c ts) (body_of program atoms pid d us)
  bodies (Top f) ts (Top g) us h =
      subst
      (λ l. Same tops program atoms pid (body_of source atoms pid (Top f) ts)
      (body_of program atoms pid (Top g) l)) (sym h.2)
      (subst
      (λ n. Same tops program atoms pid (body_of source atoms pid (Top f) ts)
      (body_of program atoms pid (Top n) ts)) h.1
      (top_body tops program atoms pid source (slice_get source f) (slice_get program f)
      (lifted.functions f h.0) ts))
  bodies (Inner f fs env) ts (Top k) us h =
      inner_body tops program atoms pid source f fs env ts k us h
  bodies (Top f) ts (Inner k fs env) us h = absurd h
  bodies (Inner f fs env) ts (Inner k gs env') us h = absurd h

-- the functions of a lifted program do what they do in the program
pub lifting_keeps : (source program : List FunctionTree) → IsLifted source program
    → (atoms : List (List ℕ)) (calls : ℕ)
    → SameProgram (λ f. f < length source) atoms calls source program
lifting_keeps source program lifted atoms calls =
    simulated_program (λ f. f < length source) (CallOk (length source) program) atoms source program
    (λ f k ts. (k, refl, refl))
    (λ pid f ts g us h. bodies source program lifted atoms pid f ts g us h) calls
