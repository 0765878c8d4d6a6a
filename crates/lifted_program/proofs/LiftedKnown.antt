-- A lifted program is known where the program is.
use Rattle.std.proofs.Common.{◌≡◌, ℕ, suc, ◌+◌, List, [], ◌∷◌, ◌++◌, length, Bool, true, false}
use Rattle.std.proofs.Common.{Some, refl, sym, ap, ◌∙◌, subst, arith, length-append}
use Rattle.std.specs.Prelude.{◌==◌, if◌then◌else◌, slice_get, option_map}
use Rattle.std.specs.List.{All}
use Rattle.std.proofs.lemmas.Bool.{eqb-true}
use Rattle.std.proofs.lemmas.List.{map-append}
use Rattle.std.proofs.lemmas.List.Elements.{All-nil, All-cons, All-append, All-head, All-tail}
use Rattle.std.proofs.lemmas.Option.{none-some, same_Some, slice_get-map}
use Rattle.hy_core.specs.declared.tree.FunName.{FunName}
use Rattle.hy_core.specs.KnownTrees.{defined, width, HasGuardForms, HaveGuardForms, Takes}
use Rattle.hy_core.specs.KnownTrees.{IsCallable, IsKnown, AreKnown, ClausesAreKnown}
use Rattle.hy_core.specs.KnownTrees.{FunctionsAreKnown, IsKnownFunction, arities_of, TreesAreKnown}
use Rattle.hy_core.specs.Resolved as r
use Rattle.hy_core.specs.Resolved.{Head, Expression, Expressions, NoExpressions, MoreExpressions}
use Rattle.hy_core.specs.Resolved.{Clauses, NoClauses, MoreClauses, Functions, NoFunctions}
use Rattle.hy_core.specs.Resolved.{MoreFunctions, FunctionTree, is_name}
use Rattle.hy_core.specs.Scopes.{Scope, with_variables, with_patterns}
use Rattle.hy_core.specs.Supplied.{expression_count}
use Rattle.lifted_program.specs.LetrecNumbers.{count, count_all, count_clauses, count_functions}
use Rattle.lifted_program.specs.LetrecNumbers.{Reach, reach_of}
use Rattle.lifted_program.specs.LiftedProgram.{passing, lifted, extracted, extracted_all}
use Rattle.lifted_program.specs.LiftedProgram.{extracted_clauses, extracted_functions, lifted_tops}
use Rattle.lifted_program.specs.LiftedProgram.{extracted_program, lifted_program}
use Rattle.hy_terms.proofs.NamingLemmas.{slice_get-kept}
use Rattle.lifted_program.proofs.Exact.{second_true}
use Rattle.lifted_program.proofs.LiftOf.{LocalFunction, find, IsPlain, LiftOf, lift_int, lift_atom}
use Rattle.lifted_program.proofs.LiftOf.{lift_nil, lift_text, lift_variable, lift_tuple, lift_list}
use Rattle.lifted_program.proofs.LiftOf.{lift_values, lift_let, lift_do, lift_case, lift_receive}
use Rattle.lifted_program.proofs.LiftOf.{lift_call, lift_local, lift_letrec, lift_refused, LiftsOf}
use Rattle.lifted_program.proofs.LiftOf.{lifts_none, lifts_more, LiftClauses, clauses_none}
use Rattle.lifted_program.proofs.LiftOf.{clauses_more, GroupOf, group_none, group_more}
use Rattle.lifted_program.proofs.Lifted.{ReadyTops}
use Rattle.lifted_program.proofs.LiftedMeets.{local_of, locals_of, Ready, ReadyAll, ReadyClauses}
use Rattle.lifted_program.proofs.LiftedMeets.{ReadyFunctions, Reaches, reaches_more, function_meets}
use Rattle.lifted_program.proofs.LiftedMeets.{lifted_meets}
use Rattle.lifted_program.proofs.Variables.{AllIn, in_bound, in_with, in_with_patterns}

passing_count : (xs : List ℕ) (es : Expressions) → expression_count (passing xs es)
    ≡ length xs + expression_count es
passing_count [] es = omega arith
passing_count (x ∷ xs) es = let h = passing_count xs es in omega arith

same_arity : (f g : FunName) → is_name f g ≡ true → f.arity ≡ g.arity
same_arity f g h = eqb-true f.arity g.arity (second_true (f.name == g.name) (f.arity == g.arity) h)

-- source: the arities of the functions of modules; the program has these too
module _ (tops : ℕ) (program : List FunctionTree) (source : List ℕ)
    (same : (f n : ℕ) → Takes source f n → Takes (arities_of program) f n) where
  abbrev arities : List ℕ
  arities = arities_of program

  takes_at : (k : ℕ) (g : FunctionTree) → slice_get program k ≡ Some g
      → Takes arities k (length g.parameters)
  takes_at k g h =
      slice_get-map (λ f. length f.parameters) program k
      ∙ ap (option_map (λ f. length f.parameters)) h

  -- a function of a letrec takes what it captured and its arguments
  abbrev TakesBoth : LocalFunction → Type 0
  TakesBoth l = Takes arities l.number (length l.captured + l.name.arity)

  abbrev TakeBoth : List LocalFunction → Type 0
  TakeBoth [] = Unit {0}
  TakeBoth (l ∷ ls) = TakesBoth l × TakeBoth ls

  take_append : (gs ls : List LocalFunction) → TakeBoth gs → TakeBoth ls → TakeBoth (gs ++ ls)
  take_append [] ls h k = k
  take_append (g ∷ gs) ls h k = (h.0, take_append gs ls h.1 k)

  takes_both : (l : LocalFunction) (xs : List ℕ) (b : Expression) → slice_get program l.number
      ≡ Some (record { parameters = l.captured ++ xs; body = b }) → length xs ≡ l.name.arity
      → TakesBoth l
  takes_both l xs b at h =
      takes_at l.number (record { parameters = l.captured ++ xs; body = b }) at
      ∙ ap Some (length-append l.captured xs ∙ ap (λ n. length l.captured + n) h)

  take_found : (f : FunName) (l : LocalFunction) (ls : List LocalFunction) → find f ls ≡ Some l
      → TakeBoth ls → Takes arities l.number (length l.captured + f.arity)
  take_found f l [] h t = absurd (none-some l h)
  take_found f l (g ∷ ls) h t = by_case (λ q. take_found f l ls q t.1) (is_name g.name f) refl h
    where
      by_case : (find f ls ≡ Some l → Takes arities l.number (length l.captured + f.arity))
          → (c : Bool) → is_name g.name f ≡ c → (if c then Some g else find f ls) ≡ Some l
          → Takes arities l.number (length l.captured + f.arity)
      by_case rest true p q =
          subst (λ m. Takes arities m.number (length m.captured + f.arity)) (same_Some g l q)
          (subst (λ n. Takes arities g.number (length g.captured + n)) (same_arity g.name f p) t.0)
      by_case rest false p q = rest q

  group_takes : {os gs hs : List LocalFunction} {vs : List ℕ} {fs : Functions}
      → GroupOf tops program os vs gs fs hs → (s : Scope) (locals : List FunName)
      → FunctionsAreKnown source s locals fs → TakeBoth hs
  group_takes group_none s locals h = tt
  group_takes (group_more {xs = xs} {l = l} {b' = b'} at i o d ds) s locals h =
      (takes_both l xs b' at h.0, group_takes ds s locals h.2)

  passing_known : (xs vs : List ℕ) (es : Expressions) → AllIn xs vs → AreKnown arities vs [] es
      → AreKnown arities vs [] (passing xs es)
  passing_known [] vs es i h = h
  passing_known (x ∷ xs) vs es i h = ((refl, in_bound x vs i.0), passing_known xs vs es i.1 h)

  lifts_count : {ls : List LocalFunction} {vs : List ℕ} {es es' : Expressions}
      → LiftsOf tops program ls vs es es' → expression_count es' ≡ expression_count es
  lifts_count lifts_none = refl
  lifts_count (lifts_more d ds) = ap suc (lifts_count ds)

  lift_width : {ls : List LocalFunction} {vs : List ℕ} {cs cs' : Clauses}
      → LiftClauses tops program ls vs cs cs' → width cs' ≡ width cs
  lift_width clauses_none = refl
  lift_width (clauses_more o dg db ds) = refl

  guard_call : (head : Head) (es es' : Expressions) → HasGuardForms (r.Call head es)
      → (HaveGuardForms es → HaveGuardForms es') → HasGuardForms (r.Call head es')
  guard_call (r.BuiltIn b) es es' h k = k h
  guard_call _ es es' h k = absurd h

  mutual
    lift_guard : {ls : List LocalFunction} {vs : List ℕ} {e e' : Expression}
        → LiftOf tops program ls vs e e' → HasGuardForms e → HasGuardForms e'
    lift_guard lift_int h = tt
    lift_guard lift_atom h = tt
    lift_guard lift_nil h = tt
    lift_guard (lift_variable i) h = tt
    lift_guard (lift_let d o d') h = (lift_guard d h.0, lift_guard d' h.1)
    lift_guard (lift_call {head = head} {es = es} {es' = es'} plain ds) h =
        guard_call head es es' h (λ k. lift_guards ds k)
    lift_guard _ h = absurd h

    lift_guards : {ls : List LocalFunction} {vs : List ℕ} {es es' : Expressions}
        → LiftsOf tops program ls vs es es' → HaveGuardForms es → HaveGuardForms es'
    lift_guards lifts_none h = tt
    lift_guards (lifts_more d ds) h = (lift_guard d h.0, lift_guards ds h.1)

  head_known : (head : Head) (locals : List FunName) (n : ℕ) → IsPlain tops program head
      → IsCallable source locals n head → IsCallable arities [] n head
  head_known (r.BuiltIn b) locals n p h = h
  head_known (r.Function f) locals n p h = same f n h
  head_known (r.Local f) locals n p h = absurd p
  head_known (r.Setelement site) locals n p h = h
  head_known (r.Send node) locals n p h = h
  head_known (r.Spawn node f) locals n p h = same f n h
  head_known (r.Display node) locals n p h = h
  head_known (r.Raising class) locals n p h = h
  head_known r.MatchFail locals n p h = h

  mutual
    known : {ls : List LocalFunction} {vs : List ℕ} {e e' : Expression}
        → LiftOf tops program ls vs e e' → (s : Scope) (locals : List FunName) (needs : ℕ)
        → TakeBoth ls → IsKnown source s locals needs e → IsKnown arities vs [] needs e'
    known lift_int s locals needs t h = h
    known lift_atom s locals needs t h = h
    known lift_nil s locals needs t h = h
    known lift_text s locals needs t h = h
    known (lift_variable {vs = vs} {x = x} i) s locals needs t h = (h.0, in_bound x vs i)
    known (lift_tuple ds) s locals needs t h = (h.0, all_known ds s locals t h.1)
    known (lift_list ds d) s locals needs t h =
        (h.0, all_known ds s locals t h.1, known d s locals 1 t h.2)
    known (lift_values ds) s locals needs t h =
        (h.0 ∙ sym (lifts_count ds), all_known ds s locals t h.1)
    known (lift_let {xs = xs} d o d') s locals needs t h =
        (known d s locals (length xs) t h.0, known d' (with_variables s xs) locals needs t h.1)
    known (lift_do d d') s locals needs t h =
        (known d s locals 1 t h.0, known d' s locals needs t h.1)
    known (lift_case {vs = vs} {e' = e'} {cs = cs} {cs' = cs'} d ds) s locals needs t h = (
      subst (λ n. IsKnown arities vs [] n e') (sym (lift_width ds))
          (known d s locals (width cs) t h.0),
      subst (λ n. ClausesAreKnown arities vs [] n needs cs') (sym (lift_width ds))
          (clauses_known ds s locals (width cs) needs t h.1),
    )
    known (lift_receive ds d) s locals needs t h =
        (clauses_known ds s locals 1 needs t h.0, known d s locals needs t h.1)
    known (lift_call {head = head} {es = es} plain ds) s locals needs t h = (
      h.0,
      subst (λ n. IsCallable arities [] n head) (sym (lifts_count ds))
          (head_known head locals (expression_count es) plain h.1),
      all_known ds s locals t h.2,
    )
    known
        (lift_local {ls = ls} {vs = vs} {f = f} {l = l} {es = es} {es' = es'} e i ds) s locals needs
        t h =
        let arguments : f.arity ≡ expression_count es' = h.1.1 ∙ sym (lifts_count ds) in
        let all : length l.captured + f.arity
        ≡ expression_count (passing l.captured es') = ap (λ n. length l.captured + n) arguments
        ∙ sym (passing_count l.captured es') in (
          h.0,
          subst (Takes arities l.number) all (take_found f l ls e t),
          passing_known l.captured vs es' i (all_known ds s locals t h.2),
        )
    known (lift_letrec {ls = ls} {gs = gs} {fs = fs} group d) s locals needs t h =
        known d s (defined fs ++ locals) needs
        (take_append gs ls (group_takes group s (defined fs ++ locals) h.0) t) h.1
    known lift_refused s locals needs t h = h

    all_known : {ls : List LocalFunction} {vs : List ℕ} {es es' : Expressions}
        → LiftsOf tops program ls vs es es' → (s : Scope) (locals : List FunName) → TakeBoth ls
        → AreKnown source s locals es → AreKnown arities vs [] es'
    all_known lifts_none s locals t h = tt
    all_known (lifts_more d ds) s locals t h =
        (known d s locals 1 t h.0, all_known ds s locals t h.1)

    clauses_known : {ls : List LocalFunction} {vs : List ℕ} {cs cs' : Clauses}
        → LiftClauses tops program ls vs cs cs'
        → (s : Scope) (locals : List FunName) (values needs : ℕ) → TakeBoth ls
        → ClausesAreKnown source s locals values needs cs
        → ClausesAreKnown arities vs [] values needs cs'
    clauses_known clauses_none s locals values needs t h = tt
    clauses_known (clauses_more {ps = ps} o dg db ds) s locals values needs t h =
        let inside = with_patterns s ps in (
          h.0,
          lift_guard dg h.1,
          known dg inside locals 1 t h.2,
          known db inside locals needs t h.3,
          clauses_known ds s locals values needs t h.4,
        )

  module _ (captured : ℕ → List ℕ) where
    abbrev IsReady : List ℕ → Reach → ℕ → Expression → Type 0
    IsReady s reach n e = Ready tops program captured s reach n e

    abbrev Within : List ℕ → Reach → Type 0
    Within s reach = Reaches tops program captured s reach

    abbrev locals_in : Reach → List LocalFunction
    locals_in = locals_of tops program captured

    reach_takes : (fs : Functions) (s : List ℕ) (around reach : Reach) (n : ℕ) (v : Scope)
        (locals : List FunName) → ReadyFunctions tops program captured s around n fs
        → FunctionsAreKnown source v locals fs → TakeBoth (locals_in reach)
        → TakeBoth (locals_in (reach_of n fs ++ reach))
    reach_takes NoFunctions s around reach n v locals h k t = t
    reach_takes (MoreFunctions f xs b fs) s around reach n v locals h k t = (
      takes_both (local_of tops program captured (f, n)) xs
          (lifted captured around (suc n) b) h.0 k.0,
      reach_takes fs s around reach (suc (n + count b)) v locals h.4 k.2 t,
    )

    abbrev AllKnown : List FunctionTree → Type 0
    AllKnown fs = All (IsKnownFunction arities) fs

    both : (fs gs : List FunctionTree) → AllKnown fs → AllKnown gs → AllKnown (fs ++ gs)
    both fs gs h k = All-append (IsKnownFunction arities) fs gs h k

    -- the functions of letrecs
    mutual
      extracted_known : (e : Expression) (s : List ℕ) (reach : Reach) (n : ℕ)
          (locals : List FunName) (needs : ℕ) → IsReady s reach n e → Within s reach
          → TakeBoth (locals_in reach) → IsKnown source s locals needs e
          → AllKnown (extracted captured reach n e)
      extracted_known (r.Tuple site es) s reach n locals needs h m t k =
          all_extracted es s reach n locals h m t k.1
      extracted_known (r.ListOf site es e) s reach n locals needs h m t k =
          both (extracted_all captured reach n es) (extracted captured reach (n + count_all es) e)
          (all_extracted es s reach n locals h.0 m t k.1)
          (extracted_known e s reach (n + count_all es) locals 1 h.1 m t k.2)
      extracted_known (r.Values es) s reach n locals needs h m t k =
          all_extracted es s reach n locals h m t k.1
      extracted_known (r.Let xs e b) s reach n locals needs h m t k =
          both (extracted captured reach n e) (extracted captured reach (n + count e) b)
          (extracted_known e s reach n locals (length xs) h.0 m t k.0)
          (extracted_known b (with_variables s xs) reach (n + count e) locals needs h.2
          (λ x i. in_with xs s x (m x i)) t k.1)
      extracted_known (r.Do e b) s reach n locals needs h m t k =
          both (extracted captured reach n e) (extracted captured reach (n + count e) b)
          (extracted_known e s reach n locals 1 h.0 m t k.0)
          (extracted_known b s reach (n + count e) locals needs h.1 m t k.1)
      extracted_known (r.Case e cs) s reach n locals needs h m t k =
          both (extracted captured reach n e) (extracted_clauses captured reach (n + count e) cs)
          (extracted_known e s reach n locals (width cs) h.0 m t k.0)
          (clauses_extracted cs s reach (n + count e) locals (width cs) needs h.1 m t k.1)
      extracted_known (r.Letrec fs e) s reach n locals needs h m t k =
          let inside = reach_of n fs ++ reach in
          let names = defined fs ++ locals in
          let more = reaches_more tops program captured s inside reach n fs h.0 m in
          let take = reach_takes fs s inside reach n s names h.0 k.0 t in
          both (extracted_functions captured inside n fs)
          (extracted captured inside (n + count_functions fs) e)
          (functions_extracted fs s inside n names h.0 more take k.0)
          (extracted_known e s inside (n + count_functions fs) names needs h.1 more take k.1)
      extracted_known (r.Call head es) s reach n locals needs h m t k =
          all_extracted es s reach n locals h.1 m t k.2
      extracted_known (r.Receive cs timeout e) s reach n locals needs h m t k =
          both (extracted_clauses captured reach n cs)
          (extracted captured reach (n + count_clauses cs) e)
          (clauses_extracted cs s reach n locals 1 needs h.0 m t k.0)
          (extracted_known e s reach (n + count_clauses cs) locals needs h.1 m t k.1)
      extracted_known _ s reach n locals needs h m t k = All-nil (IsKnownFunction arities)

      all_extracted : (es : Expressions) (s : List ℕ) (reach : Reach) (n : ℕ)
          (locals : List FunName) → ReadyAll tops program captured s reach n es → Within s reach
          → TakeBoth (locals_in reach) → AreKnown source s locals es
          → AllKnown (extracted_all captured reach n es)
      all_extracted NoExpressions s reach n locals h m t k = All-nil (IsKnownFunction arities)
      all_extracted (MoreExpressions e es) s reach n locals h m t k =
          both (extracted captured reach n e) (extracted_all captured reach (n + count e) es)
          (extracted_known e s reach n locals 1 h.0 m t k.0)
          (all_extracted es s reach (n + count e) locals h.1 m t k.1)

      clauses_extracted : (cs : Clauses) (s : List ℕ) (reach : Reach) (n : ℕ)
          (locals : List FunName) (values needs : ℕ)
          → ReadyClauses tops program captured s reach n cs → Within s reach
          → TakeBoth (locals_in reach) → ClausesAreKnown source s locals values needs cs
          → AllKnown (extracted_clauses captured reach n cs)
      clauses_extracted NoClauses s reach n locals values needs h m t k =
          All-nil (IsKnownFunction arities)
      clauses_extracted (MoreClauses ps g c cs) s reach n locals values needs h m t k =
          let inside = with_patterns s ps in
          let wider : Within inside reach = λ x i. in_with_patterns ps s x (m x i) in
          let b = extracted captured reach (n + count g) c in
          let others = extracted_clauses captured reach (n + count g + count c) cs in
          both (extracted captured reach n g) (b ++ others)
          (extracted_known g inside reach n locals 1 h.1 wider t k.2)
          (both b others (extracted_known c inside reach (n + count g) locals needs h.2 wider t k.3)
          (clauses_extracted cs s reach (n + count g + count c) locals values needs h.3 m t k.4))

      functions_extracted : (fs : Functions) (s : List ℕ) (reach : Reach) (n : ℕ)
          (locals : List FunName) → ReadyFunctions tops program captured s reach n fs
          → Within s reach → TakeBoth (locals_in reach) → FunctionsAreKnown source s locals fs
          → AllKnown (extracted_functions captured reach n fs)
      functions_extracted NoFunctions s reach n locals h m t k = All-nil (IsKnownFunction arities)
      functions_extracted (MoreFunctions f xs c fs) s reach n locals h m t k =
          let inside = with_variables s xs in
          let b = extracted captured reach (suc n) c in
          let others = extracted_functions captured reach (suc (n + count c)) fs in
          let here = known
          (function_meets tops program captured c xs s reach n h.1 h.3 m) inside locals 1 t k.1 in
          All-cons (IsKnownFunction arities)
          (record { parameters = captured n ++ xs; body = lifted captured reach (suc n) c })
          (b ++ others) here
          (both b others
          (extracted_known c inside reach (suc n) locals 1 h.3
          (λ x i. in_with xs s x (m x i)) t k.1)
          (functions_extracted fs s reach (suc (n + count c)) locals h.4 m t k.2))

    -- the functions of modules, and those of letrecs in them
    tops_known : (fs : List FunctionTree) (n : ℕ) → ReadyTops captured tops program n fs
        → All (IsKnownFunction source) fs → AllKnown (lifted_tops captured n fs)
    tops_known [] n h k = All-nil (IsKnownFunction arities)
    tops_known (f ∷ fs) n h k =
        let scope = with_variables [] f.parameters in
        let here = known
        (lifted_meets tops program captured f.body f.parameters n h.0) scope [] 1 tt
        (All-head (IsKnownFunction source) f fs k) in
        All-cons (IsKnownFunction arities)
        (record { parameters = f.parameters; body = lifted captured [] n f.body })
        (lifted_tops captured (n + count f.body) fs) here
        (tops_known fs (n + count f.body) h.1 (All-tail (IsKnownFunction source) f fs k))

    inner_known : (fs : List FunctionTree) (n : ℕ) → ReadyTops captured tops program n fs
        → All (IsKnownFunction source) fs → AllKnown (extracted_program captured n fs)
    inner_known [] n h k = All-nil (IsKnownFunction arities)
    inner_known (f ∷ fs) n h k =
        let scope = with_variables [] f.parameters in
        both (extracted captured [] n f.body) (extracted_program captured (n + count f.body) fs)
        (extracted_known f.body scope [] n [] 1 h.0 (λ x i. absurd i) tt
        (All-head (IsKnownFunction source) f fs k))
        (inner_known fs (n + count f.body) h.1 (All-tail (IsKnownFunction source) f fs k))

module _ (captured : ℕ → List ℕ) where
  tops_arities : (fs : List FunctionTree) (n : ℕ) → arities_of (lifted_tops captured n fs)
      ≡ arities_of fs
  tops_arities [] n = refl
  tops_arities (f ∷ fs) n = ap (◌∷◌ (length f.parameters)) (tops_arities fs (n + count f.body))

  -- the functions of modules take what they took
  same_takes : (program : List FunctionTree) (f n : ℕ) → Takes (arities_of program) f n
      → Takes (arities_of (lifted_program captured program)) f n
  same_takes program f n h =
      let tops = lifted_tops captured (length program) program in
      let inner = extracted_program captured (length program) program in
      ap (λ a. slice_get a f)
      (map-append (λ g. length g.parameters) tops inner
      ∙ ap (λ a. a ++ arities_of inner) (tops_arities program (length program)))
      ∙ slice_get-kept (arities_of program) (arities_of inner) f n h

  pub lifted_known : (program : List FunctionTree)
      → ReadyTops captured (length program) (lifted_program captured program)
      (length program) program → TreesAreKnown program
      → TreesAreKnown (lifted_program captured program)
  lifted_known program h k =
      let n = length program in
      let whole = lifted_program captured program in
      let same = same_takes program in
      both n whole (arities_of program) same captured (lifted_tops captured n program)
      (extracted_program captured n program)
      (tops_known n whole (arities_of program) same captured program n h k)
      (inner_known n whole (arities_of program) same captured program n h k)
