-- The first wrong token is the one that the machine refuses, both ways.
use Rattle.std.proofs.Common.{◌≡◌, ℕ, suc, ◌+◌, ◌<◌, List, [], ◌∷◌, ◌++◌, length, Option, Some, None, Result, Ok, Err, refl, sym, ap, subst, ◌∙◌, arith}
use Rattle.hy_core.specs.Marks.{Marked, IsShallow, Fits as IsFitting, IsSound, AreSound, tokens_of}
use Rattle.hy_core.specs.declared.token.Token.{Token}
use Rattle.hy_core.specs.declared.tree.Module.{Module}
use Rattle.hy_core.specs.declared.refusal.RefusalKind.{RefusalKind}
use Rattle.hy_core.specs.declared.refusal.RefusalKind.TheVariants as k
use Rattle.core_parse.specs.code.Pushdown.{checked, stepped, ended, ended_at, Reading, goes_on, run}
use Rattle.core_parse.proofs.ForthGoals.{step_forth}
use Rattle.core_parse.proofs.Living.{alive_or}
use Rattle.core_parse.proofs.Exact.{Lang, FitsIn, Looked, sound, deep, range, looked, checked_deep, checked_range, never_unexpected, View, stuck, moves, view, step_of, ended_of, not_over}
use Rattle.core_parse.specs.declared.state.State.{State}

-- Below, Is says which marked tokens complete what is read, and with which tree.
abbrev pub Language : Type 1
Language = List Marked → Module → Type 0

abbrev pub BeginsBy : Language → List Token → Type 0
BeginsBy Is ts = (ms more : List Marked) × (z : Module) × (tokens_of ms ≡ ts) × Is (ms ++ more) z

abbrev pub GoesBy : Language → List Token → Type 0
GoesBy Is ts = (ms more : List Marked) × (z : Module) × (tokens_of ms ≡ ts) × AreSound ms × Is (ms ++ more) z

abbrev pub StandsBy : Language → (Marked → Type 0) → List Token → Token → Type 0
StandsBy Is Wrong before t = (ms more : List Marked) × (m : Marked) × (z : Module) × (tokens_of ms ≡ before) × (m.token ≡ t) × AreSound ms × Wrong m × Is (ms ++ m ∷ more) z

abbrev pub UnexpectedBy : Language → List Token → Token → Type 0
UnexpectedBy Is before t = GoesBy Is before × (BeginsBy Is (before ++ t ∷ []) → ⊥)

abbrev pub IsDeep : Marked → Type 0
IsDeep m = 400 < m.level

abbrev pub IsOut : Marked → Type 0
IsOut m = IsShallow m × (IsFitting m.role m.token → ⊥)

abbrev pub EndedBy : Language → List Token → Type 0
EndedBy Is ts = (ms more : List Marked) × (m : Marked) × (z : Module) × (tokens_of ms ≡ ts) × AreSound ms × Is (ms ++ m ∷ more) z

-- the first wrong token stands behind so many
abbrev pub At : (List Token → Token → Type 0) → ℕ → List Token → Type 0
At IsWrong n ts = (before after : List Token) × (t : Token) × (ts ≡ before ++ t ∷ after) × (n ≡ length before) × IsWrong before t

-- why the tokens are refused, and behind how many
abbrev pub Why : Language → RefusalKind → ℕ → List Token → Type 0
Why Is k.Unexpected n ts = At (UnexpectedBy Is) n ts
Why Is k.TooDeep n ts = At (StandsBy Is IsDeep) n ts
Why Is k.NumberRange n ts = At (StandsBy Is IsOut) n ts
Why Is k.Ended n ts = (n ≡ length ts) × EndedBy Is ts
Why Is _ n ts = ⊥

-- ---- one token before

token_before : (m : Marked) (t : Token) (ms : List Marked) (ts : List Token) → m.token ≡ t → tokens_of ms ≡ ts → tokens_of (m ∷ ms) ≡ t ∷ ts
token_before m t ms ts here rest = cc (here, rest)

-- what the step behind a token says of the tokens before it
module _ (r next : State) (m : Marked) (t : Token) (here : m.token ≡ t) (ok : IsSound m) (steps : stepped r t ≡ Ok next) (fit : FitsIn r) (back : (q : List Marked) (z : Module) → Lang next q z → Lang r (m ∷ q) z) where
  goes_before : (ts : List Token) → GoesBy (Lang next) ts → GoesBy (Lang r) (t ∷ ts)
  goes_before ts (ms, more, z, is, good, c) = (m ∷ ms, more, z, token_before m t ms ts here is, (ok, good), back (ms ++ more) z c)

  -- what begins r with t begins next behind it
  begins_after : (ts : List Token) → BeginsBy (Lang r) (t ∷ ts) → BeginsBy (Lang next) ts
  begins_after ts ([], more, z, is, c) = absurd cc
  begins_after ts (n ∷ ms, more, z, is, c) =
      let first : n.token ≡ t = cc in
      let rest : tokens_of ms ≡ ts = cc in
      let forth = step_forth r n (ms ++ more) z c in
      at forth.state (subst (λ (o : Token). stepped r o ≡ checked n (Some forth.state)) first forth.steps) forth.completes rest
    where
      at : (other : State) → stepped r t ≡ checked n (Some other) → Lang other (ms ++ more) z → tokens_of ms ≡ ts → BeginsBy (Lang next) ts
      at other eq completes rest = by (looked n other)
        where
          by : Looked n other → BeginsBy (Lang next) ts
          by (sound s e) = let same : other ≡ next = (let both : Ok other ≡ Ok next = sym e ∙ sym eq ∙ steps in cc) in (ms, more, z, rest, subst (λ (o : State). Lang o (ms ++ more) z) same completes)
          by (deep d e) = absurd (let bad : Err k.TooDeep ≡ Ok next = sym e ∙ sym eq ∙ steps in cc)
          by (range s d e) = absurd (let bad : Err k.NumberRange ≡ Ok next = sym e ∙ sym eq ∙ steps in cc)

  unexpected_before : (before : List Token) (o : Token) → UnexpectedBy (Lang next) before o → UnexpectedBy (Lang r) (t ∷ before) o
  unexpected_before before o (goes, never) = (goes_before before goes, λ begins. never (begins_after (before ++ o ∷ []) begins))

  stands_before : (Wrong : Marked → Type 0) (before : List Token) (o : Token) → StandsBy (Lang next) Wrong before o → StandsBy (Lang r) Wrong (t ∷ before) o
  stands_before Wrong before o (ms, more, n, z, is, there, good, wrong, c) = (m ∷ ms, more, n, z, token_before m t ms before here is, there, (ok, good), wrong, back (ms ++ n ∷ more) z c)

  ended_before : (ts : List Token) → EndedBy (Lang next) ts → EndedBy (Lang r) (t ∷ ts)
  ended_before ts (ms, more, n, z, is, good, c) = (m ∷ ms, more, n, z, token_before m t ms ts here is, (ok, good), back (ms ++ n ∷ more) z c)

  at_before : (Wrong Other : List Token → Token → Type 0) (n : ℕ) (ts : List Token) → ((before : List Token) (o : Token) → Other before o → Wrong (t ∷ before) o) → At Other n ts → At Wrong (suc n) (t ∷ ts)
  at_before Wrong Other n ts further (before, after, o, is, place, wrong) = (t ∷ before, after, o, ap (λ (us : List Token). t ∷ us) is, ap suc place, further before o wrong)

  why_before : (kind : RefusalKind) (n : ℕ) (ts : List Token) → Why (Lang next) kind n ts → Why (Lang r) kind (suc n) (t ∷ ts)
  why_before k.Unexpected n ts h = at_before (UnexpectedBy (Lang r)) (UnexpectedBy (Lang next)) n ts unexpected_before h
  why_before k.TooDeep n ts h = at_before (StandsBy (Lang r) IsDeep) (StandsBy (Lang next) IsDeep) n ts (stands_before IsDeep) h
  why_before k.NumberRange n ts h = at_before (StandsBy (Lang r) IsOut) (StandsBy (Lang next) IsOut) n ts (stands_before IsOut) h
  why_before k.Ended n ts h = (ap suc h.0, ended_before ts h.1)
  why_before k.BadToken n ts h = absurd h
  why_before k.TooLong n ts h = absurd h

-- ---- what the machine refuses is refused

abbrev fault_of : Reading → RefusalKind × ℕ
fault_of (Ok z) = (k.Ended, 0)
fault_of (Err fault) = fault

same_fault : (a b : RefusalKind) (i j : ℕ) (o : Reading) → o ≡ Err (a, i) → o ≡ Err (b, j) → (a ≡ b) × (i ≡ j)
same_fault a b i j o h g = let both : Err (a, i) ≡ Err (b, j) = sym h ∙ g in (ap (λ (r : Reading). (fault_of r).0) both, ap (λ (r : Reading). (fault_of r).1) both)

-- a refusal behind n more tokens than i
abbrev pub Refuses : State → RefusalKind → ℕ → ℕ → List Token → Type 0
Refuses r kind i j ts = (n : ℕ) × (j ≡ i + n) × Why (Lang r) kind n ts

refused_end : (i : ℕ) (r : State) (kind : RefusalKind) (j : ℕ) → FitsIn r → (o : Option Module) → ended r ≡ o → ended_at i o ≡ Err (kind, j) → Refuses r kind i j []
refused_end i r kind j fit (Some z) is h = absurd cc
refused_end i r kind j fit None is h = let live = alive_or r.goals r.values r.tables fit in at live.tokens live.tree live.completes
  where
    at : (ms : List Marked) (z : Module) → Lang r ms z → Refuses r kind i j []
    at [] z c = absurd (let bad : Some z ≡ None = sym (ended_of r z c) ∙ is in cc)
    at (m ∷ more) z c =
        let both = same_fault k.Ended kind i j (ended_at i None) refl h in
        let place = both.1 in
        (0, omega (arith, place), subst (λ (o : RefusalKind). Why (Lang r) o 0 []) both.0 (refl, ([], more, m, z, refl, tt, c)))

pub run_refused : (ts : List Token) (i : ℕ) (r : State) (kind : RefusalKind) (j : ℕ) → FitsIn r → run i ts r ≡ Err (kind, j) → Refuses r kind i j ts
unfolding run
run_refused [] i r kind j fit h = refused_end i r kind j fit (ended r) refl h
run_refused (t ∷ ts) i r kind j fit h = by (view r t fit) (λ next fits_there eq. run_refused ts (suc i) next kind j fits_there eq)
  where
    -- the fault of this token
    here_is : (fault : RefusalKind) → stepped r t ≡ Err fault → (fault ≡ kind) × (i ≡ j)
    here_is fault is = same_fault fault kind i j (goes_on i (stepped r t) (λ q. run (suc i) ts q)) (ap (λ (o : Result State RefusalKind). goes_on i o (λ q. run (suc i) ts q)) is) h

    at_once : (fault : RefusalKind) → (fault ≡ kind) × (i ≡ j) → Why (Lang r) fault 0 (t ∷ ts) → Refuses r kind i j (t ∷ ts)
    at_once fault same why = (0, (let place = same.1 in omega (arith, place)), subst (λ (o : RefusalKind). Why (Lang r) o 0 (t ∷ ts)) same.0 why)

    by : View r t → ((next : State) → FitsIn next → run (suc i) ts next ≡ Err (kind, j) → Refuses next kind (suc i) j ts) → Refuses r kind i j (t ∷ ts)
    by (stuck is) further =
        let live = alive_or r.goals r.values r.tables fit in
        at_once k.Unexpected (here_is k.Unexpected is) ([], ts, t, refl, refl, (([], live.tokens, live.tree, refl, tt, live.completes), never))
      where
        never : BeginsBy (Lang r) (t ∷ []) → ⊥
        never ([], more, z, same, c) = cc
        never (m ∷ ms, more, z, same, c) =
            let first : m.token ≡ t = cc in
            let forth = step_forth r m (ms ++ more) z c in
            never_unexpected m forth.state (sym forth.steps ∙ ap (stepped r) first ∙ is)
    by (moves m next here is back fits_there) further = looks (looked m next)
      where
        looks : Looked m next → Refuses r kind i j (t ∷ ts)
        looks (sound ok eq) =
            let rest = further next fits_there (ap (λ (o : Result State RefusalKind). goes_on i o (λ q. run (suc i) ts q)) (sym (is ∙ eq)) ∙ h) in
            (suc rest.0, (let place = rest.1 in omega (arith, place)), why_before r next m t here ok (is ∙ eq) fit back kind rest.0 ts rest.2)
        looks (deep d eq) =
            let live = alive_or next.goals next.values next.tables fits_there in
            at_once k.TooDeep (here_is k.TooDeep (is ∙ eq)) ([], ts, t, refl, refl, ([], live.tokens, m, live.tree, refl, here, tt, d, back live.tokens live.tree live.completes))
        looks (range s d eq) =
            let live = alive_or next.goals next.values next.tables fits_there in
            at_once k.NumberRange (here_is k.NumberRange (is ∙ eq)) ([], ts, t, refl, refl, ([], live.tokens, m, live.tree, refl, here, tt, (s, d), back live.tokens live.tree live.completes))

-- ---- what is refused the machine refuses

-- one token that isn't wrong
run_on : (i : ℕ) (t : Token) (ts : List Token) (r next : State) → stepped r t ≡ Ok next → run i (t ∷ ts) r ≡ run (suc i) ts next
unfolding run
run_on i t ts r next is = ap (λ (o : Result State RefusalKind). goes_on i o (λ q. run (suc i) ts q)) is

-- a token that is
run_off : (i : ℕ) (t : Token) (ts : List Token) (r : State) (kind : RefusalKind) → stepped r t ≡ Err kind → run i (t ∷ ts) r ≡ Err (kind, i)
unfolding run
run_off i t ts r kind is = ap (λ (o : Result State RefusalKind). goes_on i o (λ q. run (suc i) ts q)) is

place_on : (kind : RefusalKind) (i n : ℕ) (o : Reading) → o ≡ Err (kind, suc i + n) → o ≡ Err (kind, i + suc n)
place_on kind i n o h = let same : suc i + n ≡ i + suc n = omega arith in h ∙ ap (λ (j : ℕ). Err (kind, j)) same

begins_with : (r next : State) (t : Token) (ts : List Token) → ((ms : List Marked) (y : Module) → Lang next ms y → (m : Marked) × (m.token ≡ t) × Lang r (m ∷ ms) y) → BeginsBy (Lang next) ts → BeginsBy (Lang r) (t ∷ ts)
begins_with r next t ts back (ms, more, z, is, c) =
    let b = back (ms ++ more) z c in
    (b.0 ∷ ms, more, z, token_before b.0 t ms ts b.1 is, b.2)

unexpected_run : (before after : List Token) (t : Token) (i : ℕ) (r : State) → FitsIn r → UnexpectedBy (Lang r) before t → run i (before ++ t ∷ after) r ≡ Err (k.Unexpected, i + length before)
unexpected_run [] after t i r fit (goes, never) = by (view r t fit)
  where
    place : i ≡ i + 0
    place = omega arith

    by : View r t → run i (t ∷ after) r ≡ Err (k.Unexpected, i + 0)
    by (stuck is) = run_off i t after r k.Unexpected is ∙ ap (λ (j : ℕ). Err (k.Unexpected, j)) place
    by (moves m next here is back fits_there) =
        let live = alive_or next.goals next.values next.tables fits_there in
        absurd (never (m ∷ [], live.tokens, live.tree, token_before m t [] [] here refl, back live.tokens live.tree live.completes))
unexpected_run (b ∷ before) after t i r fit (([], more, z, is, good, c), never) = absurd cc
unexpected_run (b ∷ before) after t i r fit ((m ∷ ms, more, z, is, good, c), never) =
    let first : m.token ≡ b = cc in
    let rest : tokens_of ms ≡ before = cc in
    let step = step_of r m b (ms ++ more) z fit first good.0 c in
    let later : BeginsBy (Lang step.next) (before ++ t ∷ []) → ⊥ = λ begins. never (begins_with r step.next b (before ++ t ∷ []) step.back begins) in
    run_on i b (before ++ t ∷ after) r step.next step.steps
    ∙ place_on k.Unexpected i (length before) _ (unexpected_run before after t (suc i) step.next step.fit ((ms, more, z, rest, good.1, step.completes), later))

stands_run : (Wrong : Marked → Type 0) (kind : RefusalKind) (wrong : (m : Marked) (q : State) → Wrong m → checked m (Some q) ≡ Err kind) (before after : List Token) (t : Token) (i : ℕ) (r : State)
    → FitsIn r → StandsBy (Lang r) Wrong before t → run i (before ++ t ∷ after) r ≡ Err (kind, i + length before)
stands_run Wrong kind wrong [] after t i r fit ([], more, m, z, is, there, good, bad, c) =
    let forth = step_forth r m more z c in
    let place : i ≡ i + 0 = omega arith in
    run_off i t after r kind (ap (stepped r) (sym there) ∙ forth.steps ∙ wrong m forth.state bad) ∙ ap (λ (j : ℕ). Err (kind, j)) place
stands_run Wrong kind wrong [] after t i r fit (_ ∷ ms, more, m, z, is, there, good, bad, c) = absurd cc
stands_run Wrong kind wrong (b ∷ before) after t i r fit ([], more, m, z, is, there, good, bad, c) = absurd cc
stands_run Wrong kind wrong (b ∷ before) after t i r fit (n ∷ ms, more, m, z, is, there, good, bad, c) =
    let first : n.token ≡ b = cc in
    let rest : tokens_of ms ≡ before = cc in
    let step = step_of r n b (ms ++ m ∷ more) z fit first good.0 c in
    run_on i b (before ++ t ∷ after) r step.next step.steps
    ∙ place_on kind i (length before) _ (stands_run Wrong kind wrong before after t (suc i) step.next step.fit (ms, more, m, z, rest, there, good.1, bad, step.completes))

pub ended_run : (ts : List Token) (i : ℕ) (r : State) → FitsIn r → EndedBy (Lang r) ts → run i ts r ≡ Err (k.Ended, i + length ts)
unfolding run
ended_run [] i r fit ([], more, m, z, is, good, c) = by (ended r) refl
  where
    place : i ≡ i + 0
    place = omega arith

    by : (o : Option Module) → ended r ≡ o → ended_at i (ended r) ≡ Err (k.Ended, i + 0)
    by None eq = ap (ended_at i) eq ∙ ap (λ (j : ℕ). Err (k.Ended, j)) place
    by (Some y) eq = absurd (not_over r y m more z fit eq c)
ended_run [] i r fit (_ ∷ ms, more, m, z, is, good, c) = absurd cc
ended_run (t ∷ ts) i r fit ([], more, m, z, is, good, c) = absurd cc
ended_run (t ∷ ts) i r fit (n ∷ ms, more, m, z, is, good, c) =
    let first : n.token ≡ t = cc in
    let rest : tokens_of ms ≡ ts = cc in
    let step = step_of r n t (ms ++ m ∷ more) z fit first good.0 c in
    run_on i t ts r step.next step.steps ∙ place_on k.Ended i (length ts) _ (ended_run ts (suc i) step.next step.fit (ms, more, m, z, rest, good.1, step.completes))

pub why_run : (kind : RefusalKind) (n : ℕ) (ts : List Token) (r : State) → FitsIn r → Why (Lang r) kind n ts → run 0 ts r ≡ Err (kind, n)
why_run k.Unexpected n ts r fit (before, after, t, is, place, wrong) =
    let same : 0 + length before ≡ n = omega (arith, place) in
    ap (λ (us : List Token). run 0 us r) is ∙ unexpected_run before after t 0 r fit wrong ∙ ap (λ (j : ℕ). Err (k.Unexpected, j)) same
why_run k.TooDeep n ts r fit (before, after, t, is, place, wrong) =
    let same : 0 + length before ≡ n = omega (arith, place) in
    ap (λ (us : List Token). run 0 us r) is ∙ stands_run IsDeep k.TooDeep (λ m q d. checked_deep m q d) before after t 0 r fit wrong ∙ ap (λ (j : ℕ). Err (k.TooDeep, j)) same
why_run k.NumberRange n ts r fit (before, after, t, is, place, wrong) =
    let same : 0 + length before ≡ n = omega (arith, place) in
    ap (λ (us : List Token). run 0 us r) is ∙ stands_run IsOut k.NumberRange (λ m q d. checked_range m q d.0 d.1) before after t 0 r fit wrong ∙ ap (λ (j : ℕ). Err (k.NumberRange, j)) same
why_run k.Ended n ts r fit (place, wrong) =
    let same : 0 + length ts ≡ n = omega (arith, place) in
    ended_run ts 0 r fit wrong ∙ ap (λ (j : ℕ). Err (k.Ended, j)) same
why_run k.BadToken n ts r fit h = absurd h
why_run k.TooLong n ts r fit h = absurd h
