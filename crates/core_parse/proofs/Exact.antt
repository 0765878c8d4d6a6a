-- What the machine reads is in the grammar, and what it refuses is refused there; both ways.
use Rattle.std.proofs.Common.{◌≡◌, ℕ, suc, ◌+◌, ◌≤◌, ◌<◌, ◌^◌, leb, ltb, Bool, true, false, cond, List, [], ◌∷◌, Option, Some, None, Result, Ok, Err, ◌⊎◌, inl, inr, refl, sym, ap, subst, ◌∙◌, arith}
use Rattle.std.proofs.lemmas.Bool.{ltb-true, lt-ltb, leb-true, le-leb}
use Rattle.std.proofs.lemmas.Bool.Decides.{leb_tells}
use Rattle.hy_core.specs.Marks.{Marked, at, constant, plain, symbol, arity, value, number}
use Rattle.hy_core.specs.declared.token.Symbol.TheVariants as w
use Rattle.hy_core.specs.declared.token.Sign.{Sign}
use Rattle.hy_core.specs.declared.token.Sign.TheVariants as sign
use Rattle.hy_core.specs.declared.token.Token.{Token}
use Rattle.hy_core.specs.declared.token.Token.TheVariants as t
use Rattle.hy_core.specs.declared.tables.Tables.{Tables}
use Rattle.hy_core.specs.declared.tree.Module.{Module}
use Rattle.core_build.specs.declared.form.Part.{Part}
use Rattle.core_build.specs.declared.form.Part.TheVariants as part
use Rattle.core_parse.specs.declared.goal.Goal.{Goal}
use Rattle.core_parse.specs.declared.goal.Goal.TheVariants as g
use Rattle.core_build.specs.declared.value.Value.{Value}
use Rattle.core_parse.specs.declared.state.State.{State}
use Rattle.hy_core.specs.Marks.{Role, IsShallow, Fits as IsFitting, IsSound, AreSound, tokens_of}
use Rattle.hy_core.specs.Marks as marks
use Rattle.core_parse.specs.code.Pushdown.{state, is_symbol, symbol_in, closing, fits, part_mark, mark, goal_moved, settled, checked, taken_from, stepped, finished, finished_from, ended, ended_at, goes_on, run}
use Rattle.hy_terms.proofs.RangeLemmas.{in_range_is, is_in_range_of}
use Rattle.core_parse.proofs.Meaning.{Completes}
use Rattle.core_parse.proofs.Forth.{Moves}
use Rattle.core_parse.proofs.ForthGoals.{SitsOn, settle_forth, goal_forth, step_forth}
use Rattle.core_parse.proofs.BackGoals.{goal_back, settle_back}
use Rattle.core_parse.proofs.Fitting.{FitsOrDone, FitsState, FitsSome, goal_fits, settle_fits, left_over}
use Rattle.hy_core.specs.declared.refusal.RefusalKind.{RefusalKind}
use Rattle.hy_core.specs.declared.refusal.RefusalKind.TheVariants as k

-- the tokens complete the state
abbrev pub Lang : State → List Marked → Module → Type 0
Lang r ms z = Completes r.goals r.values r.tables ms z

abbrev pub FitsIn : State → Type 0
FitsIn r = FitsOrDone r.goals r.values

-- ---- levels and ranges

fits_is : (role : Role) (token : Token) → fits role token ≡ true → IsFitting role token
fits_is marks.Value (t.Integer sign digits) h = in_range_is (number sign (value digits)) h
fits_is marks.Arity (t.Integer sign digits) h = leb-true (value digits) 65535 h
fits_is _ _ h = tt

is_fits : (role : Role) (token : Token) → IsFitting role token → fits role token ≡ true
is_fits marks.Value (t.Integer sign digits) h = is_in_range_of (number sign (value digits)) h
is_fits marks.Arity (t.Integer sign digits) h = le-leb (value digits) 65535 h
is_fits _ _ h = refl

not_fits : (role : Role) (token : Token) → fits role token ≡ false → IsFitting role token → ⊥
not_fits role token h is = let bad : true ≡ false = sym (is_fits role token is) ∙ h in cc

fits_not : (role : Role) (token : Token) → (IsFitting role token → ⊥) → fits role token ≡ false
fits_not role token never = test (fits role token) refl
  where
    test : (b : Bool) → fits role token ≡ b → b ≡ false
    test true is = absurd (never (fits_is role token is))
    test false is = refl

deep_tells : (n : ℕ) → ((ltb 400 n ≡ true) × (400 < n)) ⊎ ((ltb 400 n ≡ false) × (n ≤ 400))
deep_tells n = by (leb_tells 401 n)
  where
    by : ((leb 401 n ≡ true) × (401 ≤ n)) ⊎ ((leb 401 n ≡ false) × (n < 401)) → ((ltb 400 n ≡ true) × (400 < n)) ⊎ ((ltb 400 n ≡ false) × (n ≤ 400))
    by (inl (is, le)) = inl (is, omega (arith, le))
    by (inr (is, lt)) = inr (is, omega (arith, lt))

shallow_test : (n : ℕ) → n ≤ 400 → ltb 400 n ≡ false
shallow_test n le = by (deep_tells n)
  where
    by : ((ltb 400 n ≡ true) × (400 < n)) ⊎ ((ltb 400 n ≡ false) × (n ≤ 400)) → ltb 400 n ≡ false
    by (inl (is, lt)) = absurd (omega (arith, le, lt))
    by (inr (is, k)) = is

checked_sound : (m : Marked) (r : State) → IsSound m → checked m (Some r) ≡ Ok r
checked_sound m r sound = rw (shallow_test m.level sound.0, is_fits m.role m.token sound.1) refl

pub checked_deep : (m : Marked) (r : State) → 400 < m.level → checked m (Some r) ≡ Err k.TooDeep
checked_deep m r deep = rw (lt-ltb 400 m.level deep) refl

pub checked_range : (m : Marked) (r : State) → IsShallow m → (IsFitting m.role m.token → ⊥) → checked m (Some r) ≡ Err k.NumberRange
checked_range m r shallow never = rw (shallow_test m.level shallow, fits_not m.role m.token never) refl

-- what a move that is looked at comes to
pub data Looked (m : Marked) (r : State) : Type 0 where
  sound : IsSound m → checked m (Some r) ≡ Ok r → Looked m r
  deep : 400 < m.level → checked m (Some r) ≡ Err k.TooDeep → Looked m r
  range : IsShallow m → (IsFitting m.role m.token → ⊥) → checked m (Some r) ≡ Err k.NumberRange → Looked m r

pub looked : (m : Marked) (r : State) → Looked m r
looked m r = by (deep_tells m.level) (fits m.role m.token) refl
  where
    by : ((ltb 400 m.level ≡ true) × (400 < m.level)) ⊎ ((ltb 400 m.level ≡ false) × (m.level ≤ 400)) → (b : Bool) → fits m.role m.token ≡ b → Looked m r
    by (inl (is, lt)) b eq = deep lt (checked_deep m r lt)
    by (inr (is, le)) true eq = sound (le, fits_is m.role m.token eq) (checked_sound m r (le, fits_is m.role m.token eq))
    by (inr (is, le)) false eq = range le (not_fits m.role m.token eq) (checked_range m r le (not_fits m.role m.token eq))

pub never_unexpected : (m : Marked) (r : State) → checked m (Some r) ≡ Err k.Unexpected → ⊥
never_unexpected m r is = by (looked m r)
  where
    by : Looked m r → ⊥
    by (sound s eq) = let bad : Ok r ≡ Err k.Unexpected = sym eq ∙ is in cc
    by (deep d eq) = let bad : Err k.TooDeep ≡ Err k.Unexpected = sym eq ∙ is in cc
    by (range s d eq) = let bad : Err k.NumberRange ≡ Err k.Unexpected = sym eq ∙ is in cc

-- ---- marks

part_mark_token : (o : Part) (n : ℕ) (token : Token) → (part_mark o n token).token ≡ token
part_mark_token part.Expr n token = refl
part_mark_token part.Pattern n token = refl
part_mark_token part.Constant n token = refl
part_mark_token _ n (t.Symbol w.Open) = refl
part_mark_token _ n token = refl

either_mark : (b : Bool) (x y : Marked) (token : Token) → x.token ≡ token → y.token ≡ token → (cond b x y).token ≡ token
either_mark true x y token h i = h
either_mark false x y token h i = i

clause_mark_token : (n : ℕ) (token : Token) → (mark (g.Clause n false) token).token ≡ token
clause_mark_token n (t.Symbol w.Less) = refl
clause_mark_token n token = refl

name_mark_token : (n : ℕ) (token : Token) → (mark (g.Key n) token).token ≡ token
name_mark_token n (t.Symbol w.Open) = refl
name_mark_token n token = refl

value_mark_token : (n : ℕ) (token : Token) → (mark (g.AttributeValue n) token).token ≡ token
value_mark_token n (t.Symbol w.Open) = refl
value_mark_token n token = refl

mark_token : (goal : Goal) (token : Token) → (mark goal token).token ≡ token
mark_token (g.Part o n) token = part_mark_token o n token
mark_token (g.Parts o n c) token = either_mark (is_symbol (closing c) token) _ _ token refl (part_mark_token o n token)
mark_token (g.Heads o n) token = either_mark (is_symbol w.CloseList token) _ _ token refl (part_mark_token o (n + 1) token)
mark_token (g.Tail o n) token = either_mark (is_symbol w.OpenList token) _ _ token (part_mark_token o n token) (part_mark_token o (n + 1) token)
mark_token (g.Bindings n) token = name_mark_token n token
mark_token (g.Clauses n c) token = either_mark (is_symbol (closing c) token) _ _ token refl (clause_mark_token n token)
mark_token (g.Clause n inner) token = clause_mark_token n token
mark_token (g.Key n) token = name_mark_token n token
mark_token (g.AttributeValue n) token = value_mark_token n token
mark_token (g.Primop n) token = name_mark_token n token
mark_token (g.Functions n) token = name_mark_token n token
mark_token (g.FunctionName n) token = name_mark_token n token
mark_token (g.Definitions n) token = name_mark_token n token
mark_token (g.DefinitionName n) token = name_mark_token n token
mark_token (g.FunctionBody n) token = name_mark_token n token
mark_token _ token = refl

-- ---- one step

-- what a step comes to
pub data View (r : State) (token : Token) : Type 0 where
  stuck : stepped r token ≡ Err k.Unexpected → View r token
  moves : (m : Marked) (next : State) → m.token ≡ token → stepped r token ≡ checked m (Some next) → ((q : List Marked) (z : Module) → Lang next q z → Lang r (m ∷ q) z) → FitsIn next → View r token

view_taken : (r : State) (token : Token) (goal : Goal) (gs : List Goal) (vs : List Value) (s : Tables) → settled r.goals r.values r.tables (symbol_in token) ≡ Some (state (goal ∷ gs) vs s)
    → (o : Option State) → goal_moved goal gs vs s token ≡ o → FitsState o → View r token
view_taken r token goal gs vs s is None eq fit = stuck (ap (λ (o : Option State). taken_from o token) is ∙ ap (checked (mark goal token)) eq)
view_taken r token goal gs vs s is (Some next) eq fit =
    moves (mark goal token) next (mark_token goal token) (ap (λ (o : Option State). taken_from o token) is ∙ ap (checked (mark goal token)) eq) back fit
  where
    back : (q : List Marked) (z : Module) → Lang next q z → Lang r (mark goal token ∷ q) z
    back q z h =
        let after : Moves (goal_moved goal gs vs s token) q z = subst (λ (o : Option State). Moves o q z) (sym eq) h in
        let here : settled r.goals r.values r.tables (symbol_in (mark goal token).token) ≡ Some (state (goal ∷ gs) vs s) = subst (λ (o : Token). settled r.goals r.values r.tables (symbol_in o) ≡ Some (state (goal ∷ gs) vs s)) (sym (mark_token goal token)) is in
        settle_back r.goals r.values r.tables (mark goal token ∷ q) z (state (goal ∷ gs) vs s) here (goal_back goal gs vs s token q z after)

view_rest : (r : State) (token : Token) (o : Option State) → settled r.goals r.values r.tables (symbol_in token) ≡ o → FitsSome o → View r token
view_rest r token None is fit = absurd fit
view_rest r token (Some rest) is fit = at rest.goals rest.values rest.tables is fit
  where
    at : (gs : List Goal) (vs : List Value) (s : Tables) → settled r.goals r.values r.tables (symbol_in token) ≡ Some (state gs vs s) → FitsOrDone gs vs → View r token
    at [] vs s is fit = stuck (ap (λ (o : Option State). taken_from o token) is)
    at (goal ∷ gs) vs s is fit = view_taken r token goal gs vs s is (goal_moved goal gs vs s token) refl (goal_fits goal gs vs s token fit)

pub view : (r : State) (token : Token) → FitsIn r → View r token
view r token fit = view_rest r token (settled r.goals r.values r.tables (symbol_in token)) refl (settle_fits r.goals r.values r.tables (symbol_in token) fit)

-- the step that the grammar has next, where its token isn't wrong
pub record Step (r : State) (token : Token) (q : List Marked) (z : Module) : Type 0 where
  pub next : State
  pub steps : stepped r token ≡ Ok next
  pub completes : Lang next q z
  pub fit : FitsIn next
  pub back : (ms : List Marked) (y : Module) → Lang next ms y → (m : Marked) × (m.token ≡ token) × Lang r (m ∷ ms) y

same_next : (m : Marked) (next r : State) → checked m (Some next) ≡ Ok r → next ≡ r
same_next m next r is = by (looked m next)
  where
    by : Looked m next → next ≡ r
    by (sound s eq) = let same : Ok next ≡ Ok r = sym eq ∙ is in cc
    by (deep d eq) = absurd (let bad : Err k.TooDeep ≡ Ok r = sym eq ∙ is in cc)
    by (range s d eq) = absurd (let bad : Err k.NumberRange ≡ Ok r = sym eq ∙ is in cc)

pub step_of : (r : State) (m : Marked) (token : Token) (q : List Marked) (z : Module) → FitsIn r → m.token ≡ token → IsSound m → Lang r (m ∷ q) z → Step r token q z
step_of r m token q z fit is ok h =
    let forth = step_forth r m q z h in
    let steps : stepped r token ≡ Ok forth.state = subst (λ (o : Token). stepped r o ≡ Ok forth.state) is (forth.steps ∙ checked_sound m forth.state ok) in
    by forth.state steps forth.completes (view r token fit)
  where
    by : (next : State) → stepped r token ≡ Ok next → Lang next q z → View r token → Step r token q z
    by next steps completes (stuck never) = absurd (let bad : Err k.Unexpected ≡ Ok next = sym never ∙ steps in cc)
    by next steps completes (moves l other here eq back fits_there) =
        let same : other ≡ next = same_next l other next (sym eq ∙ steps) in
        record {
          next = next;
          steps = steps;
          completes = completes;
          fit = subst FitsIn same fits_there;
          back = λ ms y c. (l, here, back ms y (subst (λ (o : State). Lang o ms y) (sym same) c));
        }

-- ---- the end

none_left : (goal : Goal) (gs : List Goal) (vs : List Value) (s : Tables) (z : Module) → SitsOn (goal ∷ gs) None → Completes (goal ∷ gs) vs s [] z → ⊥
none_left goal gs vs s z sits c = goal_forth goal gs vs s [] z sits c

pub ended_of : (r : State) (z : Module) → Lang r [] z → ended r ≡ Some z
ended_of r z h =
    let last = settle_forth r.goals r.values r.tables [] z h in
    ap finished_from last.is ∙ at last.rest.goals last.rest.values last.rest.tables last.sits last.completes
  where
    at : (gs : List Goal) (vs : List Value) (s : Tables) → SitsOn gs None → Completes gs vs s [] z → finished gs vs s ≡ Some z
    at [] vs s sits c = c.1
    at (goal ∷ gs) vs s sits c = absurd (none_left goal gs vs s z sits c)

of_ended : (r : State) (z : Module) → ended r ≡ Some z → Lang r [] z
of_ended r z h = by (settled r.goals r.values r.tables None) refl h
  where
    at : (gs : List Goal) (vs : List Value) (s : Tables) → settled r.goals r.values r.tables None ≡ Some (state gs vs s) → finished gs vs s ≡ Some z → Lang r [] z
    at [] vs s is c = settle_back r.goals r.values r.tables [] z (state [] vs s) is (refl, c)
    at (goal ∷ gs) vs s is c = absurd cc

    by : (o : Option State) → settled r.goals r.values r.tables None ≡ o → finished_from o ≡ Some z → Lang r [] z
    by None is c = absurd cc
    by (Some rest) is c = at rest.goals rest.values rest.tables is c

-- ---- what is read

-- a state that is over goes on with no token
pub not_over : (r : State) (y : Module) (m : Marked) (more : List Marked) (z : Module) → FitsIn r → ended r ≡ Some y → Lang r (m ∷ more) z → ⊥
not_over r y m more z fit h c = at r.goals fit h c
  where
    at : (gs : List Goal) → FitsOrDone gs r.values → finished_from (settled gs r.values r.tables None) ≡ Some y → Completes gs r.values r.tables (m ∷ more) z → ⊥
    at [] fit h c = let bad = c.0 in cc
    at (goal ∷ gs) fit h c = let bad : None ≡ Some y = sym (left_over (goal ∷ gs) r.values r.tables fit) ∙ h in cc

pub run_only : (ms : List Marked) (i : ℕ) (r : State) (z : Module) → FitsIn r → Lang r ms z → AreSound ms → run i (tokens_of ms) r ≡ Ok z
unfolding run
run_only [] i r z fit c ok = ap (ended_at i) (ended_of r z c)
run_only (m ∷ ms) i r z fit c ok =
    let step = step_of r m m.token ms z fit refl ok.0 c in
    ap (λ (o : Result State RefusalKind). goes_on i o (λ q. run (suc i) (tokens_of ms) q)) step.steps ∙ run_only ms (suc i) step.next z step.fit step.completes ok.1

-- the tokens are read as this tree
abbrev pub Found : State → List Token → Module → Type 0
Found r ts z = (ms : List Marked) × (tokens_of ms ≡ ts) × AreSound ms × Lang r ms z

pub run_found : (ts : List Token) (i : ℕ) (r : State) (z : Module) → FitsIn r → run i ts r ≡ Ok z → Found r ts z
unfolding run
run_found [] i r z fit h = by (ended r) refl h
  where
    by : (o : Option Module) → ended r ≡ o → ended_at i o ≡ Ok z → Found r [] z
    by None is k = absurd cc
    by (Some y) is k = ([], refl, tt, of_ended r z (is ∙ (let same : Some y ≡ Some z = cc in same)))
run_found (token ∷ ts) i r z fit h = by (view r token fit) (λ next fits_there k. run_found ts (suc i) next z fits_there k)
  where
    by : View r token → ((next : State) → FitsIn next → run (suc i) ts next ≡ Ok z → Found next ts z) → Found r (token ∷ ts) z
    by (stuck is) further = absurd (let bad : Err (k.Unexpected, i) ≡ Ok z = ap (λ (o : Result State RefusalKind). goes_on i o (λ q. run (suc i) ts q)) (sym is) ∙ h in cc)
    by (moves m next here is back fits_there) further = at (looked m next)
      where
        at : Looked m next → Found r (token ∷ ts) z
        at (sound ok eq) =
            let rest = further next fits_there (ap (λ (o : Result State RefusalKind). goes_on i o (λ q. run (suc i) ts q)) (sym (is ∙ eq)) ∙ h) in
            (m ∷ rest.0, (let first = here in let others = rest.1 in cc (first, others)), (ok, rest.2), back rest.0 z rest.3)
        at (deep d eq) = absurd (let bad : Err (k.TooDeep, i) ≡ Ok z = ap (λ (o : Result State RefusalKind). goes_on i o (λ q. run (suc i) ts q)) (sym (is ∙ eq)) ∙ h in cc)
        at (range s d eq) = absurd (let bad : Err (k.NumberRange, i) ≡ Ok z = ap (λ (o : Result State RefusalKind). goes_on i o (λ q. run (suc i) ts q)) (sym (is ∙ eq)) ∙ h in cc)
