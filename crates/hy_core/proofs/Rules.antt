-- Evaluation by its parts.
use Rattle.std.proofs.Common.{◌≡◌, ℕ, List, [], ◌∷◌, ◌++◌, refl, ap, ◌∙◌}
use Rattle.hy_terms.specs.Term.{Term}
use Rattle.hy_core.specs.Computation.{Give, Raise, bind, Input, Outcome, Values, Raised, Needs, NeedsPid, Spent, Wrong, Result, then_run, with_values, with_one}
use Rattle.hy_core.specs.Evaluation.{Doing, Evaluated, evaluated, denote, denote_all, single, body_of}
use Rattle.hy_core.specs.Match.{Env}
use Rattle.hy_core.specs.Resolved.{FunctionTree, Expression, Expressions, NoExpressions, MoreExpressions}
use Rattle.std.proofs.Math.Path.{fun_ext}
use Rattle.hy_core.proofs.Runs.{attempt_assoc, result_bind}

-- the same way on gives the same whole
pub with_values_same : {V C B W : Type 0} (events : List B) (n : ℕ) (ins : List (Input V)) (e : Outcome V C W) (k j : List V → ℕ → List (Input V) → Result V C B W) → ((vs : List V) (m : ℕ) (jns : List (Input V)) → k vs m jns ≡ j vs m jns) → with_values events n ins e k ≡ with_values events n ins e j
with_values_same events n ins (Values vs) k j h = ap (λ r. record { events = events ++ r.events; calls = r.calls; inputs = r.inputs; end = r.end }) (h vs n ins)
with_values_same events n ins (Raised c v) k j h = refl
with_values_same events n ins (Needs w) k j h = refl
with_values_same events n ins NeedsPid k j h = refl
with_values_same events n ins Spent k j h = refl
with_values_same events n ins Wrong k j h = refl

module _ (program : List FunctionTree) (atoms : List (List ℕ)) (pid : ℕ) where
  abbrev ran : ℕ → Doing → List (Input Term) → Evaluated
  ran = evaluated program atoms pid

  abbrev then_by : ℕ → Doing → List (Input Term) → (List Term → ℕ → List (Input Term) → Evaluated) → Evaluated
  then_by n p ins k = then_run (ran n p ins) k

  pub evaluated_bind : (n : ℕ) (p : Doing) (k : List Term → Doing) (ins : List (Input Term)) → ran n (bind p k) ins ≡ then_by n p ins (λ ts m jns. ran m (k ts) jns)
  evaluated_bind n p k ins = result_bind (λ e. e) [] (body_of program atoms pid) n p k ins

  evaluated_one : (k : Term → Doing) (ts : List Term) (m : ℕ) (jns : List (Input Term)) → ran m (single k ts) jns ≡ with_one (λ t m jns. ran m (k t) jns) ts m jns
  evaluated_one k [] m jns = refl
  evaluated_one k (t ∷ []) m jns = refl
  evaluated_one k (t ∷ u ∷ ts) m jns = refl

  -- a part that gives one value
  pub evaluated_single : (n : ℕ) (p : Doing) (k : Term → Doing) (ins : List (Input Term)) → ran n (bind p (single k)) ins ≡ then_by n p ins (with_one (λ t m jns. ran m (k t) jns))
  evaluated_single n p k ins =
      let q = ran n p ins in
      evaluated_bind n p (single k) ins
      ∙ with_values_same q.events q.calls q.inputs q.end (λ ts m jns. ran m (single k ts) jns) (with_one (λ t m jns. ran m (k t) jns)) (evaluated_one k)

  with_one_same : (k j : Term → ℕ → List (Input Term) → Evaluated) → ((t : Term) (m : ℕ) (jns : List (Input Term)) → k t m jns ≡ j t m jns) → (ts : List Term) (m : ℕ) (jns : List (Input Term)) → with_one k ts m jns ≡ with_one j ts m jns
  with_one_same k j h [] m jns = refl
  with_one_same k j h (t ∷ []) m jns = h t m jns
  with_one_same k j h (t ∷ u ∷ ts) m jns = refl

  -- goes on alike behind the same part
  pub then_same : (n : ℕ) (p : Doing) (ins : List (Input Term)) (k j : List Term → ℕ → List (Input Term) → Evaluated) → ((ts : List Term) (m : ℕ) (jns : List (Input Term)) → k ts m jns ≡ j ts m jns) → then_by n p ins k ≡ then_by n p ins j
  then_same n p ins k j h = let q = ran n p ins in with_values_same q.events q.calls q.inputs q.end k j h

  pub then_same_one : (n : ℕ) (p : Doing) (ins : List (Input Term)) (k j : Term → ℕ → List (Input Term) → Evaluated) → ((t : Term) (m : ℕ) (jns : List (Input Term)) → k t m jns ≡ j t m jns) → then_by n p ins (with_one k) ≡ then_by n p ins (with_one j)
  then_same_one n p ins k j h = then_same n p ins (with_one k) (with_one j) (with_one_same k j h)

  bind_one : (f : Term → Doing) (k : List Term → Doing) (ts : List Term) → bind (single f ts) k ≡ single (λ t. bind (f t) k) ts
  bind_one f k [] = refl
  bind_one f k (t ∷ []) = refl
  bind_one f k (t ∷ u ∷ ts) = refl

  bind_single : (p : Doing) (f : Term → Doing) (k : List Term → Doing) → bind (bind p (single f)) k ≡ bind p (single (λ t. bind (f t) k))
  bind_single p f k = attempt_assoc p (single f) Raise k Raise ∙ ap (λ g. bind p g) (fun_ext (bind_one f k))

  -- the first of the arguments, and then the others
  pub all_more : (e : Expression) (es : Expressions) (env : Env) (k : List Term → Doing) → bind (denote_all atoms pid (MoreExpressions e es) env) k ≡ bind (denote atoms pid e env) (single (λ t. bind (denote_all atoms pid es env) (λ ts. k (t ∷ ts))))
  all_more e es env k =
      bind_single (denote atoms pid e env) (λ t. bind (denote_all atoms pid es env) (λ ts. Give (t ∷ ts))) k
      ∙ ap (λ g. bind (denote atoms pid e env) (single g)) (fun_ext λ t. attempt_assoc (denote_all atoms pid es env) (λ ts. Give (t ∷ ts)) Raise k Raise)

  -- a call with one argument, and with two
  pub evaluated_one_argument : (n : ℕ) (a : Expression) (env : Env) (k : List Term → Doing) (ins : List (Input Term)) → ran n (bind (denote_all atoms pid (MoreExpressions a NoExpressions) env) k) ins ≡ then_by n (denote atoms pid a env) ins (with_one (λ t m jns. ran m (k (t ∷ [])) jns))
  evaluated_one_argument n a env k ins =
      ap (λ p. ran n p ins) (all_more a NoExpressions env k) ∙ evaluated_single n (denote atoms pid a env) (λ t. k (t ∷ [])) ins

  pub evaluated_two_arguments : (n : ℕ) (a b : Expression) (env : Env) (k : List Term → Doing) (ins : List (Input Term)) → ran n (bind (denote_all atoms pid (MoreExpressions a (MoreExpressions b NoExpressions)) env) k) ins ≡ then_by n (denote atoms pid a env) ins (with_one (λ t m jns. then_by m (denote atoms pid b env) jns (with_one (λ u l kns. ran l (k (t ∷ u ∷ [])) kns))))
  evaluated_two_arguments n a b env k ins =
      ap (λ p. ran n p ins) (all_more a (MoreExpressions b NoExpressions) env k)
      ∙ evaluated_single n (denote atoms pid a env) (λ t. bind (denote_all atoms pid (MoreExpressions b NoExpressions) env) (λ ts. k (t ∷ ts))) ins
      ∙ then_same_one n (denote atoms pid a env) ins _ _ (λ t m jns. evaluated_one_argument m b env (λ ts. k (t ∷ ts)) jns)
