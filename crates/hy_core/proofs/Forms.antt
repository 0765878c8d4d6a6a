-- The laws of evaluation, form by form.
use Rattle.std.proofs.Common.{◌≡◌, ℕ, zero, suc, Bool, true, false, List, [], ◌∷◌, Option, Some, None, if◌then◌else◌, refl, ap, ◌∙◌}
use Rattle.hy_terms.specs.Term as term
use Rattle.hy_terms.specs.Term.{Term, terms_of}
use Rattle.hy_core.specs.declared.class.Class.TheVariants.{Error}
use Rattle.hy_core.specs.BuiltIn.{Answer, Value, Raises, NoAnswer, answer, no_clause, or_badarg, with_element}
use Rattle.hy_core.specs.Computation.{Give, bind, Input, Got, Lapsed, Born, Raised, Wrong, then_run, with_one, ended}
use Rattle.hy_core.specs.Evaluation.{Doing, Evaluated, eval, evaluated, denote, denote_all, choose, holds, first_of_two, or_no_clause, or_fault, in_env, single, give, call, call_if, Callee, Top, body_of, act_on, answered, answer_end, value_of, value_end, local_callee, lapse, send, setelement, conses}
use Rattle.hy_core.specs.EvaluationLaws.{Closed, closed, chosen, eval_chosen, eval_in, eval_all, called, called_if, spawned, received, sent, built, one_value, GiveThemselves, BuildFromParts, GoOn, CaseChooses, CallsCost, ReceiveUsesInput, BuiltInsAnswer, EventsHappen}
use Rattle.hy_core.specs.EvaluationLaws as laws
use Rattle.hy_core.specs.Match.{Env, lookup, bind_variables, match_all}
use Rattle.hy_core.specs.Resolved as r
use Rattle.hy_core.specs.Resolved.{FunctionTree, Timeout, AtOnce, Never, Expression, Expressions, NoExpressions, MoreExpressions, Clauses, NoClauses, MoreClauses, Functions}
use Rattle.hy_core.proofs.Rules.{evaluated_bind, evaluated_single, evaluated_one_argument, all_more, then_same, then_same_one}

module _ (program : List FunctionTree) (atoms : List (List ℕ)) (pid : ℕ) where
  abbrev ran : ℕ → Doing → List (Input Term) → Evaluated
  ran = evaluated program atoms pid

  abbrev den : Expression → Env → Doing
  den = denote atoms pid

  abbrev dens : Expressions → Env → Doing
  dens = denote_all atoms pid

  -- what is ended at once

  pub value_ended : (n : ℕ) (ins : List (Input Term)) (o : Option Term) → ran n (value_of o) ins ≡ ended n ins (value_end o)
  value_ended n ins None = refl
  value_ended n ins (Some t) = refl

  pub answer_ended : (n : ℕ) (ins : List (Input Term)) (a : Answer) → ran n (answered a) ins ≡ ended n ins (answer_end a)
  answer_ended n ins (Value t) = refl
  answer_ended n ins (Raises class reason) = refl
  answer_ended n ins NoAnswer = refl

  in_env_ran : (o : Option Env) (e : Expression) (n : ℕ) (ins : List (Input Term)) → ran n (in_env (den e) o) ins ≡ eval_in program atoms pid o e n ins
  in_env_ran None e n ins = refl
  in_env_ran (Some env) e n ins = refl

  -- what follows all parts
  after_all_parts : (n : ℕ) (es : Expressions) (env : Env) (k : List Term → Doing) (j : List Term → ℕ → List (Input Term) → Evaluated) (ins : List (Input Term)) → ((ts : List Term) (m : ℕ) (jns : List (Input Term)) → ran m (k ts) jns ≡ j ts m jns) → ran n (bind (dens es env) k) ins ≡ then_run (eval_all program atoms pid n env es ins) j
  after_all_parts n es env k j ins h = evaluated_bind program atoms pid n (dens es env) k ins ∙ then_same program atoms pid n (dens es env) ins (λ ts m jns. ran m (k ts) jns) j h

  -- the first clause that accepts

  abbrev option_doing : Option Closed → Option Doing
  option_doing None = None
  option_doing (Some c) = Some (den c.body c.env)

  by_guard : (b : Bool) (env : Env) (body : Expression) (others : Option Doing) (rest : Option Closed) → others ≡ option_doing rest → (if b then Some (den body env) else others) ≡ option_doing (if b then Some (record { env = env; body = body }) else rest)
  by_guard true env body others rest h = refl
  by_guard false env body others rest h = h

  by_match : (o : Option Env) (guard body : Expression) (others : Option Doing) (rest : Option Closed) → others ≡ option_doing rest → first_of_two o (λ env. holds (den guard env)) (λ env. den body env) others ≡ option_doing (closed program atoms pid o (λ env. holds (den guard env)) body rest)
  by_match None guard body others rest h = h
  by_match (Some env) guard body others rest h = by_guard (holds (den guard env)) env body others rest h

  choose_chosen : (cs : Clauses) (ts : List Term) (env : Env) → choose atoms pid cs ts env ≡ option_doing (chosen program atoms pid cs ts env)
  choose_chosen NoClauses ts env = refl
  choose_chosen (MoreClauses ps guard body cs) ts env = by_match (match_all ps ts env) guard body (choose atoms pid cs ts env) (chosen program atoms pid cs ts env) (choose_chosen cs ts env)

  no_clause_ran : (o : Option Closed) (n : ℕ) (ins : List (Input Term)) → ran n (or_no_clause (option_doing o)) ins ≡ eval_chosen program atoms pid (Raised Error no_clause) o n ins
  no_clause_ran None n ins = refl
  no_clause_ran (Some c) n ins = refl

  fault_ran : (o : Option Closed) (n : ℕ) (ins : List (Input Term)) → ran n (or_fault (option_doing o)) ins ≡ eval_chosen program atoms pid Wrong o n ins
  fault_ran None n ins = refl
  fault_ran (Some c) n ins = refl

  -- calls

  call_ran : (f : Callee) (ts : List Term) (n : ℕ) (ins : List (Input Term)) → ran n (call f ts) ins ≡ called program atoms pid f ts n ins
  call_ran f ts zero ins = refl
  call_ran f ts (suc n) ins = evaluated_single program atoms pid n (body_of program atoms pid f ts) give ins

  call_if_ran : (f : Option Callee) (ts : List Term) (n : ℕ) (ins : List (Input Term)) → ran n (call_if f ts) ins ≡ called_if program atoms pid f ts n ins
  call_if_ran None ts n ins = refl
  call_if_ran (Some f) ts n ins = call_ran f ts n ins

  spawn_ran : (node f : ℕ) (env : Env) (ts : List Term) (n : ℕ) (ins : List (Input Term)) → ran n (act_on atoms pid (r.Spawn node f) env ts) ins ≡ spawned program atoms pid f ts n ins
  spawn_ran node f env ts n [] = refl
  spawn_ran node f env ts n (Born child ∷ ins) = refl
  spawn_ran node f env ts n (Got t ∷ ins) = refl
  spawn_ran node f env ts n (Lapsed ∷ ins) = refl

  send_ran : (ts : List Term) (n : ℕ) (ins : List (Input Term)) → ran n (send ts) ins ≡ sent program atoms pid ts n ins
  send_ran [] n ins = refl
  send_ran (t ∷ []) n ins = refl
  send_ran (term.Int m ∷ t ∷ []) n ins = refl
  send_ran (term.Atom a ∷ t ∷ []) n ins = refl
  send_ran (term.Nil ∷ t ∷ []) n ins = refl
  send_ran (term.Cons head tail ∷ t ∷ []) n ins = refl
  send_ran (term.Tuple us ∷ t ∷ []) n ins = refl
  send_ran (term.Pid to ∷ t ∷ []) n ins = refl
  send_ran (to ∷ t ∷ u ∷ ts) n ins = refl

  lapse_ran : (timeout : Timeout) (env : Env) (e : Expression) (n : ℕ) (ins : List (Input Term)) → ran n (lapse timeout (den e env)) ins ≡ laws.lapsed program atoms pid timeout env e n ins
  lapse_ran AtOnce env e n ins = refl
  lapse_ran Never env e n ins = refl

  receive_ran : (env : Env) (cs : Clauses) (timeout : Timeout) (e : Expression) (n : ℕ) (ins : List (Input Term)) → ran n (den (r.Receive cs timeout e) env) ins ≡ received program atoms pid env cs timeout e n ins
  receive_ran env cs timeout e n [] = refl
  receive_ran env cs timeout e n (Got t ∷ ins) = ap (λ o. ran n (or_fault o) ins) (choose_chosen cs (t ∷ []) env) ∙ fault_ran (chosen program atoms pid cs (t ∷ []) env) n ins
  receive_ran env cs timeout e n (Lapsed ∷ ins) = lapse_ran timeout env e n ins
  receive_ran env cs timeout e n (Born child ∷ ins) = refl

module _ (program : List FunctionTree) (atoms : List (List ℕ)) (pid calls : ℕ) (env : Env) (inputs : List (Input Term)) where
  pub give_themselves : GiveThemselves program atoms pid calls env inputs
  give_themselves = record {
    number = λ n. refl;
    atom = λ a. refl;
    nil = refl;
    text = λ site bytes. refl;
    variable = λ x. value_ended program atoms pid calls inputs (lookup x env);
  }

  pub build_from_parts : BuildFromParts program atoms pid calls env inputs
  build_from_parts = record {
    none = refl;
    more = λ e es.
        evaluated_single program atoms pid calls (denote atoms pid e env) (λ t. bind (denote_all atoms pid es env) (λ ts. Give (t ∷ ts))) inputs
        ∙ then_same_one program atoms pid calls (denote atoms pid e env) inputs _ _ (λ t m jns. evaluated_bind program atoms pid m (denote_all atoms pid es env) (λ ts. Give (t ∷ ts)) jns);
    tuple = λ site es. after_all_parts program atoms pid calls es env (λ ts. give (term.Tuple (terms_of ts))) (built program atoms pid (λ ts. term.Tuple (terms_of ts))) inputs (λ ts m jns. refl);
    list = λ site es e.
        after_all_parts program atoms pid calls es env (λ ts. bind (denote atoms pid e env) (single (λ t. give (conses ts t)))) (λ ts m jns. then_run (eval program atoms pid m env e jns) (with_one (λ t l kns. ended l kns (one_value (conses ts t))))) inputs
        (λ ts m jns. evaluated_single program atoms pid m (denote atoms pid e env) (λ t. give (conses ts t)) jns);
    values = λ es. refl;
  }

  pub go_on : GoOn program atoms pid calls env inputs
  go_on = record {
    «let» = λ xs e b.
        evaluated_bind program atoms pid calls (denote atoms pid e env) (λ ts. in_env (denote atoms pid b) (bind_variables xs ts env)) inputs
        ∙ then_same program atoms pid calls (denote atoms pid e env) inputs _ _ (λ ts m jns. in_env_ran program atoms pid (bind_variables xs ts env) b m jns);
    «do» = λ e b. evaluated_single program atoms pid calls (denote atoms pid e env) (λ t. denote atoms pid b env) inputs;
    letrec = λ fs e. refl;
  }

  pub case_chooses : CaseChooses program atoms pid calls env inputs
  case_chooses e cs =
      evaluated_bind program atoms pid calls (denote atoms pid e env) (λ ts. or_no_clause (choose atoms pid cs ts env)) inputs
      ∙ then_same program atoms pid calls (denote atoms pid e env) inputs _ _ (λ ts m jns.
      ap (λ o. evaluated program atoms pid m (or_no_clause o) jns) (choose_chosen program atoms pid cs ts env) ∙ no_clause_ran program atoms pid (chosen program atoms pid cs ts env) m jns)

  pub calls_cost : CallsCost program atoms pid calls env inputs
  calls_cost = record {
    top = λ f es. after_all_parts program atoms pid calls es env (call (Top f)) (called program atoms pid (Top f)) inputs (call_ran program atoms pid (Top f));
    local = λ f es. after_all_parts program atoms pid calls es env (call_if (local_callee f env)) (called_if program atoms pid (local_callee f env)) inputs (call_if_ran program atoms pid (local_callee f env));
  }

  pub receive_uses_input : ReceiveUsesInput program atoms pid calls env inputs
  receive_uses_input cs timeout e = receive_ran program atoms pid env cs timeout e calls inputs

  pub built_ins_answer : BuiltInsAnswer program atoms pid calls env inputs
  built_ins_answer = record {
    plain = λ b es. after_all_parts program atoms pid calls es env (λ ts. answered (answer atoms pid b ts)) (λ ts m jns. ended m jns (answer_end (answer atoms pid b ts))) inputs (λ ts m jns. answer_ended program atoms pid m jns (answer atoms pid b ts));
    setelement = λ site i t v.
        ap (λ p. evaluated program atoms pid calls p inputs) (all_more program atoms pid i (MoreExpressions t (MoreExpressions v NoExpressions)) env setelement)
        ∙ evaluated_single program atoms pid calls (denote atoms pid i env) (λ x. bind (denote_all atoms pid (MoreExpressions t (MoreExpressions v NoExpressions)) env) (λ ts. setelement (x ∷ ts))) inputs
        ∙ then_same_one program atoms pid calls (denote atoms pid i env) inputs _ _ (λ x m jns.
        ap (λ p. evaluated program atoms pid m p jns) (all_more program atoms pid t (MoreExpressions v NoExpressions) env (λ ts. setelement (x ∷ ts)))
        ∙ evaluated_single program atoms pid m (denote atoms pid t env) (λ y. bind (denote_all atoms pid (MoreExpressions v NoExpressions) env) (λ ts. setelement (x ∷ y ∷ ts))) jns
        ∙ then_same_one program atoms pid m (denote atoms pid t env) jns _ _ (λ y l kns.
        evaluated_one_argument program atoms pid l v env (λ ts. setelement (x ∷ y ∷ ts)) kns
        ∙ then_same_one program atoms pid l (denote atoms pid v env) kns _ _ (λ z k lns. answer_ended program atoms pid k lns (or_badarg (with_element x y z)))));
  }

  pub events_happen : EventsHappen program atoms pid calls env inputs
  events_happen = record {
    send = λ node es. after_all_parts program atoms pid calls es env send (sent program atoms pid) inputs (send_ran program atoms pid);
    spawn = λ node f es. after_all_parts program atoms pid calls es env (act_on atoms pid (r.Spawn node f) env) (spawned program atoms pid f) inputs (spawn_ran program atoms pid node f env);
    display = λ node e. evaluated_one_argument program atoms pid calls e env (act_on atoms pid (r.Display node) env) inputs;
  }

  pub raise : laws.Raise program atoms pid calls env inputs
  raise = record {
    raised = λ class e. evaluated_one_argument program atoms pid calls e env (act_on atoms pid (r.Raising class) env) inputs;
    failed = λ e. evaluated_one_argument program atoms pid calls e env (act_on atoms pid r.MatchFail env) inputs;
  }
