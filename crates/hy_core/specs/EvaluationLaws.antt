-- Evaluation, form by form, in the words of the Core Erlang 1.0.3 report: what each form means from
-- what its parts mean. Each law is the clause of a function in the module `laws`.
use Rattle.std.specs.Prelude.{◌≡◌, ℕ, zero, suc, List, [], ◌∷◌, ◌++◌, Option, Some, None, Bool, true, if◌then◌else◌, ℤ}
use Rattle.hy_terms.specs.Term as term
use Rattle.hy_terms.specs.Term.{Term, terms_of}
use Rattle.hy_core.specs.declared.bif.Bif.{Bif}
use Rattle.hy_core.specs.declared.class.Class.{Class}
use Rattle.hy_core.specs.declared.class.Class.TheVariants.{Error}
use Rattle.hy_core.specs.declared.tree.FunName.{FunName}
use Rattle.hy_core.specs.BuiltIn.{answer, truth, no_clause, badarg, or_badarg, with_element}
use Rattle.hy_core.specs.Computation.{Input, Got, Lapsed, Born, Outcome, Values, Raised, Needs, NeedsPid, Spent, Wrong, Moment, Used, uses, StandsBefore, then_run, with_one, ended}
use Rattle.hy_core.specs.Evaluation.{Doing, Evaluated, eval, evaluated, run_of, denote, denote_all, holds, Callee, Top, Wait, body_of, text_term, conses, answer_end, value_end, local_callee, fail_reason}
use Rattle.hy_core.specs.Event.{Event, Sent, Spawned, Printed}
use Rattle.hy_core.specs.Match.{Env, Locals, lookup, bind_variables, match_all}
use Rattle.hy_core.specs.Resolved as r
use Rattle.hy_core.specs.Resolved.{FunctionTree, Patterns, Timeout, AtOnce, Never, Expression, Expressions, NoExpressions, MoreExpressions, Clauses, NoClauses, MoreClauses, Functions}

-- an expression with the environment in which it is evaluated
pub record Closed : Type 0 where
  pub env : Env
  pub body : Expression

-- the end with one value
abbrev pub one_value : Term → Outcome Term Class Wait
one_value t = Values (t ∷ [])

module _ (program : List FunctionTree) (atoms : List (List ℕ)) (pid : ℕ) where
  -- expressions from left to right, each of one value
  abbrev pub eval_all : (calls : ℕ) → Env → Expressions → List (Input Term) → Evaluated
  eval_all calls env es inputs =
      evaluated program atoms pid calls (denote_all atoms pid es env) inputs

  abbrev pub closed : Option Env → (Env → Bool) → Expression → Option Closed → Option Closed
  closed None guard body others = others
  closed (Some env) guard body others =
      if guard env then Some (record { env = env; body = body }) else others

  -- the body of the first clause whose patterns match and whose guard gives 'true'
  abbrev pub chosen : Clauses → List Term → Env → Option Closed
  chosen NoClauses ts env = None
  chosen (MoreClauses ps guard body cs) ts env = closed (match_all ps ts env)
      (λ env'. holds (denote atoms pid guard env')) body (chosen cs ts env)

  -- the body of a clause, or an end where there is none
  abbrev pub eval_chosen : Outcome Term Class Wait → Option Closed → (calls : ℕ)
      → List (Input Term) → Evaluated
  eval_chosen otherwise None calls inputs = ended calls inputs otherwise
  eval_chosen otherwise (Some c) calls inputs = eval program atoms pid calls c.env c.body inputs

  abbrev pub eval_in : Option Env → Expression → (calls : ℕ) → List (Input Term) → Evaluated
  eval_in None e calls inputs = ended calls inputs Wrong
  eval_in (Some env) e calls inputs = eval program atoms pid calls env e inputs

  -- a call costs one call, and gives one value
  abbrev pub called : Callee → List Term → (calls : ℕ) → List (Input Term) → Evaluated
  called f ts zero inputs = ended zero inputs Spent
  called f ts (suc calls) inputs =
      then_run (evaluated program atoms pid calls (body_of program atoms pid f ts) inputs)
      (with_one (λ t m jns. ended m jns (one_value t)))

  abbrev pub called_if : Option Callee → List Term → (calls : ℕ) → List (Input Term) → Evaluated
  called_if None ts calls inputs = ended calls inputs Wrong
  called_if (Some f) ts calls inputs = called f ts calls inputs

  -- a spawn is an event, and then waits for the pid of the child
  abbrev pub spawned : (function : ℕ) → List Term → (calls : ℕ) → List (Input Term) → Evaluated
  spawned f ts calls [] =
      record { events = Spawned f ts ∷ []; calls = calls; inputs = []; end = NeedsPid }
  spawned f ts calls (Born child ∷ inputs) = record {
    events = Spawned f ts ∷ [];
    calls = calls;
    inputs = inputs;
    end = one_value (term.Pid child);
  }
  spawned f ts calls (Got t ∷ inputs) =
      record { events = Spawned f ts ∷ []; calls = calls; inputs = Got t ∷ inputs; end = Wrong }
  spawned f ts calls (Lapsed ∷ inputs) =
      record { events = Spawned f ts ∷ []; calls = calls; inputs = Lapsed ∷ inputs; end = Wrong }

  abbrev pub lapsed : Timeout → Env → Expression → (calls : ℕ) → List (Input Term) → Evaluated
  lapsed AtOnce env e calls inputs = eval program atoms pid calls env e inputs
  lapsed Never env e calls inputs = ended calls inputs Wrong

  -- a receive uses one input: a message that a clause accepts, or a lapse
  abbrev pub received : Env → Clauses → Timeout → Expression → (calls : ℕ)
      → List (Input Term) → Evaluated
  received env cs timeout e calls [] =
      ended calls [] (Needs (record { env = env; clauses = cs; timeout = timeout }))
  received env cs timeout e calls (Got t ∷ inputs) =
      eval_chosen Wrong (chosen cs (t ∷ []) env) calls inputs
  received env cs timeout e calls (Lapsed ∷ inputs) = lapsed timeout env e calls inputs
  received env cs timeout e calls (Born child ∷ inputs) = ended calls (Born child ∷ inputs) Wrong

  abbrev pub sent_to : Term → Term → (calls : ℕ) → List (Input Term) → Evaluated
  sent_to (term.Pid to) t calls inputs =
      record { events = Sent to t ∷ []; calls = calls; inputs = inputs; end = one_value t }
  sent_to _ t calls inputs = ended calls inputs (answer_end badarg)

  abbrev pub sent : List Term → (calls : ℕ) → List (Input Term) → Evaluated
  sent (to ∷ t ∷ []) calls inputs = sent_to to t calls inputs
  sent _ calls inputs = ended calls inputs Wrong

  abbrev pub built : (List Term → Term) → List Term → (calls : ℕ) → List (Input Term) → Evaluated
  built f ts calls inputs = ended calls inputs (one_value (f ts))

-- a part that does not give values gives its end to the whole, and what follows it does not happen
abbrev pub PartEndsWhole : Type 0
PartEndsWhole = (program : List FunctionTree) (atoms : List (List ℕ)) (pid : ℕ) (part : Evaluated)
    (follows : List Term → ℕ → List (Input Term) → Evaluated)
    → ((ts : List Term) → part.end ≡ Values ts → ⊥) → then_run part follows ≡ part

-- where a part gives values its events stand before those of what follows
abbrev pub PartComesFirst : Type 0
PartComesFirst = (program : List FunctionTree) (atoms : List (List ℕ)) (pid : ℕ)
    (events : List (Event Term)) (calls : ℕ) (inputs : List (Input Term)) (ts : List Term)
    (follows : List Term → ℕ → List (Input Term) → Evaluated)
    → (then_run (record { events = events; calls = calls; inputs = inputs; end = Values ts })
    follows).events ≡ events ++ (follows ts calls inputs).events

module _ (program : List FunctionTree) (atoms : List (List ℕ)) (pid : ℕ) (calls : ℕ) (env : Env)
    (inputs : List (Input Term)) where
  abbrev eval_now : Expression → Evaluated
  eval_now e = eval program atoms pid calls env e inputs

  abbrev gives : Term → Evaluated
  gives t = ended calls inputs (one_value t)

  -- numbers, atoms, nil and strings give themselves, a variable what it is bound to
  pub record GiveThemselves : Type 0 where
    pub number : (n : ℤ) → eval_now (r.Int n) ≡ gives (term.Int n)
    pub atom : (a : ℕ) → eval_now (r.Atom a) ≡ gives (term.Atom a)
    pub nil : eval_now r.Nil ≡ gives term.Nil
    pub text : (site : ℕ) (bytes : List ℕ) → eval_now (r.Text site bytes) ≡ gives (text_term bytes)
    pub variable : (x : ℕ) → eval_now (r.Variable x) ≡ ended calls inputs (value_end (lookup x env))

  -- tuples, lists and values side by side: their parts from left to right
  pub record BuildFromParts : Type 0 where
    pub none : eval_all program atoms pid calls env NoExpressions inputs ≡ ended calls
        inputs (Values [])
    pub more : (e : Expression) (es : Expressions) → eval_all program atoms pid calls env
        (MoreExpressions e es) inputs ≡ then_run (eval_now e)
        (with_one (λ t m jns. then_run (eval_all program atoms pid m env es jns)
        (λ ts l kns. ended l kns (Values (t ∷ ts)))))
    pub tuple : (site : ℕ) (es : Expressions) → eval_now (r.Tuple site es) ≡ then_run
        (eval_all program atoms pid calls env es inputs)
        (built program atoms pid (λ ts. term.Tuple (terms_of ts)))
    pub list : (site : ℕ) (es : Expressions) (e : Expression) → eval_now (r.ListOf site es e)
        ≡ then_run (eval_all program atoms pid calls env es inputs)
        (λ ts m jns. then_run (eval program atoms pid m env e jns)
        (with_one (λ t l kns. ended l kns (one_value (conses ts t)))))
    pub values : (es : Expressions) → eval_now (r.Values es) ≡ eval_all program atoms pid
        calls env es inputs

  -- a let binds its variables to the values, a do drops the value of its first part, a letrec binds
  -- names
  pub record GoOn : Type 0 where
    pub «let» : (xs : List ℕ) (e b : Expression) → eval_now (r.Let xs e b) ≡ then_run (eval_now e)
        (λ ts m jns. eval_in program atoms pid (bind_variables xs ts env) b m jns)
    pub «do» : (e b : Expression) → eval_now (r.Do e b) ≡ then_run (eval_now e)
        (with_one (λ t m jns. eval program atoms pid m env b jns))
    pub letrec : (fs : Functions) (e : Expression) → eval_now (r.Letrec fs e) ≡ eval program atoms
        pid calls (Locals fs env) e inputs

  -- a case goes on with the first clause whose patterns match and whose guard holds, and raises
  -- without one
  abbrev pub CaseChooses : Type 0
  CaseChooses = (e : Expression) (cs : Clauses) → eval_now (r.Case e cs) ≡ then_run (eval_now e)
      (λ ts m jns. eval_chosen program atoms pid (Raised Error no_clause)
      (chosen program atoms pid cs ts env) m jns)

  -- a call of a function costs one call, and there is an end where none is left
  pub record CallsCost : Type 0 where
    pub top : (f : ℕ) (es : Expressions) → eval_now (r.Call (r.Function f) es) ≡ then_run
        (eval_all program atoms pid calls env es inputs) (called program atoms pid (Top f))
    pub local : (f : FunName) (es : Expressions) → eval_now (r.Call (r.Local f) es)
        ≡ then_run (eval_all program atoms pid calls env es inputs)
        (called_if program atoms pid (local_callee f env))

  -- a receive uses one input, and waits without one
  abbrev pub ReceiveUsesInput : Type 0
  ReceiveUsesInput = (cs : Clauses) (timeout : Timeout) (e : Expression)
      → eval_now (r.Receive cs timeout e) ≡ received program atoms pid env cs timeout e calls inputs

  -- the arguments of a built-in are all evaluated before anything is raised
  pub record BuiltInsAnswer : Type 0 where
    pub plain : (b : Bif) (es : Expressions) → eval_now (r.Call (r.BuiltIn b) es)
        ≡ then_run (eval_all program atoms pid calls env es inputs)
        (λ ts m jns. ended m jns (answer_end (answer atoms pid b ts)))
    pub setelement : (site : ℕ) (i t v : Expression)
        → eval_now (r.Call (r.Setelement site)
        (MoreExpressions i (MoreExpressions t (MoreExpressions v NoExpressions))))
        ≡ then_run (eval_now i)
        (with_one (λ x m jns. then_run (eval program atoms pid m env t jns)
        (with_one (λ y l kns. then_run (eval program atoms pid l env v kns)
        (with_one (λ z k lns. ended k lns (answer_end (or_badarg (with_element x y z)))))))))

  -- a send, a spawn and a print are events
  pub record EventsHappen : Type 0 where
    pub send : (node : ℕ) (es : Expressions) → eval_now (r.Call (r.Send node) es)
        ≡ then_run (eval_all program atoms pid calls env es inputs) (sent program atoms pid)
    pub spawn : (node f : ℕ) (es : Expressions) → eval_now (r.Call (r.Spawn node f) es)
        ≡ then_run (eval_all program atoms pid calls env es inputs) (spawned program atoms pid f)
    pub display : (node : ℕ) (e : Expression)
        → eval_now (r.Call (r.Display node) (MoreExpressions e NoExpressions)) ≡ then_run
        (eval_now e)
        (with_one (λ t m jns. record {
          events = Printed t ∷ [];
          calls = m;
          inputs = jns;
          end = one_value (truth true);
        }))

  -- error, exit and throw raise in their class; match_fail raises an error, whose reason it reads
  pub record Raise : Type 0 where
    pub raised : (class : Class) (e : Expression)
        → eval_now (r.Call (r.Raising class) (MoreExpressions e NoExpressions))
        ≡ then_run (eval_now e) (with_one (λ t m jns. ended m jns (Raised class t)))
    pub failed : (e : Expression) → eval_now (r.Call r.MatchFail (MoreExpressions e NoExpressions))
        ≡ then_run (eval_now e) (with_one (λ t m jns. ended m jns (Raised Error (fail_reason t))))

-- the events of a run begin with those of another
pub record Begins (before after : List (Event Term)) : Type 0 where
  pub more : List (Event Term)
  pub appended : after ≡ before ++ more

-- a run with more inputs, or with one call more, begins with the events before
pub record OnlyMoreHappens (program : List FunctionTree) (atoms : List (List ℕ)) (pid : ℕ)
    (e : Expression) (env : Env) (calls : ℕ) (inputs : List (Input Term)) : Type 0 where
  pub with_inputs : (more : List (Input Term))
      → Begins (eval program atoms pid calls env e inputs).events
      (eval program atoms pid calls env e (inputs ++ more)).events
  pub with_a_call : Begins (eval program atoms pid calls env e inputs).events
      (eval program atoms pid (suc calls) env e inputs).events

-- a run without inputs leaves none
abbrev pub NoInputsLeft : Type 0
NoInputsLeft = (program : List FunctionTree) (atoms : List (List ℕ)) (pid : ℕ) (e : Expression)
    (env : Env) (calls : ℕ) → (eval program atoms pid calls env e []).inputs ≡ []

-- at each input that a run uses, the run without it and what is later has done the same, and waits
-- for it
abbrev pub InputsAreDue : Type 0
InputsAreDue = (program : List FunctionTree) (atoms : List (List ℕ)) (pid : ℕ) (p : Doing)
    (calls : ℕ) (inputs : List (Input Term)) (before : List (Moment Term (Event Term)))
    (i : Input Term) (later : List (Moment Term (Event Term)))
    → (run_of program atoms pid calls p inputs).moments ≡ before ++ Used i ∷ later
    → StandsBefore (run_of program atoms pid calls p (uses before)) before i

-- a law of evaluation holds of each program, process, number of calls, environment and list of
-- inputs
abbrev pub Everywhere : (List FunctionTree → List (List ℕ) → ℕ → ℕ → Env → List (Input Term)
    → Type 0) → Type 0
Everywhere Law = (program : List FunctionTree) (atoms : List (List ℕ)) (pid : ℕ) (calls : ℕ)
    (env : Env) (inputs : List (Input Term)) → Law program atoms pid calls env inputs
