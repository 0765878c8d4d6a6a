-- What an expression means, by the Core Erlang 1.0.3 report: from left to right, as events, inputs
-- and how far it comes. The order from left to right, the reason 'no_clause', the reading of
-- match_fail and that a guard which raises does not hold are this project's own.
use Rattle.std.specs.Prelude.{ℕ, ◌==◌, List, [], ◌∷◌, slice_get, pos, Option, Some, None, Bool, true, false, if◌then◌else◌}
use Rattle.hy_terms.specs.Term as term
use Rattle.hy_terms.specs.Term.{Term, Terms, MoreTerms, terms_of}
use Rattle.hy_core.specs.declared.class.Class.{Class}
use Rattle.hy_core.specs.declared.class.Class.TheVariants.{Error}
use Rattle.hy_core.specs.declared.tree.FunName.{FunName}
use Rattle.hy_core.specs.Computation.{Computation, Give, Raise, Fault, Act, Call, Birth, Receive, bind, Input, Outcome, Values, Raised, Wrong, Run, run, Result, result_of}
use Rattle.hy_core.specs.Event.{Event, Sent, Spawned, Printed}
use Rattle.hy_core.specs.Resolved as r
use Rattle.hy_core.specs.Resolved.{Patterns, Head, BuiltIn, Function, Local, Setelement, Send, Spawn, Display, Raising, MatchFail, Timeout, AtOnce, Never, Expression, Expressions, NoExpressions, MoreExpressions, Clauses, NoClauses, MoreClauses, Functions, NoFunctions, MoreFunctions, FunctionTree, is_name}
use Rattle.hy_core.specs.Match.{Env, Empty, Bound, Locals, lookup, bind_variables, match_all}
use Rattle.hy_core.specs.BuiltIn.{Answer, Value, Raises, NoAnswer, answer, truth, badarg, no_clause, function_clause, with_element, or_badarg}

-- a function of the program, or of a letrec, with the environment of that letrec
pub data Callee : Type 0 where
  Top : (function : ℕ) → Callee
  Inner : FunName → Functions → Env → Callee

-- what a receive waits for
pub record Wait : Type 0 where
  pub env : Env
  pub clauses : Clauses
  pub timeout : Timeout

-- what a process still has to do
abbrev pub Doing : Type 0
Doing = Computation Term Class Callee (Event Term) Wait

-- one value
abbrev pub give : Term → Doing
give t = Give (t ∷ [])

-- one value goes on
abbrev pub single : (Term → Doing) → List Term → Doing
single k [] = Fault
single k (t ∷ []) = k t
single k (t ∷ u ∷ ts) = Fault

-- where as many values as variables are there
abbrev pub in_env : (Env → Doing) → Option Env → Doing
in_env k None = Fault
in_env k (Some env) = k env

-- a message that no clause accepts is no input of an accepted program
abbrev pub or_fault : Option Doing → Doing
or_fault None = Fault
or_fault (Some p) = p

-- a case without a clause raises
abbrev pub or_no_clause : Option Doing → Doing
or_no_clause None = Raise Error no_clause
or_no_clause (Some p) = p

-- a variable that is bound
abbrev pub value_of : Option Term → Doing
value_of None = Fault
value_of (Some t) = give t

-- the answer of a built-in
abbrev pub answered : Answer → Doing
answered (Value t) = give t
answered (Raises class reason) = Raise class reason
answered NoAnswer = Fault

-- the ends of an answer and of a variable
abbrev pub answer_end : Answer → Outcome Term Class Wait
answer_end (Value t) = Values (t ∷ [])
answer_end (Raises class reason) = Raised class reason
answer_end NoAnswer = Wrong

abbrev pub value_end : Option Term → Outcome Term Class Wait
value_end None = Wrong
value_end (Some t) = Values (t ∷ [])

-- the list of the bytes of a string
abbrev pub text_term : List ℕ → Term
text_term [] = term.Nil
text_term (c ∷ cs) = term.Cons (term.Int (pos c)) (text_term cs)

-- a list notation
abbrev pub conses : List Term → Term → Term
conses [] t = t
conses (h ∷ hs) t = term.Cons h (conses hs t)

-- a call of a function gives one value
abbrev pub call : Callee → List Term → Doing
call f ts = Call f ts (single give) Raise

abbrev pub defines : FunName → Functions → Bool
defines f NoFunctions = false
defines f (MoreFunctions g xs e fs) = if is_name g f then true else defines f fs

-- the innermost letrec that defines the name
abbrev pub local_callee : FunName → Env → Option Callee
local_callee f Empty = None
local_callee f (Bound x t env) = local_callee f env
local_callee f (Locals fs env) = if defines f fs then Some (Inner f fs env) else local_callee f env

abbrev pub call_if : Option Callee → List Term → Doing
call_if None ts = Fault
call_if (Some f) ts = call f ts

-- the reason of match_fail
abbrev pub fail_reason : Term → Term
fail_reason (term.Tuple (MoreTerms (term.Atom a) ts)) =
    if a == 6 then function_clause else term.Tuple (MoreTerms (term.Atom a) ts)
fail_reason t = t

-- a send is an event and gives its message; its target has to be a pid
abbrev pub send_to : Term → Term → Doing
send_to (term.Pid to) t = Act (Sent to t) (give t)
send_to _ t = answered badarg

abbrev pub send : List Term → Doing
send (to ∷ t ∷ []) = send_to to t
send _ = Fault

-- a print is an event and gives 'true'
abbrev pub display : List Term → Doing
display (t ∷ []) = Act (Printed t) (give (truth true))
display _ = Fault

-- error, exit and throw raise their argument
abbrev pub raise : Class → List Term → Doing
raise class (t ∷ []) = Raise class t
raise class _ = Fault

-- match_fail raises an error
abbrev pub fail : List Term → Doing
fail (t ∷ []) = Raise Error (fail_reason t)
fail _ = Fault

abbrev pub setelement : List Term → Doing
setelement (i ∷ t ∷ v ∷ []) = answered (or_badarg (with_element i t v))
setelement _ = Fault

-- the atom 'true' alone
abbrev pub is_true : Term → Bool
is_true (term.Atom a) = a == 0
is_true _ = false

-- a guard holds where it gives 'true'
abbrev pub holds : Doing → Bool
holds (Give (t ∷ [])) = is_true t
holds _ = false

-- this clause where it matches and its guard holds, else the others
abbrev pub first_of_two : Option Env → (Env → Bool) → (Env → Doing) → Option Doing → Option Doing
first_of_two None guard body others = others
first_of_two (Some env) guard body others = if guard env then Some (body env) else others

-- only a timeout of 0 lapses
abbrev pub lapse : Timeout → Doing → Doing
lapse AtOnce p = p
lapse Never p = Fault

module _ (atoms : List (List ℕ)) (pid : ℕ) where
  -- what a call does with its arguments
  abbrev pub act_on : Head → Env → List Term → Doing
  act_on (BuiltIn b) env ts = answered (answer atoms pid b ts)
  act_on (Function f) env ts = call (Top f) ts
  act_on (Local f) env ts = call_if (local_callee f env) ts
  act_on (Setelement site) env ts = setelement ts
  act_on (Send node) env ts = send ts
  act_on (Spawn node f) env ts = Act (Spawned f ts) (Birth (λ child. give (term.Pid child)))
  act_on (Display node) env ts = display ts
  act_on (Raising class) env ts = raise class ts
  act_on MatchFail env ts = fail ts

  abbrev mutual
    pub denote : Expression → Env → Doing
    denote (r.Int n) env = give (term.Int n)
    denote (r.Atom a) env = give (term.Atom a)
    denote r.Nil env = give term.Nil
    denote (r.Text site s) env = give (text_term s)
    denote (r.Variable x) env = value_of (lookup x env)
    denote (r.Tuple site es) env = bind (denote_all es env) (λ ts. give (term.Tuple (terms_of ts)))
    denote (r.ListOf site es e) env =
        bind (denote_all es env) (λ ts. bind (denote e env) (single (λ t. give (conses ts t))))
    denote (r.Values es) env = denote_all es env
    denote (r.Let xs e b) env =
        bind (denote e env) (λ ts. in_env (denote b) (bind_variables xs ts env))
    denote (r.Do e b) env = bind (denote e env) (single (λ t. denote b env))
    denote (r.Case e cs) env = bind (denote e env) (λ ts. or_no_clause (choose cs ts env))
    denote (r.Letrec fs e) env = denote e (Locals fs env)
    denote (r.Call head es) env = bind (denote_all es env) (act_on head env)
    denote (r.Receive cs timeout e) env =
        Receive (record { env = env; clauses = cs; timeout = timeout })
        (λ t. or_fault (choose cs (t ∷ []) env)) (lapse timeout (denote e env))
    denote r.Refused env = Fault

    -- one value each, from left to right
    pub denote_all : Expressions → Env → Doing
    denote_all NoExpressions env = Give []
    denote_all (MoreExpressions e es) env =
        bind (denote e env) (single (λ t. bind (denote_all es env) (λ ts. Give (t ∷ ts))))

    -- the first clause whose patterns match and whose guard holds: what its body does
    pub choose : Clauses → List Term → Env → Option Doing
    choose NoClauses ts env = None
    choose (MoreClauses ps g b cs) ts env = first_of_two (match_all ps ts env)
        (λ env'. holds (denote g env')) (λ env'. denote b env') (choose cs ts env)

-- the function of a letrec
abbrev pub function_named : FunName → Functions → Option FunctionTree
function_named f NoFunctions = None
function_named f (MoreFunctions g xs e fs) =
    if is_name g f then Some (record { parameters = xs; body = e }) else function_named f fs

-- events, calls left, inputs left, and how far it came
abbrev pub Evaluated : Type 0
Evaluated = Result Term Class (Event Term) Wait

module _ (program : List FunctionTree) (atoms : List (List ℕ)) (pid : ℕ) where
  abbrev pub enter : Option FunctionTree → List Term → Env → Doing
  enter None ts env = Fault
  enter (Some f) ts env = in_env (denote atoms pid f.body) (bind_variables f.parameters ts env)

  -- the body of a function, with its arguments
  abbrev pub body_of : Callee → List Term → Doing
  body_of (Top f) ts = enter (slice_get program f) ts Empty
  body_of (Inner f fs env) ts = enter (function_named f fs) ts (Locals fs env)

  -- a computation, with so many calls and these inputs: a call does nothing that others see
  abbrev pub run_of : (calls : ℕ) → Doing → List (Input Term) → Run Term Class (Event Term) Wait
  run_of calls p inputs = run (λ e. e) [] body_of calls p inputs

  abbrev pub evaluated : (calls : ℕ) → Doing → List (Input Term) → Evaluated
  evaluated calls p inputs = result_of (run_of calls p inputs)

  -- an expression
  abbrev pub eval : (calls : ℕ) → Env → Expression → List (Input Term) → Evaluated
  eval calls env e inputs = evaluated calls (denote atoms pid e env) inputs

abbrev pub is_some : {A : Type 0} → Option A → Bool
is_some None = false
is_some (Some a) = true

-- some clause of the receive accepts the message
abbrev pub accepts : (atoms : List (List ℕ)) (pid : ℕ) → Wait → Term → Bool
accepts atoms pid wait t = is_some (choose atoms pid wait.clauses (t ∷ []) wait.env)
