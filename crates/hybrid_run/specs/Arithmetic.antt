-- What the evaluation of an arithmetic expression comes to: what it displays, and how it ends.
use Rattle.std.specs.Prelude.{◌≡◌, ℕ, List, [], ◌∷◌, ◌++◌, map, true}
use Rattle.hy_terms.specs.Term.{Term}
use Rattle.hy_terms.specs.Term as term
use Rattle.hy_terms.specs.TermText.{term_text}
use Rattle.hybrid_run.specs.Alone.{lines_of}
use Rattle.hybrid_run.specs.Built.{IsClosed}
use Rattle.hy_core.specs.BuiltIn.{own_atoms, truth}
use Rattle.hy_core.specs.Computation.{Input, Outcome, Values, Raised}
use Rattle.hy_core.specs.Evaluation.{Wait}
use Rattle.hy_core.specs.Event.{Event, Printed}
use Rattle.hy_core.specs.Match.{Env, Empty, Bound}
use Rattle.hybrid_run.specs.Meaning.{meaning}
use Rattle.hy_core.specs.Output.{outcome_line}
use Rattle.hy_core.specs.Resolve.{Names}
use Rattle.hy_core.specs.Resolved.{FunctionTree}
use Rattle.hy_core.specs.Supplied.{Supply}
use Rattle.hy_core.specs.declared.class.Class.{Class}
use Rattle.hy_core.specs.declared.class.Class.TheVariants.{Error}
use Rattle.hy_core.specs.declared.end.End.{End}
use Rattle.hy_core.specs.declared.end.End.TheVariants as ends
use Rattle.hy_core.specs.declared.end.End.TheVariants.{Ended}
use Rattle.hy_core.specs.declared.tree.Expr.{Expr}
use Rattle.hy_core.specs.declared.tree.Expr.TheVariants as e
use Rattle.hy_core.specs.declared.tree.FunName.{FunName}
use Rattle.hybrid_run.specs.declared.evaluate.Binding.{Binding}
use Rattle.hybrid_run.specs.declared.value.Value.{Value}
use Rattle.hybrid_run.specs.declared.value.Value.TheVariants.{Int, True}
use Rattle.hybrid_run.specs.declared.value.Reason.{Reason}
use Rattle.hybrid_run.specs.declared.value.Reason.TheVariants.{Badarith, SystemLimit}
use Rattle.hybrid_run.specs.declared.value.Ending.{Ending}
use Rattle.hybrid_run.specs.declared.value.Ending.TheVariants.{Gives, Raises}

abbrev pub term_of : Value → Term
term_of (Int n) = term.Int n
term_of True = truth true

-- the reasons by their numbers in the program's table of atoms
abbrev pub reason_of : Reason → Term
reason_of Badarith = term.Atom 2
reason_of SystemLimit = term.Atom 4

abbrev pub outcome_of : Ending → Outcome Term Class Wait
outcome_of (Gives value) = Values (term_of value ∷ [])
outcome_of (Raises reason) = Raised Error (reason_of reason)

-- the environment of bindings, the last of them innermost
abbrev pub env_onto : Env → List Binding → Env
env_onto env [] = env
env_onto env (b ∷ bs) = env_onto (Bound b.var (term_of b.value) env) bs

abbrev pub env_of : List Binding → Env
env_of = env_onto Empty

-- their variables, the last first
abbrev pub variables_onto : List ℕ → List Binding → List ℕ
variables_onto vs [] = vs
variables_onto vs (b ∷ bs) = variables_onto (b.var ∷ vs) bs

abbrev pub variables_of : List Binding → List ℕ
variables_of = variables_onto []

-- it displays these values, and then ends so; no call is made, and no input used
abbrev pub displays : List Value → List (Event Term)
displays values = map (λ v. Printed (term_of v)) values

-- under these bindings the expression displays these values and ends so, wherever it stands
pub record EvaluatesTo (e : Expr) (bindings : List Binding) (values : List Value) (ending : Ending)
    : Type 0 where
  pub means : (program : List FunctionTree) (atoms : List (List ℕ)) (names : Names)
      (current pid : ℕ) (locals : List FunName) (supply : Supply) (calls : ℕ)
      (inputs : List (Input Term))
      → IsClosed names.atoms (variables_of bindings) e
      → meaning program atoms names current pid locals supply calls (env_of bindings) e inputs
      ≡ record { events = displays values; calls = calls; inputs = inputs; end = outcome_of ending }

-- the values printed behind those before are what the expression displays, and it ends so
abbrev pub Evaluates : Expr → List Binding → List Value → List Value → Ending → Type 0
Evaluates e bindings before now ending =
    (values : List Value) × (now ≡ before ++ values) × EvaluatesTo e bindings values ending

-- the body of a `let`, where its one variable is bound to the value
abbrev pub EvaluatesUnder : List ℕ → Value → Expr
    → List Binding → List Value → List Value → Ending → Type 0
EvaluatesUnder (var ∷ []) value body bindings before now ending =
    Evaluates body (bindings ++ record { var = var; value = value } ∷ []) before now ending
EvaluatesUnder _ value body bindings before now ending = ⊥

-- the arguments of a call: one of `display`, two of `+`
abbrev pub IsCall : List (List ℕ) → List ℕ → List Expr → Type 0
IsCall atoms bound (x ∷ []) = IsClosed atoms bound x
IsCall atoms bound (x ∷ y ∷ []) = IsClosed atoms bound x × IsClosed atoms bound y
IsCall atoms bound _ = ⊥

-- what a call comes to, whatever the numbers of its module and its name
abbrev pub EvaluatesCall : List Expr → List Binding → List Value → List Value → Ending → Type 0
EvaluatesCall args bindings before now ending =
    (m k : ℕ) → Evaluates (e.Call (e.Atom m) (e.Atom k) args) bindings before now ending

-- ---- what is written

-- the text of a value, and of a reason
abbrev pub value_text : Value → List ℕ
value_text value = term_text own_atoms (term_of value)

abbrev pub reason_text : Reason → List ℕ
reason_text reason = term_text own_atoms (reason_of reason)

abbrev pub end_of : Ending → End
end_of (Gives value) = Ended (value_text value)
end_of (Raises reason) = ends.Raised Error (reason_text reason)

-- the status of the program for an ending
abbrev pub status_of : Ending → ℕ
status_of (Gives value) = 0
status_of (Raises reason) = 1

-- what was displayed, each text on a line of its own
abbrev pub printed_lines : List Value → List ℕ
printed_lines values = lines_of (map value_text values)

-- the output of the one process: what it displayed, and then its outcome line
abbrev pub output_of : List Value → Ending → List ℕ
output_of values ending = printed_lines values ++ outcome_line 0 (end_of ending)
