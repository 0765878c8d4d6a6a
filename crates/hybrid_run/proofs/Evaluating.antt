-- What an arithmetic expression comes to, from what its parts come to.
use Rattle.std.proofs.Common.{◌≡◌, ◌⊎◌, ℕ, ℤ, List, [], ◌∷◌, ◌++◌, Some, refl, sym, ap, subst, ◌∙◌, append_assoc, inl, inr, slice_get, length, get_or, arith, Ok, Err}
use Rattle.std.specs.Prelude.{Result as Answer, IfOk}
use Rattle.std.proofs.lemmas.List.{append-nil}
use Rattle.std.specs.Prelude.{unwrap_or}
use Rattle.hy_terms.specs.Term.{Term}
use Rattle.hy_terms.specs.Naming.{text_of}
use Rattle.hybrid_run.specs.Built.{IsBound, IsClosed, the_erlang, the_plus, the_display}
use Rattle.hy_core.specs.BuiltIn.{answer}
use Rattle.hy_core.specs.Computation.{Input, Result, then_run, with_one}
use Rattle.hy_core.specs.Evaluation.{Wait, answer_end, value_end}
use Rattle.hy_core.specs.Event.{Event, Printed}
use Rattle.hy_core.specs.Match.{Env, Bound, lookup}
use Rattle.hy_core.specs.Supplied.{behind_event}
use Rattle.hybrid_run.specs.Meaning.{meaning, supply_after}
use Rattle.hy_core.specs.declared.bif.Bif.TheVariants.{Add}
use Rattle.hy_core.specs.declared.class.Class.{Class}
use Rattle.hy_core.specs.declared.tree.Expr.{Expr}
use Rattle.hy_core.specs.declared.tree.Expr.TheVariants as e
use Rattle.hybrid_run.proofs.BuiltParts.{atom_same, let_parts, do_parts, call_parts, IsDisplay, IsSum}
use Rattle.hybrid_run.proofs.Meanings.{meaning-Int, meaning-Var, meaning-Let, meaning-Do, meaning-plus, meaning-display}
use Rattle.hybrid_run.specs.Arithmetic.{term_of, outcome_of, env_of, variables_of, displays, Evaluates, EvaluatesUnder, EvaluatesCall}
use Rattle.hybrid_run.specs.declared.evaluate.Binding.{Binding}
use Rattle.hybrid_run.specs.declared.value.Value.{Value}
use Rattle.hybrid_run.specs.declared.value.Value.TheVariants.{Int, True}
use Rattle.hybrid_run.specs.declared.value.Reason.{Reason}
use Rattle.hybrid_run.specs.declared.value.Ending.{Ending}
use Rattle.hybrid_run.specs.declared.value.Ending.TheVariants.{Gives, Raises}
use Rattle.hybrid_run.proofs.Bindings.{env_push, variables_push}

abbrev Coming : Type 0
Coming = Result Term Class (Event Term) Wait

-- these values were displayed, and it ends so
abbrev came : List Value → Ending → ℕ → List (Input Term) → Coming
came values ending n ins = record { events = displays values; calls = n; inputs = ins; end = outcome_of ending }

displays-append : (vs us : List Value) → displays vs ++ displays us ≡ displays (vs ++ us)
displays-append [] us = refl
displays-append (v ∷ vs) us = ap (λ (k : List (Event Term)). Printed (term_of v) ∷ k) (displays-append vs us)

-- a part that gives a value goes on
then_gives : (vs us : List Value) (v : Value) (ending : Ending) (n : ℕ) (ins : List (Input Term)) (k : Term → ℕ → List (Input Term) → Coming) → k (term_of v) n ins ≡ came us ending n ins → then_run (came vs (Gives v) n ins) (with_one k) ≡ came (vs ++ us) ending n ins
then_gives vs us v ending n ins k h =
    let on : Coming → Coming = λ r. record { events = displays vs ++ r.events; calls = r.calls; inputs = r.inputs; end = r.end } in
    let all : List (Event Term) → Coming = λ evs. record { events = evs; calls = n; inputs = ins; end = outcome_of ending } in
    ap on h ∙ ap all (displays-append vs us)

text_at : (atoms : List (List ℕ)) (a : ℕ) (text : List ℕ) → slice_get atoms a ≡ Some text → text_of atoms a ≡ text
text_at atoms a text h = ap (λ o. unwrap_or o []) h

more_values : (before mid now vs us : List Value) → mid ≡ before ++ vs → now ≡ mid ++ us → now ≡ before ++ (vs ++ us)
more_values before mid now vs us p q = q ∙ ap (λ (k : List Value). k ++ us) p ∙ append_assoc before vs us

pub int_evaluates : (n : ℤ) (bindings : List Binding) (before : List Value) → Evaluates (e.Int n) bindings before before (Gives (Int n))
int_evaluates n bindings before = ([], sym (append-nil before), record { means = λ program atoms names current pid locals supply calls inputs built. meaning-Int program atoms names current pid locals supply calls (env_of bindings) n inputs })

pub variable_evaluates : (x : ℕ) (v : Value) (bindings : List Binding) (before : List Value) → lookup x (env_of bindings) ≡ Some (term_of v) → Evaluates (e.Var x) bindings before before (Gives v)
variable_evaluates x v bindings before found = (
  [],
  sym (append-nil before),
  record {
    means = λ program atoms names current pid locals supply calls inputs built.
        meaning-Var program atoms names current pid locals supply calls (env_of bindings) x inputs ∙ ap (λ o. record { events = []; calls = calls; inputs = inputs; end = value_end o }) found;
  },
)

pub do_gives : (x y : Expr) (bindings : List Binding) (before mid now : List Value) (v : Value) (ending : Ending) → Evaluates x bindings before mid (Gives v) → Evaluates y bindings mid now ending → Evaluates (e.Do x y) bindings before now ending
do_gives x y bindings before mid now v ending (vs, p, first) (us, q, second) = (
  vs ++ us,
  more_values before mid now vs us p q,
  record {
    means = λ program atoms names current pid locals supply calls inputs built.
        let parts = do_parts names.atoms IsBound x y built in
        let rest = second.means program atoms names current pid locals (supply_after names current locals supply x) calls inputs parts.1 in
        meaning-Do program atoms names current pid locals supply calls (env_of bindings) x y inputs
        ∙ ap (λ r. then_run r (with_one (λ t m jns. meaning program atoms names current pid locals (supply_after names current locals supply x) m (env_of bindings) y jns))) (first.means program atoms names current pid locals supply calls inputs parts.0)
        ∙ then_gives vs us v ending calls inputs (λ t m jns. meaning program atoms names current pid locals (supply_after names current locals supply x) m (env_of bindings) y jns) rest;
  },
)

pub do_raises : (x y : Expr) (bindings : List Binding) (before now : List Value) (r : Reason) → Evaluates x bindings before now (Raises r) → Evaluates (e.Do x y) bindings before now (Raises r)
do_raises x y bindings before now r (vs, p, first) = (
  vs,
  p,
  record {
    means = λ program atoms names current pid locals supply calls inputs built.
        meaning-Do program atoms names current pid locals supply calls (env_of bindings) x y inputs
        ∙ ap (λ r. then_run r (with_one (λ t m jns. meaning program atoms names current pid locals (supply_after names current locals supply x) m (env_of bindings) y jns))) (first.means program atoms names current pid locals supply calls inputs (do_parts names.atoms IsBound x y built).0);
  },
)

let_gives_one : (var : ℕ) (x y : Expr) (bindings : List Binding) (before mid now : List Value) (v : Value) (ending : Ending) → Evaluates x bindings before mid (Gives v) → Evaluates y (bindings ++ record { var = var; value = v } ∷ []) mid now ending → Evaluates (e.Let (var ∷ []) x y) bindings before now ending
let_gives_one var x y bindings before mid now v ending (vs, p, first) (us, q, second) = (
  vs ++ us,
  more_values before mid now vs us p q,
  record {
    means = λ program atoms names current pid locals supply calls inputs built.
        let parts = let_parts names.atoms IsBound (var ∷ []) x y built in
        let binding : Binding = record { var = var; value = v } in
        let this : parts.0 ≡ var = (let same : var ∷ [] ≡ parts.0 ∷ [] = parts.1 in cc) in
        let bound = subst (λ (k : List ℕ). IsClosed names.atoms k y) (ap (λ (k : ℕ). k ∷ variables_of bindings) this ∙ sym (variables_push bindings binding)) parts.3 in
        let behind = supply_after names current locals supply x in
        let rest = second.means program atoms names current pid locals behind calls inputs bound in
        let env = env_push bindings binding in
        meaning-Let program atoms names current pid locals supply calls (env_of bindings) var x y inputs
        ∙ ap (λ r. then_run r (with_one (λ t m jns. meaning program atoms names current pid locals behind m (Bound var t (env_of bindings)) y jns))) (first.means program atoms names current pid locals supply calls inputs parts.2)
        ∙ then_gives vs us v ending calls inputs (λ t m jns. meaning program atoms names current pid locals behind m (Bound var t (env_of bindings)) y jns) (ap (λ (k : Env). meaning program atoms names current pid locals behind calls k y inputs) (sym env) ∙ rest);
  },
)

pub let_gives : (xs : List ℕ) (x y : Expr) (bindings : List Binding) (before mid now : List Value) (v : Value) (ending : Ending) → Evaluates x bindings before mid (Gives v) → EvaluatesUnder xs v y bindings mid now ending → Evaluates (e.Let xs x y) bindings before now ending
let_gives [] x y bindings before mid now v ending first second = absurd second
let_gives (var ∷ []) x y bindings before mid now v ending first second = let_gives_one var x y bindings before mid now v ending first second
let_gives (var ∷ w ∷ xs) x y bindings before mid now v ending first second = absurd second

let_raises_one : (var : ℕ) (x y : Expr) (bindings : List Binding) (before now : List Value) (r : Reason) → Evaluates x bindings before now (Raises r) → Evaluates (e.Let (var ∷ []) x y) bindings before now (Raises r)
let_raises_one var x y bindings before now r (vs, p, first) = (
  vs,
  p,
  record {
    means = λ program atoms names current pid locals supply calls inputs built.
        meaning-Let program atoms names current pid locals supply calls (env_of bindings) var x y inputs
        ∙ ap (λ r. then_run r (with_one (λ t m jns. meaning program atoms names current pid locals (supply_after names current locals supply x) m (Bound var t (env_of bindings)) y jns))) (first.means program atoms names current pid locals supply calls inputs (let_parts names.atoms IsBound (var ∷ []) x y built).2);
  },
)

-- only a `let` of one variable is of the arithmetic forms
pub let_raises : (xs : List ℕ) (x y : Expr) (bindings : List Binding) (before now : List Value) (r : Reason) → Evaluates x bindings before now (Raises r) → Evaluates (e.Let xs x y) bindings before now (Raises r)
let_raises (var ∷ []) x y bindings before now r first = let_raises_one var x y bindings before now r first
let_raises [] x y bindings before now r (vs, p, first) = (
  vs,
  p,
  record {
    means = λ program atoms names current pid locals supply calls inputs built.
        let parts = let_parts names.atoms IsBound [] x y built in
        absurd (let bad : [] ≡ parts.0 ∷ [] = parts.1 in cc);
  },
)
let_raises (var ∷ w ∷ xs) x y bindings before now r (vs, p, first) = (
  vs,
  p,
  record {
    means = λ program atoms names current pid locals supply calls inputs built.
        let parts = let_parts names.atoms IsBound (var ∷ w ∷ xs) x y built in
        absurd (let bad : var ∷ w ∷ xs ≡ parts.0 ∷ [] = parts.1 in cc);
  },
)

-- ---- calls

-- a call with one argument, whose module and name are atoms, is `display`
one_argument : (atoms : List (List ℕ)) (bound : List ℕ) (m k : ℕ) (x : Expr) → IsClosed atoms bound (e.Call (e.Atom m) (e.Atom k) (x ∷ [])) → (slice_get atoms m ≡ Some the_erlang) × (slice_get atoms k ≡ Some the_display) × IsClosed atoms bound x
one_argument atoms bound m k x built = shown (call_parts atoms IsBound (e.Atom m) (e.Atom k) (x ∷ []) built)
  where
    shown : IsDisplay atoms IsBound bound (e.Atom m) (e.Atom k) (x ∷ []) ⊎ IsSum atoms IsBound bound (e.Atom m) (e.Atom k) (x ∷ []) → (slice_get atoms m ≡ Some the_erlang) × (slice_get atoms k ≡ Some the_display) × IsClosed atoms bound x
    shown (inl d) = (
      subst (λ (n : ℕ). slice_get atoms n ≡ Some the_erlang) (sym (atom_same m d.module_atom d.is_module)) d.erlang,
      subst (λ (n : ℕ). slice_get atoms n ≡ Some the_display) (sym (atom_same k d.name_atom d.is_name)) d.name,
      (let same : d.part ≡ x = (let args : x ∷ [] ≡ d.part ∷ [] = d.is_args in cc) in subst (λ (z : Expr). IsClosed atoms bound z) same d.built),
    )
    shown (inr s) = absurd (let bad : x ∷ [] ≡ s.left ∷ s.right ∷ [] = s.is_args in cc)

two_arguments : (atoms : List (List ℕ)) (bound : List ℕ) (m k : ℕ) (x y : Expr) → IsClosed atoms bound (e.Call (e.Atom m) (e.Atom k) (x ∷ y ∷ [])) → (slice_get atoms m ≡ Some the_erlang) × (slice_get atoms k ≡ Some the_plus) × IsClosed atoms bound x × IsClosed atoms bound y
two_arguments atoms bound m k x y built = added (call_parts atoms IsBound (e.Atom m) (e.Atom k) (x ∷ y ∷ []) built)
  where
    added : IsDisplay atoms IsBound bound (e.Atom m) (e.Atom k) (x ∷ y ∷ []) ⊎ IsSum atoms IsBound bound (e.Atom m) (e.Atom k) (x ∷ y ∷ []) → (slice_get atoms m ≡ Some the_erlang) × (slice_get atoms k ≡ Some the_plus) × IsClosed atoms bound x × IsClosed atoms bound y
    added (inl d) = absurd (let bad : x ∷ y ∷ [] ≡ d.part ∷ [] = d.is_args in cc)
    added (inr s) = (
      subst (λ (n : ℕ). slice_get atoms n ≡ Some the_erlang) (sym (atom_same m s.module_atom s.is_module)) s.erlang,
      subst (λ (n : ℕ). slice_get atoms n ≡ Some the_plus) (sym (atom_same k s.name_atom s.is_name)) s.name,
      (let same : s.left ≡ x = (let args : x ∷ y ∷ [] ≡ s.left ∷ s.right ∷ [] = s.is_args in cc) in subst (λ (z : Expr). IsClosed atoms bound z) same s.built_left),
      (let same : s.right ≡ y = (let args : x ∷ y ∷ [] ≡ s.left ∷ s.right ∷ [] = s.is_args in cc) in subst (λ (z : Expr). IsClosed atoms bound z) same s.built_right),
    )

pub display_gives : (x : Expr) (bindings : List Binding) (before mid : List Value) (v : Value) → Evaluates x bindings before mid (Gives v) → EvaluatesCall (x ∷ []) bindings before (mid ++ v ∷ []) (Gives True)
display_gives x bindings before mid v (vs, p, first) = λ m k. (
  vs ++ v ∷ [],
  ap (λ (u : List Value). u ++ v ∷ []) p ∙ append_assoc before vs (v ∷ []),
  record {
    means = λ program atoms names current pid locals supply calls inputs built.
        let parts = one_argument names.atoms (variables_of bindings) m k x built in
        meaning-display program atoms names current pid locals supply calls (env_of bindings) m k x inputs (text_at names.atoms m the_erlang parts.0) (text_at names.atoms k the_display parts.1)
        ∙ ap (λ r. then_run r (with_one (λ t l jns. record { events = Printed t ∷ []; calls = l; inputs = jns; end = outcome_of (Gives True) }))) (first.means program atoms names current pid locals (behind_event supply) calls inputs parts.2)
        ∙ then_gives vs (v ∷ []) v (Gives True) calls inputs (λ t l jns. record { events = Printed t ∷ []; calls = l; inputs = jns; end = outcome_of (Gives True) }) refl;
  },
)

pub display_raises : (x : Expr) (bindings : List Binding) (before now : List Value) (r : Reason) → Evaluates x bindings before now (Raises r) → EvaluatesCall (x ∷ []) bindings before now (Raises r)
display_raises x bindings before now r (vs, p, first) = λ m k. (
  vs,
  p,
  record {
    means = λ program atoms names current pid locals supply calls inputs built.
        let parts = one_argument names.atoms (variables_of bindings) m k x built in
        meaning-display program atoms names current pid locals supply calls (env_of bindings) m k x inputs (text_at names.atoms m the_erlang parts.0) (text_at names.atoms k the_display parts.1)
        ∙ ap (λ r. then_run r (with_one (λ t l jns. record { events = Printed t ∷ []; calls = l; inputs = jns; end = outcome_of (Gives True) }))) (first.means program atoms names current pid locals (behind_event supply) calls inputs parts.2);
  },
)

-- the sum of what both parts give
pub sum_gives : (x y : Expr) (bindings : List Binding) (before mid now : List Value) (v u : Value) (ending : Ending) → Evaluates x bindings before mid (Gives v) → Evaluates y bindings mid now (Gives u)
    → ((atoms : List (List ℕ)) (pid : ℕ) → outcome_of ending ≡ answer_end (answer atoms pid Add (term_of v ∷ term_of u ∷ []))) → EvaluatesCall (x ∷ y ∷ []) bindings before now ending
sum_gives x y bindings before mid now v u ending (vs, p, first) (us, q, second) added = λ m k. (
  vs ++ us,
  more_values before mid now vs us p q,
  record {
    means = λ program atoms names current pid locals supply calls inputs built.
        let parts = two_arguments names.atoms (variables_of bindings) m k x y built in
        let behind = supply_after names current locals supply x in
        let whole : Term → Term → ℕ → List (Input Term) → Coming = λ t u l kns. record { events = []; calls = l; inputs = kns; end = answer_end (answer atoms pid Add (t ∷ u ∷ [])) } in
        let after_first : Term → ℕ → List (Input Term) → Coming = λ t m jns. then_run (meaning program atoms names current pid locals behind m (env_of bindings) y jns) (with_one (whole t)) in
        let last : whole (term_of v) (term_of u) calls inputs ≡ came [] ending calls inputs = ap (λ o. record { events = []; calls = calls; inputs = inputs; end = o }) (sym (added atoms pid)) in
        let right : after_first (term_of v) calls inputs ≡ came us ending calls inputs
        = ap (λ r. then_run r (with_one (whole (term_of v)))) (second.means program atoms names current pid locals behind calls inputs parts.3)
        ∙ then_gives us [] u ending calls inputs (whole (term_of v)) last ∙ ap (λ (k : List Value). came k ending calls inputs) (append-nil us) in
        meaning-plus program atoms names current pid locals supply calls (env_of bindings) m k x y inputs (text_at names.atoms m the_erlang parts.0) (text_at names.atoms k the_plus parts.1)
        ∙ ap (λ r. then_run r (with_one after_first)) (first.means program atoms names current pid locals supply calls inputs parts.2)
        ∙ then_gives vs us v ending calls inputs after_first right;
  },
)

-- the right part raises
pub sum_right_raises : (x y : Expr) (bindings : List Binding) (before mid now : List Value) (v : Value) (r : Reason) → Evaluates x bindings before mid (Gives v) → Evaluates y bindings mid now (Raises r) → EvaluatesCall (x ∷ y ∷ []) bindings before now (Raises r)
sum_right_raises x y bindings before mid now v r (vs, p, first) (us, q, second) = λ m k. (
  vs ++ us,
  more_values before mid now vs us p q,
  record {
    means = λ program atoms names current pid locals supply calls inputs built.
        let parts = two_arguments names.atoms (variables_of bindings) m k x y built in
        let behind = supply_after names current locals supply x in
        let whole : Term → Term → ℕ → List (Input Term) → Coming = λ t u l kns. record { events = []; calls = l; inputs = kns; end = answer_end (answer atoms pid Add (t ∷ u ∷ [])) } in
        let after_first : Term → ℕ → List (Input Term) → Coming = λ t m jns. then_run (meaning program atoms names current pid locals behind m (env_of bindings) y jns) (with_one (whole t)) in
        let right : after_first (term_of v) calls inputs ≡ came us (Raises r) calls inputs
        = ap (λ r. then_run r (with_one (whole (term_of v)))) (second.means program atoms names current pid locals behind calls inputs parts.3) in
        meaning-plus program atoms names current pid locals supply calls (env_of bindings) m k x y inputs (text_at names.atoms m the_erlang parts.0) (text_at names.atoms k the_plus parts.1)
        ∙ ap (λ r. then_run r (with_one after_first)) (first.means program atoms names current pid locals supply calls inputs parts.2)
        ∙ then_gives vs us v (Raises r) calls inputs after_first right;
  },
)

-- the left part raises
pub sum_left_raises : (x y : Expr) (bindings : List Binding) (before now : List Value) (r : Reason) → Evaluates x bindings before now (Raises r) → EvaluatesCall (x ∷ y ∷ []) bindings before now (Raises r)
sum_left_raises x y bindings before now r (vs, p, first) = λ m k. (
  vs,
  p,
  record {
    means = λ program atoms names current pid locals supply calls inputs built.
        let parts = two_arguments names.atoms (variables_of bindings) m k x y built in
        let behind = supply_after names current locals supply x in
        let whole : Term → Term → ℕ → List (Input Term) → Coming = λ t u l kns. record { events = []; calls = l; inputs = kns; end = answer_end (answer atoms pid Add (t ∷ u ∷ [])) } in
        let after_first : Term → ℕ → List (Input Term) → Coming = λ t m jns. then_run (meaning program atoms names current pid locals behind m (env_of bindings) y jns) (with_one (whole t)) in
        meaning-plus program atoms names current pid locals supply calls (env_of bindings) m k x y inputs (text_at names.atoms m the_erlang parts.0) (text_at names.atoms k the_plus parts.1)
        ∙ ap (λ r. then_run r (with_one after_first)) (first.means program atoms names current pid locals supply calls inputs parts.2);
  },
)

-- a call is one of atoms, whose numbers its trees tell
pub call_evaluates : (m k : Expr) (args : List Expr) (bindings : List Binding) (before now : List Value) (ending : Ending) (a b : ℕ) → m ≡ e.Atom a → k ≡ e.Atom b → EvaluatesCall args bindings before now ending → Evaluates (e.Call m k args) bindings before now ending
call_evaluates m k args bindings before now ending a b p q h =
    subst (λ (z : Expr). Evaluates (e.Call z k args) bindings before now ending) (sym p) (subst (λ (z : Expr). Evaluates (e.Call (e.Atom a) z args) bindings before now ending) (sym q) (h a b))

-- the module and the name of a call are atoms
pub module_of : (atoms : List (List ℕ)) (bound : List ℕ) (m k : Expr) (args : List Expr) → IsClosed atoms bound (e.Call m k args) → (a b : ℕ) × (m ≡ e.Atom a) × (k ≡ e.Atom b)
module_of atoms bound m k args built = of_call (call_parts atoms IsBound m k args built)
  where
    of_call : IsDisplay atoms IsBound bound m k args ⊎ IsSum atoms IsBound bound m k args → (a b : ℕ) × (m ≡ e.Atom a) × (k ≡ e.Atom b)
    of_call (inl d) = (d.module_atom, d.name_atom, d.is_module, d.is_name)
    of_call (inr s) = (s.module_atom, s.name_atom, s.is_module, s.is_name)

-- ---- the same, of what is equal

pub moved : (x y : Expr) (bs cs : List Binding) (before now : List Value) (p q : Ending) → x ≡ y → bs ≡ cs → p ≡ q → Evaluates x bs before now p → Evaluates y cs before now q
moved x y bs cs before now p q e1 e2 e3 h =
    subst (λ (k : Ending). Evaluates y cs before now k) e3 (subst (λ (k : List Binding). Evaluates y k before now p) e2 (subst (λ (k : Expr). Evaluates k bs before now p) e1 h))

pub moved_under : (xs ys : List ℕ) (value : Value) (x y : Expr) (bs cs : List Binding) (before now : List Value) (p : Ending) → xs ≡ ys → x ≡ y → bs ≡ cs → EvaluatesUnder xs value x bs before now p → EvaluatesUnder ys value y cs before now p
moved_under xs ys value x y bs cs before now p e1 e2 e3 h =
    subst (λ (k : List Binding). EvaluatesUnder ys value y k before now p) e3 (subst (λ (k : Expr). EvaluatesUnder ys value k bs before now p) e2 (subst (λ (k : List ℕ). EvaluatesUnder k value x bs before now p) e1 h))

pub moved_call : (xs ys : List Expr) (bs : List Binding) (before now : List Value) (p : Ending) → xs ≡ ys → EvaluatesCall xs bs before now p → EvaluatesCall ys bs before now p
moved_call xs ys bs before now p e h = subst (λ (k : List Expr). EvaluatesCall k bs before now p) e h

pub if_ok : {A E : Type 0} {P Q : A → Type 0} (r : Answer A E) → ((x : A) → P x → Q x) → IfOk r P → IfOk r Q
if_ok (Ok x) f h = f x h
if_ok (Err e) f h = tt

-- lists of one and of two items, by their lengths
pub one_item : {A : Type 0} (xs : List A) (x : A) → length xs ≡ 1 → x ≡ get_or xs 0 x → xs ≡ x ∷ []
one_item [] x h is = absurd (omega arith)
one_item (y ∷ []) x h is = ap (λ k. k ∷ []) (sym is)
one_item (y ∷ z ∷ xs) x h is = absurd (omega arith)

pub two_items : {A : Type 0} (xs : List A) (x y : A) → length xs ≡ 2 → x ≡ get_or xs 0 x → y ≡ get_or xs 1 y → xs ≡ x ∷ y ∷ []
two_items [] x y h is also = absurd (omega arith)
two_items (z ∷ []) x y h is also = absurd (omega arith)
two_items (z ∷ w ∷ []) x y h is also = ap (λ k. k ∷ w ∷ []) (sym is) ∙ ap (λ k. x ∷ k ∷ []) (sym also)
two_items (z ∷ w ∷ u ∷ xs) x y h is also = absurd (omega arith)

-- a `display` of what its argument gives
pub shown_call : (args : List Expr) (x : Expr) (bindings : List Binding) (before mid now : List Value) (v : Value) (p ending : Ending) → args ≡ x ∷ [] → Evaluates x bindings before mid p → p ≡ Gives v → ending ≡ Gives True → now ≡ mid ++ v ∷ [] → EvaluatesCall args bindings before now ending
shown_call args x bindings before mid now v p ending is first gives ends shown =
    let given = display_gives x bindings before mid v (subst (λ (k : Ending). Evaluates x bindings before mid k) gives first) in
    let there = subst (λ (k : List Value). EvaluatesCall (x ∷ []) bindings before k (Gives True)) (sym shown) given in
    let so = subst (λ (k : Ending). EvaluatesCall (x ∷ []) bindings before now k) (sym ends) there in
    subst (λ (k : List Expr). EvaluatesCall k bindings before now ending) (sym is) so

-- the variable that is pushed is the one of the `let`
pub under_built : (atoms : List (List ℕ)) (var : ℕ) (vars : List ℕ) (value : Value) (env now : List Binding) (body : Expr) (d : ℕ) → vars ≡ var ∷ [] → now ≡ env ++ record { var = get_or vars 0 d; value = value } ∷ [] → IsClosed atoms (var ∷ variables_of env) body → IsClosed atoms (variables_of now) body
under_built atoms var vars value env now body d is pushed built =
    let this : get_or vars 0 d ≡ var = ap (λ (k : List ℕ). get_or k 0 d) is in
    let bound : variables_of now ≡ var ∷ variables_of env = ap variables_of pushed ∙ variables_push env (record { var = get_or vars 0 d; value = value }) ∙ ap (λ (k : ℕ). k ∷ variables_of env) this in
    subst (λ (k : List ℕ). IsClosed atoms k body) (sym bound) built
