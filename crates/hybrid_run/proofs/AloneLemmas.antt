-- The run of a process that neither spawns nor receives, and only prints.
use Rattle.std.proofs.Common.{◌≡◌, ℕ, zero, suc, List, [], ◌∷◌, ◌++◌, map, length, Option, Some, None, if◌then◌else◌, refl, sym, ap, ◌∙◌, append_assoc, eq-eqb, ◌+◌, arith}
use Rattle.std.proofs.lemmas.List.{append-nil, length-append, length-map}
use Rattle.std.specs.Prelude.{slice_get}
use Rattle.hy_core.specs.declared.class.Class.{Class}
use Rattle.hy_core.specs.declared.step.Item.TheVariants as item
use Rattle.hy_core.specs.declared.step.Step.{Step}
use Rattle.hy_terms.specs.Term.{Term}
use Rattle.hy_terms.specs.TermText.{term_text}
use Rattle.hy_core.specs.declared.end.Cause.{Cause}
use Rattle.hy_core.specs.declared.end.End.TheVariants.{Ended, Raised}
use Rattle.hybrid_run.specs.Alone.{lines_of}
use Rattle.hy_core.specs.Computation as outcome
use Rattle.hy_core.specs.Computation.{Input, Values, Result}
use Rattle.hy_core.specs.Evaluation.{Evaluated}
use Rattle.hy_core.specs.Event.{Event, Printed}
use Rattle.hy_core.specs.FullRun.{IsFullRun, runs_of, behaviour_of}
use Rattle.hy_core.specs.Machine.{Behaviour, Process, Configuration, IsThrough, after_steps, after_step, event_step, start, if_at}
use Rattle.hy_core.specs.Output.{outcome_line}
use Rattle.hy_core.specs.Resolved.{FunctionTree}

-- the events of pid 0 at so many places, from this place on
abbrev pub events_from : (place : ℕ) → (count : ℕ) → List Step
events_from place zero = []
events_from place (suc count) = record { pid = 0; item = item.Event place } ∷ events_from (suc place) count

pub if_at_same : {A : Type 0} (n : ℕ) (x : A) → if_at n n x ≡ Some x
if_at_same n x = ap (λ b. if b then Some x else None) (eq-eqb n n refl)

-- the place behind what is past
next_of : {A : Type 0} (past : List A) (x : A) (more : List A) → slice_get (past ++ x ∷ more) (length past) ≡ Some x
next_of [] x more = refl
next_of (y ∷ past) x more = next_of past x more

counted : {A : Type 0} → ℕ → List A → ℕ
counted n [] = n
counted n (x ∷ xs) = counted (suc n) xs

-- the process after so many of its events, which printed this
abbrev pub alone : {V : Type 0} → (main done : ℕ) → (output : List ℕ) → Configuration V
alone main done output =
    record { processes = record { pid = 0; function = main; arguments = []; inputs = []; done = done; mailbox = [] } ∷ []; events = done; output = output }

module _ {V W : Type 0} (behaviour : Behaviour V W) where
  abbrev steps : List Step → Option (Configuration V) → Option (Configuration V)
  steps = after_steps behaviour

  one_event : (main : ℕ) (events : List (Event V)) (done : ℕ) (t : V) (output : List ℕ) → (behaviour.runs 0 main [] []).events ≡ events → slice_get events done ≡ Some (Printed t) → after_step behaviour (record { pid = 0; item = item.Event done }) (alone main done output) ≡ Some (alone main (suc done) (output ++ (behaviour.text_of t ++ 10 ∷ [])))
  one_event main events done t output p q =
      let process : Process V = record { pid = 0; function = main; arguments = []; inputs = []; done = done; mailbox = [] } in
      ap (λ e. event_step behaviour done process e (alone main done output)) (ap (λ es. slice_get es done) p ∙ q)
      ∙ if_at_same done (alone main (suc done) (output ++ (behaviour.text_of t ++ 10 ∷ [])))

  -- from what is past on, each event is carried out at the next place
  events_on : (main : ℕ) (past : List (Event V)) (done : ℕ) (more : List V) (output : List ℕ) → done ≡ length past → (behaviour.runs 0 main [] []).events ≡ past ++ map Printed more → steps (events_from done (length more)) (Some (alone main done output)) ≡ Some (alone main (counted done more) (output ++ lines_of (map behaviour.text_of more)))
  unfolding counted
  events_on main past done [] output d p = ap (λ text. Some (alone main done text)) (sym (append-nil output))
  events_on main past done (t ∷ more) output d p =
      let e : Event V = Printed t in
      let rest = map Printed more in
      ap (steps (events_from (suc done) (length more))) (one_event main (past ++ e ∷ rest) done t output p (ap (slice_get (past ++ e ∷ rest)) d ∙ next_of past e rest))
      ∙ events_on main (past ++ e ∷ []) (suc done) more (output ++ (behaviour.text_of t ++ 10 ∷ [])) (omega (arith, length-append past (e ∷ []), d)) (p ∙ sym (append_assoc past (e ∷ []) rest))
      ∙ ap (λ text. Some (alone main (counted (suc done) more) text)) (append_assoc output (behaviour.text_of t ++ 10 ∷ []) (lines_of (map behaviour.text_of more)))

counted-is : {A : Type 0} (n : ℕ) (xs : List A) → counted n xs ≡ n + length xs
unfolding counted
counted-is n [] = omega arith
counted-is n (x ∷ xs) = counted-is (suc n) xs ∙ omega arith

module _ {V W : Type 0} (behaviour : Behaviour V W) where
  -- the events of a process that only prints, at the places from 0 on, are a run
  pub prints : (main : ℕ) (ts : List V) → (behaviour.runs 0 main [] []).events ≡ map Printed ts → after_steps behaviour (events_from 0 (length ts)) (Some (start main)) ≡ Some (alone main (length ts) (lines_of (map behaviour.text_of ts)))
  prints main ts p =
      events_on behaviour main [] 0 ts [] refl p
      ∙ ap (λ n. Some (alone main n (lines_of (map behaviour.text_of ts)))) (counted-is 0 ts ∙ omega arith)

-- The full run of a program whose first process only prints, and its output.
module _ (program : List FunctionTree) (atoms : List (List ℕ)) (limit : ℕ) (stopped : Process Term → Cause → Type 0) (main : ℕ) where
  abbrev does : Evaluated
  does = runs_of program atoms limit 0 main [] []

  abbrev text : Term → List ℕ
  text = term_text atoms

  through : (ts : List Term) → does.events ≡ map Printed ts → does.inputs ≡ [] → IsThrough (behaviour_of program atoms limit) (record { pid = 0; function = main; arguments = []; inputs = []; done = length ts; mailbox = [] })
  through ts p q = record { events = sym (ap length p ∙ length-map ts Printed); inputs = q }

  pub prints_and_ends : (ts : List Term) (value : Term) → does.events ≡ map Printed ts → does.inputs ≡ [] → does.end ≡ Values (value ∷ []) → IsFullRun program atoms limit stopped main (events_from 0 (length ts)) (Ended (text value) ∷ []) (lines_of (map text ts) ++ (outcome_line 0 (Ended (text value)) ++ []))
  prints_and_ends ts value p q e = record {
    full = record {
      last = alone main (length ts) (lines_of (map text ts));
      allowed = prints (behaviour_of program atoms limit) main ts p;
      at_ends = (record { through = through ts p q; value = value; end = e; printed = refl }, tt);
    };
    writes = refl;
  }

  pub prints_and_raises : (ts : List Term) (class : Class) (reason : Term) → does.events ≡ map Printed ts → does.inputs ≡ [] → does.end ≡ outcome.Raised class reason → IsFullRun program atoms limit stopped main (events_from 0 (length ts)) (Raised class (text reason) ∷ []) (lines_of (map text ts) ++ (outcome_line 0 (Raised class (text reason)) ++ []))
  prints_and_raises ts class reason p q e = record {
    full = record {
      last = alone main (length ts) (lines_of (map text ts));
      allowed = prints (behaviour_of program atoms limit) main ts p;
      at_ends = (record { through = through ts p q; reason = reason; end = e; printed = refl }, tt);
    };
    writes = refl;
  }
