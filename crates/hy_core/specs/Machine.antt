-- The copying machine: processes that share nothing and send copies, over any meaning of what a
-- single process does. This project's own, after the asynchronous messages of Erlang.
use Rattle.std.specs.Prelude.{◌≡◌, ℕ, suc, ◌==◌, ◌++◌, List, [], ◌∷◌, length, Option, Some, None, Bool, if◌then◌else◌, slice_get}
use Rattle.hy_core.specs.declared.class.Class.{Class}
use Rattle.hy_core.specs.declared.end.Cause.{Cause}
use Rattle.hy_core.specs.declared.end.End.{End}
use Rattle.hy_core.specs.declared.end.End.TheVariants.{Ended, Raised, Waits, Stopped}
use Rattle.hy_core.specs.declared.step.Item.{Item}
use Rattle.hy_core.specs.declared.step.Item.TheVariants as item
use Rattle.hy_core.specs.declared.step.Step.{Step}
use Rattle.hy_core.specs.Computation.{Input, Got, Lapsed, Born, Outcome, Values, Needs, Result}
use Rattle.hy_core.specs.Computation as outcome
use Rattle.hy_core.specs.Event.{Event, Sent, Spawned, Printed}
use Rattle.hy_core.specs.Resolved.{Timeout, AtOnce, Never}

-- a message with the place of its send among all events
pub record Message (V : Type 0) : Type 0 where
  pub place : ℕ
  pub term : V

-- a process: what it began with, what came to it since, and how far it is carried out
pub record Process (V : Type 0) : Type 0 where
  pub pid : ℕ
  pub function : ℕ
  pub arguments : List V
  pub inputs : List (Input V)
  -- the number of its events that are carried out
  pub done : ℕ
  pub mailbox : List (Message V)

-- the processes in the order of their pids
pub record Configuration (V : Type 0) : Type 0 where
  pub processes : List (Process V)
  -- the number of events so far
  pub events : ℕ
  pub output : List ℕ

-- a process before it did anything
abbrev pub fresh : {V : Type 0} → ℕ → ℕ → List V → Process V
fresh pid function arguments = record {
  pid = pid;
  function = function;
  arguments = arguments;
  inputs = [];
  done = 0;
  mailbox = [];
}

-- one process, with pid 0
abbrev pub start : {V : Type 0} → (main : ℕ) → Configuration V
start main = record { processes = fresh 0 main [] ∷ []; events = 0; output = [] }

-- the process of a pid, and a change of it alone
abbrev pub process_of : {V : Type 0} → ℕ → List (Process V) → Option (Process V)
process_of pid [] = None
process_of pid (p ∷ ps) = if p.pid == pid then Some p else process_of pid ps

abbrev pub with_process : {V : Type 0} → ℕ → (Process V → Process V) → List (Process V)
    → List (Process V)
with_process pid f [] = []
with_process pid f (p ∷ ps) = (if p.pid == pid then f p else p) ∷ with_process pid f ps

-- what a step changes in a process
abbrev pub with_input : {V : Type 0} → Input V → Process V → Process V
with_input i p = record p { inputs = p.inputs ++ i ∷ [] }

abbrev pub with_event_done : {V : Type 0} → Process V → Process V
with_event_done p = record p { done = suc p.done }

abbrev pub with_message : {V : Type 0} → ℕ → V → Process V → Process V
with_message place t p = record p { mailbox = p.mailbox ++ record { place = place; term = t } ∷ [] }

-- the first message of the place is gone
abbrev pub without : {V : Type 0} → ℕ → List (Message V) → List (Message V)
without place [] = []
without place (m ∷ ms) = if m.place == place then ms else m ∷ without place ms

abbrev pub with_taken : {V : Type 0} → Message V → Process V → Process V
with_taken m p =
    record p { mailbox = without m.place p.mailbox; inputs = p.inputs ++ Got m.term ∷ [] }

-- the first message, in the order of the mailbox, that is accepted
abbrev pub first_accepted : {V : Type 0} → (V → Bool) → List (Message V) → Option (Message V)
first_accepted accepts [] = None
first_accepted accepts (m ∷ ms) = if accepts m.term then Some m else first_accepted accepts ms

abbrev pub if_at : {A : Type 0} → ℕ → ℕ → A → Option A
if_at m n x = if m == n then Some x else None

-- how single processes behave, over values V and what a receive waits for, W
pub record Behaviour (V W : Type 0) : Type 0 where
  -- what a process does, by its pid, function, arguments and inputs
  pub runs : (pid function : ℕ) → List V → List (Input V) → Result V Class (Event V) W
  -- whether a receive of a process accepts a message
  pub accepts : (pid : ℕ) → W → V → Bool
  pub timeout : W → Timeout
  pub text_of : V → List ℕ

module _ {V W : Type 0} (behaviour : Behaviour V W) where
  -- a process's activity
  abbrev pub activity : Process V → Result V Class (Event V) W
  activity p = behaviour.runs p.pid p.function p.arguments p.inputs

  -- the event of process pid at the next place
  abbrev pub carried_out : (pid : ℕ) → Event V → Configuration V → Configuration V
  carried_out pid (Sent to t) c =
      record c {
        processes = with_process to (with_message c.events t) c.processes;
        events = suc c.events;
      }
  carried_out pid (Spawned f ts) c =
      record c {
        processes = with_process pid (with_input (Born (suc c.events))) c.processes
            ++ fresh (suc c.events) f ts ∷ [];
        events = suc c.events;
      }
  carried_out pid (Printed t) c =
      record c { output = c.output ++ (behaviour.text_of t ++ 10 ∷ []); events = suc c.events }

  -- an event stands at the place that is the number of events before it
  abbrev pub event_step : ℕ → Process V → Option (Event V) → Configuration V
      → Option (Configuration V)
  event_step place p None c = None
  event_step place p (Some e) c =
      if_at place c.events
      (carried_out p.pid e
      (record c { processes = with_process p.pid with_event_done c.processes }))

  -- a take is of the first message that is accepted
  abbrev pub take_of : ℕ → Process V → Option (Message V) → Configuration V
      → Option (Configuration V)
  take_of place p None c = None
  take_of place p (Some m) c =
      if_at m.place place (record c { processes = with_process p.pid (with_taken m) c.processes })

  -- a lapse is at timeout 0, where no message is accepted, and tells the number of events
  abbrev pub lapse_of : ℕ → Process V → Timeout → Option (Message V) → Configuration V
      → Option (Configuration V)
  lapse_of seen p AtOnce None c = if_at seen c.events
      (record c { processes = with_process p.pid (with_input Lapsed) c.processes })
  lapse_of seen p AtOnce (Some m) c = None
  lapse_of seen p Never m c = None

  abbrev pub take_step : ℕ → Process V → Outcome V Class W → Configuration V
      → Option (Configuration V)
  take_step place p (Needs w) c =
      take_of place p (first_accepted (behaviour.accepts p.pid w) p.mailbox) c
  take_step place p _ c = None

  abbrev pub lapse_step : ℕ → Process V → Outcome V Class W → Configuration V
      → Option (Configuration V)
  lapse_step seen p (Needs w) c =
      lapse_of seen p (behaviour.timeout w) (first_accepted (behaviour.accepts p.pid w) p.mailbox) c
  lapse_step seen p _ c = None

  -- all events of the process are carried out
  abbrev pub is_done : Process V → Bool
  is_done p = p.done == length (activity p).events

  -- a process takes or lapses only where all its events are carried out
  abbrev pub process_step : Item → Process V → Configuration V → Option (Configuration V)
  process_step (item.Event place) p c = event_step place p (slice_get (activity p).events p.done) c
  process_step (item.Took place) p c =
      if is_done p then take_step place p (activity p).end c else None
  process_step (item.Lapsed seen) p c =
      if is_done p then lapse_step seen p (activity p).end c else None

  abbrev pub step_of : Item → Option (Process V) → Configuration V → Option (Configuration V)
  step_of i None c = None
  step_of i (Some p) c = process_step i p c

  -- the configuration after an allowed step; none where the step is not allowed
  abbrev pub after_step : Step → Configuration V → Option (Configuration V)
  after_step s c = step_of s.item (process_of s.pid c.processes) c

  -- the configuration after a run; none where one of its steps is not allowed
  abbrev pub after_steps : List Step → Option (Configuration V) → Option (Configuration V)
  after_steps [] c = c
  after_steps (s ∷ ss) None = None
  after_steps (s ∷ ss) (Some c) = after_steps ss (after_step s c)

  -- all is carried out and used up
  pub record IsThrough (p : Process V) : Type 0 where
    pub events : p.done ≡ length (activity p).events
    pub inputs : (activity p).inputs ≡ []

  -- it gave one value, with this text
  pub record HasEnded (p : Process V) (text : List ℕ) : Type 0 where
    pub through : IsThrough p
    pub value : V
    pub end : (activity p).end ≡ Values (value ∷ [])
    pub printed : behaviour.text_of value ≡ text

  -- it raised, with this class and this text of the reason
  pub record HasRaised (p : Process V) (class : Class) (text : List ℕ) : Type 0 where
    pub through : IsThrough p
    pub reason : V
    pub end : (activity p).end ≡ outcome.Raised class reason
    pub printed : behaviour.text_of reason ≡ text

  -- it waits for good: without a timeout, and with no message that it accepts
  pub record IsWaiting (p : Process V) : Type 0 where
    pub events : p.done ≡ length (activity p).events
    pub wait : W
    pub end : (activity p).end ≡ Needs wait
    pub never : behaviour.timeout wait ≡ Never
    pub none : first_accepted (behaviour.accepts p.pid wait) p.mailbox ≡ None

  -- the process has come to this end; stopped says when it is stopped with a cause
  abbrev pub IsAt : (stopped : Process V → Cause → Type 0) → Process V → End → Type 0
  IsAt stopped p (Ended text) = HasEnded p text
  IsAt stopped p (Raised class text) = HasRaised p class text
  IsAt stopped p Waits = IsWaiting p
  IsAt stopped p (Stopped cause) = stopped p cause

  -- one end for each process
  abbrev pub AreAt : (stopped : Process V → Cause → Type 0) → List (Process V) → List End → Type 0
  AreAt stopped [] [] = Unit {0}
  AreAt stopped (p ∷ ps) (e ∷ es) = IsAt stopped p e × AreAt stopped ps es
  AreAt stopped [] (e ∷ es) = ⊥
  AreAt stopped (p ∷ ps) [] = ⊥

  -- a run that is full with these ends
  pub record IsFull (stopped : Process V → Cause → Type 0) (main : ℕ) (steps : List Step)
      (ends : List End) : Type 0 where
    pub last : Configuration V
    pub allowed : after_steps steps (Some (start main)) ≡ Some last
    pub at_ends : AreAt stopped last.processes ends
