-- When processes behave the same to one another, each over values of its own: this project's own.
use Rattle.std.specs.Prelude.{◌≡◌, ℕ, List, map, Some}
use Rattle.std.specs.List.{All}
use Rattle.hy_core.specs.declared.class.Class.{Class}
use Rattle.hy_core.specs.declared.end.Cause.{Cause}
use Rattle.hy_core.specs.declared.end.End.{End}
use Rattle.hy_core.specs.declared.step.Step.{Step}
use Rattle.hy_core.specs.Comparison.{map_input, map_event, Waiting, SameResult}
use Rattle.hy_core.specs.Computation.{Input, Result}
use Rattle.hy_core.specs.Event.{Event, Sent, Spawned, Printed}
use Rattle.hy_core.specs.Machine.{Message, Process, Configuration, Behaviour, IsFull}
use Rattle.hy_core.specs.Output.{run_output}

-- a message, a process and a configuration, with each value replaced by another
module _ {V V' : Type 0} (value : V' → V) where
  abbrev pub map_message : Message V' → Message V
  map_message m = record { place = m.place; term = value m.term }

  abbrev pub map_process : Process V' → Process V
  map_process p = record {
    pid = p.pid;
    function = p.function;
    arguments = map value p.arguments;
    inputs = map (map_input value) p.inputs;
    done = p.done;
    mailbox = map map_message p.mailbox;
  }

  abbrev pub map_configuration : Configuration V' → Configuration V
  map_configuration c =
      record { processes = map map_process c.processes; events = c.events; output = c.output }

-- what is seen of the receives of a process
abbrev pub waiting_of : {V W : Type 0} → Behaviour V W → (pid : ℕ) → Waiting V W
waiting_of behaviour pid = record { timeout = behaviour.timeout; accepts = behaviour.accepts pid }

-- the event spawns no function but one of these
abbrev pub SpawnsOf : {V : Type 0} → (Known : ℕ → Type 0) → Event V → Type 0
SpawnsOf Known (Sent to v) = Unit {0}
SpawnsOf Known (Spawned f vs) = Known f
SpawnsOf Known (Printed v) = Unit {0}

-- Known: the functions that a process may begin with. The second behaviour may know others.
module _ {V V' W W' : Type 0} (value : V' → V) (Known : ℕ → Type 0) (b : Behaviour V W)
    (b' : Behaviour V' W')
  where
    -- what the first does with what the arguments and inputs of the second stand for
    abbrev does : (pid f : ℕ) → List V' → List (Input V') → Result V Class (Event V) W
    does pid f us is = b.runs pid f (map value us) (map (map_input value) is)

    -- both do the same, event for event
    abbrev DoTheSame : (pid f : ℕ) → List V' → List (Input V') → Type 0
    DoTheSame pid f us is =
        SameResult value (waiting_of b pid) (waiting_of b' pid) (λ e. Some (map_event value e))
        (does pid f us is) (b'.runs pid f us is)

    pub record SameBehaviour : Type 0 where
      -- each known function does the same in each process, with all arguments and inputs
      pub runs : (pid f : ℕ) → Known f → (us : List V') (is : List (Input V'))
          → DoTheSame pid f us is
      -- and spawns known functions alone
      pub spawns : (pid f : ℕ) → Known f → (us : List V') (is : List (Input V'))
          → All (SpawnsOf Known) (does pid f us is).events
      pub texts : (u : V') → b'.text_of u ≡ b.text_of (value u)

-- a full run with these ends, and its output
abbrev pub HasFullRun : {V W : Type 0} → Behaviour V W → (stopped : Process V → Cause → Type 0)
    → (main : ℕ) → List Step → List End → (output : List ℕ) → Type 0
HasFullRun b stopped main steps ends output =
    (full : IsFull b stopped main steps ends) × (run_output full.last ends ≡ output)
