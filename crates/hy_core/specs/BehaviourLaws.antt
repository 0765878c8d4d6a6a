-- What the copying machine sees of processes. Each law is the clause of a function in the module
-- `laws`.
use Rattle.std.specs.Prelude.{◌≡◌, ℕ, List, map, Option, Some}
use Rattle.std.specs.List.{All}
use Rattle.std.specs.Option.{option_map}
use Rattle.hy_core.specs.declared.end.Cause.{Cause}
use Rattle.hy_core.specs.declared.end.End.{End}
use Rattle.hy_core.specs.declared.step.Step.{Step}
use Rattle.hy_terms.specs.Term.{Term}
use Rattle.hy_core.specs.declared.class.Class.{Class}
use Rattle.hy_core.specs.Comparison.{map_input, map_event, SameRun, events_only}
use Rattle.hy_core.specs.Computation.{Input, Run, dones, result_of}
use Rattle.hy_core.specs.Evaluation.{Callee, Top, body_of}
use Rattle.hy_core.specs.Event.{Event}
use Rattle.hy_core.specs.Simulation.{Simulates}
use Rattle.hy_core.specs.FullRun.{IsFullRun}
use Rattle.hy_core.specs.Resolved.{FunctionTree}
use Rattle.hy_core.specs.SameProgram.{SameProgram, waits}
use Rattle.hy_core.specs.Machine.{Process, Behaviour, after_steps, start}
use Rattle.hy_core.specs.SameBehaviour.{map_process, map_configuration, waiting_of, SpawnsOf}
use Rattle.hy_core.specs.SameBehaviour.{SameBehaviour, HasFullRun}

module _ (V V' W W' : Type 0) (Known : ℕ → Type 0) where
  -- from a known function on, the same steps are allowed, and lead to the same processes and output
  abbrev pub SameStepsAllowed : Type 0
  SameStepsAllowed =
      (value : V' → V) (b : Behaviour V W) (b' : Behaviour V' W') → SameBehaviour value Known b b'
      → (main : ℕ) → Known main → (steps : List Step)
      → after_steps b steps (Some (start main))
      ≡ option_map (map_configuration value) (after_steps b' steps (Some (start main)))

  -- and the same runs are full, with the same ends and the same output
  abbrev pub SameFullRuns : (Process V → Cause → Type 0) → Type 0
  SameFullRuns stopped =
      (value : V' → V) (b : Behaviour V W) (b' : Behaviour V' W') → SameBehaviour value Known b b'
      → (main : ℕ) → Known main → (steps : List Step) (ends : List End) (output : List ℕ)
      → (HasFullRun b' (λ p cause. stopped (map_process value p) cause) main steps ends output
      → HasFullRun b stopped main steps ends output)
      × (HasFullRun b stopped main steps ends output
      → HasFullRun b' (λ p cause. stopped (map_process value p) cause) main steps ends output)

-- programs whose known functions do the same have the same full runs from a known function on
abbrev pub SameProgramsRun : (Known : ℕ → Type 0) (stopped : Process Term → Cause → Type 0) → Type 0
SameProgramsRun Known stopped =
    (atoms : List (List ℕ)) (limit : ℕ) (source program : List FunctionTree)
    → SameProgram Known atoms limit source program
    → (main : ℕ) → Known main → (steps : List Step) (ends : List End) (output : List ℕ)
    → (IsFullRun source atoms limit stopped main steps ends output
    → IsFullRun program atoms limit stopped main steps ends output)
    × (IsFullRun program atoms limit stopped main steps ends output
    → IsFullRun source atoms limit stopped main steps ends output)

-- programs whose bodies simulate each other do the same: Calls says which calls stand for which,
-- and a known function stands for itself
abbrev pub SimulatedProgramIsSame : (Known : ℕ → Type 0)
    → (Calls : Callee → List Term → Callee → List Term → Type 0) → Type 0
SimulatedProgramIsSame Known Calls =
    (atoms : List (List ℕ)) (source program : List FunctionTree)
    → ((f : ℕ) → Known f → (ts : List Term) → Calls (Top f) ts (Top f) ts)
    → ((pid : ℕ) (f : Callee) (ts : List Term) (g : Callee) (us : List Term) → Calls f ts g us
    → Simulates (λ t. t) Some (SpawnsOf Known) Calls (waits atoms pid) (waits atoms pid)
    (body_of source atoms pid f ts) (body_of program atoms pid g us))
    → (limit : ℕ) → SameProgram Known atoms limit source program

-- Processes whose runs are the same, with as many calls, behave the same. event says which acts of
-- the second are events; the acts of the first are its events.
module _ (V V' B W W' : Type 0) (Known : ℕ → Type 0) where
  abbrev RunsOf : (U D X : Type 0) → Type 0
  RunsOf U D X = (pid function : ℕ) → List U → List (Input U) → Run U Class D X

  -- what the first does with what the arguments and inputs of the second stand for
  abbrev RunsHere : Type 0
  RunsHere = (pid f : ℕ) → List V' → List (Input V') → Run V Class (Event V) W

  abbrev first_run : RunsOf V (Event V) W → (V' → V) → RunsHere
  first_run runs value pid f us is = runs pid f (map value us) (map (map_input value) is)

  abbrev pub SameRunsBehaveTheSame : Type 0
  SameRunsBehaveTheSame =
      (value : V' → V) (event : B → Option (Event V')) (b : Behaviour V W) (b' : Behaviour V' W')
      (runs : RunsOf V (Event V) W) (runs' : RunsOf V' B W')
      → ((pid f : ℕ) (vs : List V) (is : List (Input V))
      → b.runs pid f vs is ≡ result_of (runs pid f vs is))
      → ((pid f : ℕ) (us : List V') (is : List (Input V'))
      → b'.runs pid f us is ≡ events_only event (runs' pid f us is))
      → ((u : V') → b'.text_of u ≡ b.text_of (value u))
      → ((pid f : ℕ) → Known f → (us : List V') (is : List (Input V'))
      → SameRun value (waiting_of b pid) (waiting_of b' pid)
      (λ d. option_map (map_event value) (event d)) (first_run runs value pid f us is)
      (runs' pid f us is)
      × All (SpawnsOf Known) (dones (first_run runs value pid f us is).moments))
      → SameBehaviour value Known b b'
