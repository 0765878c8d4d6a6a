-- Two programs whose functions do the same: this project's own.
use Rattle.std.specs.Prelude.{ℕ, List, Some}
use Rattle.std.specs.List.{All}
use Rattle.hy_terms.specs.Term.{Term}
use Rattle.hy_core.specs.declared.class.Class.{Class}
use Rattle.hy_core.specs.Comparison.{Waiting, SameRun}
use Rattle.hy_core.specs.Computation.{Input, Run, dones}
use Rattle.hy_core.specs.Evaluation.{Wait, accepts, Top, body_of, run_of}
use Rattle.hy_core.specs.Event.{Event}
use Rattle.hy_core.specs.Resolved.{FunctionTree}
use Rattle.hy_core.specs.SameBehaviour.{SpawnsOf}

-- what is seen of the receives of evaluation
abbrev pub waits : (atoms : List (List ℕ)) (pid : ℕ) → Waiting Term Wait
waits atoms pid = record { timeout = λ wait. wait.timeout; accepts = accepts atoms pid }

-- Known: functions that both programs have, by the same numbers; limit: the calls of each process
module _ (Known : ℕ → Type 0) (atoms : List (List ℕ)) (limit : ℕ) where
  -- the run of a function's body under its arguments
  abbrev run_from : List FunctionTree → (pid f : ℕ) → List Term → List (Input Term)
      → Run Term Class (Event Term) Wait
  run_from program pid f ts is =
      run_of program atoms pid limit (body_of program atoms pid (Top f) ts) is

  pub record SameProgram (source program : List FunctionTree) : Type 0 where
    -- each known function does the same in each process, with all arguments and inputs
    pub runs : (pid f : ℕ) → Known f → (ts : List Term) (is : List (Input Term))
        → SameRun (λ t. t) (waits atoms pid) (waits atoms pid) Some (run_from source pid f ts is)
        (run_from program pid f ts is)
    -- and spawns known functions alone
    pub spawns : (pid f : ℕ) → Known f → (ts : List Term) (is : List (Input Term))
        → All (SpawnsOf Known) (dones (run_from source pid f ts is).moments)
