-- Programs whose functions do the same have the same full runs.
use Rattle.std.proofs.Common.{◌≡◌, ℕ, List, map, Some, refl, sym, ap, subst}
use Rattle.std.proofs.Math.Path.{fun_ext}
use Rattle.std.proofs.lemmas.List.{map-id}
use Rattle.hy_terms.specs.Term.{Term}
use Rattle.hy_core.specs.declared.end.Cause.{Cause}
use Rattle.hy_core.specs.declared.end.End.{End}
use Rattle.hy_core.specs.declared.step.Step.{Step}
use Rattle.hy_core.specs.Comparison.{map_input, map_event, SameResult}
use Rattle.hy_core.specs.Computation.{Input, result_of}
use Rattle.hy_core.specs.Evaluation.{Evaluated, Callee, Top, body_of, run_of}
use Rattle.hy_core.specs.FullRun.{behaviour_of, IsFullRun}
use Rattle.hy_core.specs.Machine.{Process}
use Rattle.hy_core.specs.Resolved.{FunctionTree}
use Rattle.hy_core.specs.SameBehaviour.{SpawnsOf, map_process, SameBehaviour, HasFullRun}
use Rattle.hy_core.specs.SameProgram.{SameProgram, waits}
use Rattle.hy_core.proofs.Comparing.{map_inputs-id, same_events_here}
use Rattle.hy_core.specs.Simulation.{Simulates}
use Rattle.hy_core.proofs.SimulatingHere.{alike_run, alike_does}
use Rattle.hy_core.proofs.SameEnds.{full_forth, full_back}

process-id : {V : Type 0} (p : Process V) → map_process (λ v. v) p ≡ p
process-id p = λ i. record {
  pid = p.pid;
  function = p.function;
  arguments = map-id p.arguments i;
  inputs = map_inputs-id p.inputs i;
  done = p.done;
  mailbox = map-id p.mailbox i;
}

module _ (Known : ℕ → Type 0) (atoms : List (List ℕ)) (limit : ℕ) (source program : List FunctionTree) (same : SameProgram Known atoms limit source program) where
  abbrev Does : ℕ → ℕ → List Term → List (Input Term) → Type 0
  Does pid f ts is = SameResult (λ t. t) (waits atoms pid) (waits atoms pid) (λ e. Some (map_event (λ t. t) e)) (result_of (run_of source atoms pid limit (body_of source atoms pid (Top f) ts) is)) (result_of (run_of program atoms pid limit (body_of program atoms pid (Top f) ts) is))

  pub behaves : SameBehaviour (λ t. t) Known (behaviour_of source atoms limit) (behaviour_of program atoms limit)
  behaves = record {
    runs = λ pid f k ts is.
        let first : List Term → List (Input Term) → Evaluated = λ us js. result_of (run_of source atoms pid limit (body_of source atoms pid (Top f) us) js) in
        let second = result_of (run_of program atoms pid limit (body_of program atoms pid (Top f) ts) is) in
        subst (λ r. SameResult (λ t. t) (waits atoms pid) (waits atoms pid) (λ e. Some (map_event (λ t. t) e)) r second)
        (λ i. first (sym (map-id ts) i) (sym (map_inputs-id is) i))
        (same_events_here (waits atoms pid) (waits atoms pid) (run_of source atoms pid limit (body_of source atoms pid (Top f) ts) is) (run_of program atoms pid limit (body_of program atoms pid (Top f) ts) is) (same.runs pid f k ts is));
    spawns = λ pid f k ts is. same.spawns pid f k (map (λ t. t) ts) (map (map_input (λ t. t)) is);
    texts = λ t. refl;
  }

  module _ (stopped : Process Term → Cause → Type 0) (main : ℕ) (known : Known main) (steps : List Step) (ends : List End) (output : List ℕ) where
    abbrev stopped' : Process Term → Cause → Type 0
    stopped' p cause = stopped (map_process (λ t. t) p) cause

    stopped-same : stopped' ≡ stopped
    stopped-same = fun_ext λ p. fun_ext λ cause. ap (λ q. stopped q cause) (process-id p)

    pub runs_forth : IsFullRun source atoms limit stopped main steps ends output → IsFullRun program atoms limit stopped main steps ends output
    runs_forth h =
        let r = subst (λ s. HasFullRun (behaviour_of program atoms limit) s main steps ends output) stopped-same (full_back (λ t. t) Known (behaviour_of source atoms limit) (behaviour_of program atoms limit) behaves stopped main known steps ends output (h.full, h.writes)) in
        record { full = r.0; writes = r.1 }

    pub runs_back : IsFullRun program atoms limit stopped main steps ends output → IsFullRun source atoms limit stopped main steps ends output
    runs_back h =
        let r = full_forth (λ t. t) Known (behaviour_of source atoms limit) (behaviour_of program atoms limit) behaves stopped main known steps ends output (subst (λ s. HasFullRun (behaviour_of program atoms limit) s main steps ends output) (sym stopped-same) (h.full, h.writes)) in
        record { full = r.0; writes = r.1 }

-- where the bodies of calls that stand for each other simulate each other, programs do the same
module _ (Known : ℕ → Type 0) (Calls : Callee → List Term → Callee → List Term → Type 0) (atoms : List (List ℕ)) (source program : List FunctionTree) (tops : (f : ℕ) → Known f → (ts : List Term) → Calls (Top f) ts (Top f) ts) (bodies : (pid : ℕ) (f : Callee) (ts : List Term) (g : Callee) (us : List Term) → Calls f ts g us → Simulates (λ t. t) Some (SpawnsOf Known) Calls (waits atoms pid) (waits atoms pid) (body_of source atoms pid f ts) (body_of program atoms pid g us)) where
  pub simulated_program : (limit : ℕ) → SameProgram Known atoms limit source program
  simulated_program limit = record {
    runs = λ pid f k ts is.
        alike_run (SpawnsOf Known) Calls (waits atoms pid) (waits atoms pid) (body_of source atoms pid) (body_of program atoms pid) (bodies pid) limit (body_of source atoms pid (Top f) ts) (body_of program atoms pid (Top f) ts) is
        (bodies pid (Top f) ts (Top f) ts (tops f k ts));
    spawns = λ pid f k ts is.
        alike_does (SpawnsOf Known) Calls (waits atoms pid) (waits atoms pid) (body_of source atoms pid) (body_of program atoms pid) (bodies pid) limit (body_of source atoms pid (Top f) ts) (body_of program atoms pid (Top f) ts) is
        (bodies pid (Top f) ts (Top f) ts (tops f k ts));
  }
