-- The processes of the programs that are read behave as those of the worked ones.
use Rattle.std.proofs.Common.{◌≡◌, ℕ, zero, suc, List, [], map, refl, sym, ap, ◌∙◌, subst}
use Rattle.std.proofs.Math.Path.{fun_ext}
use Rattle.std.specs.List.{All}
use Rattle.hy_terms.specs.Term.{Term}
use Rattle.hy_terms.specs.TermText.{term_text}
use Rattle.hy_core.specs.Computation.{result_of, run}
use Rattle.hy_core.specs.Evaluation.{Callee, Doing, Inner, Top, Wait, accepts, body_of}
use Rattle.hy_core.specs.FullRun.{NeverStopped, behaviour_of}
use Rattle.hy_core.specs.Machine.{Behaviour}
use Rattle.hy_core.specs.Resolved.{FunctionTree}
use Rattle.hy_core.specs.SameBehaviour.{HasFullRun}
use Rattle.hy_core.specs.Syntax.{Syntax}
use Rattle.hy_core.specs.Worked.{atoms, modules, names}
use Rattle.hy_core.proofs.Written.{program_is}
use Rattle.core_accepted.specs.WorkedPrograms.{BehavesAsWorked, RunsAsWorked, worked}
use Rattle.core_accepted.proofs.WorkedPrograms.{atoms_are, each_same, main_is, read_trees, trees_are, worked_trees}

abbrev Bodies : Type 0
Bodies = ℕ → Callee → List Term → Doing

abbrev bodies : List FunctionTree → Bodies
bodies trees pid = body_of trees atoms pid

abbrev behaviour : ℕ → Bodies → Behaviour Term Wait
behaviour limit of_callee = record {
  runs = λ pid f ts inputs. result_of (run (λ e. e) [] (of_callee pid) limit (of_callee pid (Top f) ts) inputs);
  accepts = accepts atoms;
  timeout = λ wait. wait.timeout;
  text_of = term_text atoms;
}

behaves : (limit : ℕ) (trees : List FunctionTree) → behaviour_of trees atoms limit ≡ behaviour limit (bodies trees)
behaves limit trees = refl

-- what the functions of the first module do
abbrev Firsts : Type 0
Firsts = ℕ → List Term → Doing × Doing

abbrev firsts : List FunctionTree → Firsts
firsts trees pid ts = (bodies trees pid (Top 0) ts, bodies trees pid (Top 1) ts)

module _ (main child : Syntax) (same : firsts (worked_trees (main, child)) ≡ firsts (read_trees (main, child))) where
  same_bodies : (pid : ℕ) (callee : Callee) (ts : List Term) → bodies (worked_trees (main, child)) pid callee ts ≡ bodies (read_trees (main, child)) pid callee ts
  same_bodies pid (Inner f fs env) ts = refl
  same_bodies pid (Top zero) ts = (λ i. (same i pid ts).0)
  same_bodies pid (Top (suc zero)) ts = (λ i. (same i pid ts).1)
  same_bodies pid (Top (suc (suc zero))) ts = refl
  same_bodies pid (Top (suc (suc (suc zero)))) ts = refl
  same_bodies pid (Top (suc (suc (suc (suc zero))))) ts = refl
  same_bodies pid (Top (suc (suc (suc (suc (suc zero)))))) ts = refl
  same_bodies pid (Top (suc (suc (suc (suc (suc (suc f))))))) ts = refl

  all_bodies : bodies (worked_trees (main, child)) ≡ bodies (read_trees (main, child))
  all_bodies = fun_ext λ pid. fun_ext λ callee. fun_ext λ ts. same_bodies pid callee ts

  same_behaviour : BehavesAsWorked (main, child)
  same_behaviour limit =
      (λ i. behaviour_of (trees_are main child i) (atoms_are main child i) limit)
      ∙ behaves limit (read_trees (main, child)) ∙ ap (behaviour limit) (sym all_bodies)
      ∙ ap (λ trees. behaviour_of trees atoms limit) (sym (program_is names [] (modules main child)))

  same_runs : RunsAsWorked (main, child)
  same_runs limit steps ends output h =
      let both = subst (λ b. HasFullRun b NeverStopped h.main steps ends output) (sym (same_behaviour limit)) (h.run.full, h.run.writes) in
      record { main = h.main; is_main = main_is main child ∙ h.is_main; run = record { full = both.0; writes = both.1 } }

abbrev worked_firsts : Syntax × Syntax → Firsts
worked_firsts p = firsts (worked_trees p)

abbrev read_firsts : Syntax × Syntax → Firsts
read_firsts p = firsts (read_trees p)

computed : map worked_firsts worked ≡ map read_firsts worked
computed = refl

pub worked_behave : All BehavesAsWorked worked
worked_behave = each_same worked_firsts read_firsts BehavesAsWorked (λ p same. same_behaviour p.0 p.1 same) worked computed

pub worked_run : All RunsAsWorked worked
worked_run = each_same worked_firsts read_firsts RunsAsWorked (λ p same. same_runs p.0 p.1 same) worked computed
