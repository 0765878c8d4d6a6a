-- Runs of modules that laws write as syntax, with the texts and the numbers of what their calls
-- name.
use Rattle.std.specs.Prelude.{◌≡◌, ℕ, List, Some}
use Rattle.hy_terms.specs.Term.{Term}
use Rattle.hy_core.specs.declared.end.Cause.{Cause}
use Rattle.hy_core.specs.declared.end.End.{End}
use Rattle.hy_core.specs.declared.step.Step.{Step}
use Rattle.hy_core.specs.declared.tree.Module.{Module}
use Rattle.hy_core.specs.FullRun.{main_of, IsFullRun}
use Rattle.hy_core.specs.Machine.{Process}
use Rattle.hy_core.specs.ProgramTrees.{function_trees}
use Rattle.hy_core.specs.Resolve.{Names}

-- A full run of the functions of these modules, with these ends and this output. The names tell
-- what their calls name, and the sites are taken in order.
pub record IsRunOf (names : Names) (sites : List ℕ) (modules : List Module) (limit : ℕ)
    (stopped : Process Term → Cause → Type 0) (steps : List Step) (ends : List End)
    (output : List ℕ) : Type 0 where
  pub main : ℕ
  pub is_main : main_of names modules ≡ Some main
  pub run : IsFullRun (function_trees names sites modules) names.atoms limit stopped main
      steps ends output
