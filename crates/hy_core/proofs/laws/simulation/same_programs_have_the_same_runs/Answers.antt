use Rattle.hy_core.proofs.SamePrograms.{runs_forth, runs_back}
use Rattle.hy_core.proofs.laws.simulation.same_programs_have_the_same_runs.Goals as goal

pub returns : goal.returns
returns g c atoms limit source program same main known steps ends output =
    let s = g.S.ProgramSetting in (
      runs_forth s.known atoms limit source program same s.stopped main known steps ends output,
      runs_back s.known atoms limit source program same s.stopped main known steps ends output,
    )
