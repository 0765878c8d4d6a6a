use Rattle.hy_core.proofs.SamePrograms.{runs_forth, runs_back}
use Rattle.lifted_program.specs.LiftingLaws.{lifting_of}
use Rattle.lifted_program.proofs.Whole.{whole}
use Rattle.lifted_program.proofs.laws.lifted_programs_run.Goals as goal
use Rattle.std.proofs.Common.{◌<◌, length}

pub returns : goal.returns
returns g c limit source captured known exact atoms calls main below steps ends output =
    let program = lifting_of limit captured source in
    let same = whole limit source captured known exact atoms calls in
    let stopped = g.S.Stopping.stopped in (
      runs_forth
          (λ f. f < length source) atoms calls source program same stopped main below steps ends
          output,
      runs_back
          (λ f. f < length source) atoms calls source program same stopped main below steps ends
          output,
    )
