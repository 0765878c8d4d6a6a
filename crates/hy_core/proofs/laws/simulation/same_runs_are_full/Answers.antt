use Rattle.hy_core.proofs.SameEnds.{full_forth, full_back}
use Rattle.hy_core.proofs.laws.simulation.same_runs_are_full.Goals as goal

pub returns : goal.returns
returns g c value b b' same main known steps ends output =
    let s = g.S.Setting in (
      full_forth value s.known b b' same s.stopped main known steps ends output,
      full_back value s.known b b' same s.stopped main known steps ends output,
    )
