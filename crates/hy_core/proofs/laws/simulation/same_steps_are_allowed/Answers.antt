use Rattle.hy_core.proofs.Behaving.{steps_mapped}
use Rattle.hy_core.proofs.laws.simulation.same_steps_are_allowed.Goals as goal

pub returns : goal.returns
returns g c value b b' same main known steps = steps_mapped value g.S.Setting.known b b' same main known steps
