use Rattle.hy_core.proofs.SmallRuns.{child_has_arguments}
use Rattle.hy_core.proofs.laws.programs.child_has_arguments.Goals as goal

pub returns : goal.returns
returns c = child_has_arguments
