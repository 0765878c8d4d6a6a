use Rattle.hy_core.proofs.WorkedRuns.{parts_go_from_left}
use Rattle.hy_core.proofs.laws.runs.parts_go_from_left_to_right.Goals as goal

pub returns : goal.returns
returns c = parts_go_from_left
