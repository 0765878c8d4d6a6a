use Rattle.hy_core.proofs.WorkedRuns.{receive_lapses_or_waits}
use Rattle.hy_core.proofs.laws.runs.receive_lapses_or_waits.Goals as goal

pub returns : goal.returns
returns c = receive_lapses_or_waits
