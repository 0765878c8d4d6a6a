use Rattle.hy_core.proofs.WorkedRuns.{receive_selects}
use Rattle.hy_core.proofs.laws.runs.receive_takes_first_accepted_message.Goals as goal

pub returns : goal.returns
returns c = receive_selects
