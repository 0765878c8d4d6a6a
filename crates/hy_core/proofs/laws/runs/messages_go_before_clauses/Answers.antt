use Rattle.hy_core.proofs.WorkedRuns.{message_before_clause}
use Rattle.hy_core.proofs.laws.runs.messages_go_before_clauses.Goals as goal

pub returns : goal.returns
returns c = message_before_clause
