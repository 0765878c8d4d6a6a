use Rattle.lowered_code.proofs.Accepted.{accepted_lowered}
use Rattle.lowered_code.proofs.laws.accepted_programs_are_lowered.Goals as goal

pub returns : goal.returns
returns c = accepted_lowered
