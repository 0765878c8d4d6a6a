use Rattle.lowered_code.proofs.Functions.{lowered_are}
use Rattle.lowered_code.proofs.laws.lowered_is_code.Goals as goal

pub returns : goal.returns
returns c sites names atoms lifted lowerable = lowered_are sites lifted lowerable
