use Rattle.lowered_code.proofs.ValidCode.{lowered_valid}
use Rattle.lowered_code.proofs.laws.lowered_is_valid.Goals as goal

pub returns : goal.returns
returns c sites names atoms lifted lowerable limits =
    lowered_valid sites names atoms lifted lowerable limits
