use Rattle.program_code.proofs.Means.{lifted_means}
use Rattle.lowered_code.specs.LoweredCode.{lowered_code}
use Rattle.lowered_code.proofs.Functions.{lowered_are}
use Rattle.lowered_code.proofs.laws.lowered_means.Goals as goal

pub returns : goal.returns
returns c sites names atoms lifted lowerable f place pid calls ts inputs =
    lifted_means lifted (lowered_code sites names atoms lifted)
    (lowered_are sites lifted lowerable) f place pid calls ts inputs
