use Rattle.lowered_code.proofs.Needed.{registers_needed}
use Rattle.lowered_code.proofs.laws.registers_are_needed.Goals as goal

pub returns : goal.returns
returns c sites lifted lowerable = registers_needed sites lifted lowerable
