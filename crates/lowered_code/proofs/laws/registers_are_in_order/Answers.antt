use Rattle.lowered_code.proofs.Functions.{registers_in_order}
use Rattle.lowered_code.proofs.laws.registers_are_in_order.Goals as goal

pub returns : goal.returns
returns c sites lifted lowerable = registers_in_order sites lifted lowerable
