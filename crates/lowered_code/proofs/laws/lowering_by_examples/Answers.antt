use Rattle.lowered_code.proofs.Worked.{functions_are_lowered}
use Rattle.lowered_code.proofs.laws.lowering_by_examples.Goals as goal

pub returns : goal.returns
returns c = functions_are_lowered
