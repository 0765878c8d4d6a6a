use Rattle.list_heads.proofs.ProgramHeads.{program_has}
use Rattle.list_heads.proofs.TreeHeads.{program_lifted_has}
use Rattle.list_heads.proofs.laws.list_notations_have_heads.Goals as goal

pub returns-clause-read : goal.returns-clause-read
returns-clause-read c = program_has

pub returns-clause-lifted : goal.returns-clause-lifted
returns-clause-lifted c = program_lifted_has
