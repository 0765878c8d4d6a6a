use Rattle.lifted_numbers.proofs.BareLifted.{program-bare}
use Rattle.lifted_numbers.proofs.BareSupplied.{bare-supplied}
use Rattle.lifted_numbers.proofs.laws.lifting_keeps_numbers.Goals as goal

pub returns-clause-supplied : goal.returns-clause-supplied
returns-clause-supplied c = bare-supplied

pub returns-clause-lifted : goal.returns-clause-lifted
returns-clause-lifted c = program-bare
