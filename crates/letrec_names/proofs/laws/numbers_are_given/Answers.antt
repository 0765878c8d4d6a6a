use Rattle.letrec_names.proofs.Giving.{numbered_is, program_given}
use Rattle.letrec_names.proofs.laws.numbers_are_given.Goals as goal

pub returns-clause-counts : goal.returns-clause-counts
returns-clause-counts c = program_given

pub returns-clause-numbers : goal.returns-clause-numbers
returns-clause-numbers c = numbered_is
