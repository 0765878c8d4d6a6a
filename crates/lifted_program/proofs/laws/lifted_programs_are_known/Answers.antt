use Rattle.lifted_program.proofs.RenamedKnown.{renamed_known}
use Rattle.lifted_program.proofs.Whole.{whole_known}
use Rattle.lifted_program.proofs.laws.lifted_programs_are_known.Goals as goal

pub returns-clause-renamed : goal.returns-clause-renamed
returns-clause-renamed c limit source known = renamed_known limit source known

pub returns-clause-lifted : goal.returns-clause-lifted
returns-clause-lifted c limit source captured known exact =
    whole_known limit source captured known exact
