use Rattle.lifted_syntax.proofs.KnownWhole.{known_are_whole}
use Rattle.lifted_syntax.proofs.ProgramResolved.{program-plain}
use Rattle.lifted_syntax.proofs.laws.lifted_programs_are_lifted.Goals as goal

pub returns-clause-lifted : goal.returns-clause-lifted
returns-clause-lifted c names captured modules h = program-plain captured names modules h

pub returns-clause-known : goal.returns-clause-known
returns-clause-known c = known_are_whole
