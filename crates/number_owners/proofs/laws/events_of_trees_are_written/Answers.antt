use Rattle.number_owners.proofs.SuppliedEvents.{events_taken}
use Rattle.number_owners.proofs.WrittenPrograms.{written_owners_are}
use Rattle.number_owners.proofs.laws.events_of_trees_are_written.Goals as goal

pub returns-clause-owners : goal.returns-clause-owners
returns-clause-owners c = written_owners_are

pub returns-clause-taken : goal.returns-clause-taken
returns-clause-taken c = events_taken
