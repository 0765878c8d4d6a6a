use Rattle.number_owners.proofs.ProgramShares.{lifted_own_events}
use Rattle.number_owners.proofs.SameEvents.{renamed_events}
use Rattle.number_owners.proofs.laws.events_are_their_functions.Goals as goal

pub returns-clause-renamed : goal.returns-clause-renamed
returns-clause-renamed c = renamed_events

pub returns-clause-lifted : goal.returns-clause-lifted
returns-clause-lifted c = lifted_own_events
