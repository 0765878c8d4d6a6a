use Rattle.commons.proofs.Events.{tells_once}
use Rattle.commons.proofs.laws.known_places_tell.Goals as goal

pub returns-clause-events : goal.returns-clause-events
returns-clause-events c = λ capacity v area place fit low. fit.log.events place low

pub returns-clause-once : goal.returns-clause-once
returns-clause-once c = tells_once
