use Rattle.commons.proofs.Events.{stands_later}
use Rattle.commons.proofs.laws.knowing_more_keeps_terms.Goals as goal

pub returns : goal.returns
returns c = stands_later
