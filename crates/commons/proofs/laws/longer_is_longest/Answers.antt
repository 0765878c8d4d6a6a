use Rattle.commons.proofs.Events.{longer_is_max}
use Rattle.commons.proofs.laws.longer_is_longest.Goals as goal

pub returns : goal.returns
returns c = longer_is_max
