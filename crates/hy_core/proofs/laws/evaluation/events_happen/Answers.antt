use Rattle.hy_core.proofs.Forms.{events_happen}
use Rattle.hy_core.proofs.laws.evaluation.events_happen.Goals as goal

pub returns : goal.returns
returns c = events_happen
