use Rattle.core_accepted.proofs.KnownPrograms.{accepted_known}
use Rattle.core_accepted.proofs.laws.accepted_trees_are_known.Goals as goal

pub returns : goal.returns
returns c = accepted_known
