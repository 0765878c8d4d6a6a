use Rattle.core_accepted.proofs.KnownPrograms.{accepted_sites}
use Rattle.core_accepted.proofs.laws.sites_of_trees_are_the_programs.Goals as goal

pub returns : goal.returns
returns c = accepted_sites
