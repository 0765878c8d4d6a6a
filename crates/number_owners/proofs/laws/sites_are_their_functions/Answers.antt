use Rattle.number_owners.proofs.ProgramOwners.{accepted_owners}
use Rattle.number_owners.proofs.ProgramShares.{lifted_own_sites}
use Rattle.number_owners.proofs.laws.sites_are_their_functions.Goals as goal

pub returns-clause-accepted : goal.returns-clause-accepted
returns-clause-accepted c = accepted_owners

pub returns-clause-lifted : goal.returns-clause-lifted
returns-clause-lifted c = lifted_own_sites
