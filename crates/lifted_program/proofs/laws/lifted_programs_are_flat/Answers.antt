use Rattle.lifted_program.proofs.LiftedApart.{lifted_apart}
use Rattle.lifted_program.proofs.LiftedFlat.{lifted_flat}
use Rattle.lifted_program.proofs.RenamedApart.{renamed_apart}
use Rattle.lifted_program.proofs.laws.lifted_programs_are_flat.Goals as goal

pub returns-clause-flat : goal.returns-clause-flat
returns-clause-flat c source captured = lifted_flat captured source

pub returns-clause-renamed : goal.returns-clause-renamed
returns-clause-renamed c limit source = renamed_apart limit source

pub returns-clause-apart : goal.returns-clause-apart
returns-clause-apart c source captured exact apart = lifted_apart captured source exact apart
