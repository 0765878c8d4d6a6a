use Rattle.core_accepted.proofs.ProgramMain.{has_its_main}
use Rattle.core_accepted.proofs.laws.accepted_programs_have_a_main.Goals as goal

pub returns : goal.returns
returns c = has_its_main
