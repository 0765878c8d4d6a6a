use Rattle.lifted_program.proofs.AcceptedRuns.{accepted_programs_run}
use Rattle.lifted_program.proofs.laws.accepted_programs_run_lifted.Goals as goal

pub returns : goal.returns
returns g c = accepted_programs_run g.S.Stopping.stopped
