use Rattle.hy_core.proofs.SmallRuns.{exit_outcome, stop_outcomes}
use Rattle.hy_core.proofs.laws.programs.outcomes_are_written.Goals as goal

pub returns : goal.returns
returns c = record { exit = exit_outcome; stops = stop_outcomes }
