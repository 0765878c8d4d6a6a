use Rattle.std.proofs.Common.{inl, inr}
use Rattle.hybrid_run.proofs.CommandReading.{is_command, is_usage}
use Rattle.hybrid_run.proofs.command.files.Goals as goal

pub returns-in-Ok : goal.returns-in-Ok
returns-in-Ok c = inl (c.in-Ok.command.mode, is_command c.args.words.now c.in-Ok.command.mode c.in-Ok.command.files c.in-Ok.ensures)

pub returns-in-Err-Usage : goal.returns-in-Err-Usage
returns-in-Err-Usage c = inr (is_usage c.args.words.now (rw c.in-Err-Usage.field-0-is at c.in-Err-Usage.ensures), c.new.ensures)
