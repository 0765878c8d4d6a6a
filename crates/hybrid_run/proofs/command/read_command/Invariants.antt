use Rattle.std.proofs.Common.{◌≡◌, drop}
use Rattle.hybrid_run.specs.code.Line.{command_from, command_in}
use Rattle.hybrid_run.proofs.command.read_command.Given as goal

-- the words that are left give what all give
abbrev pub invariant-loop-place : goal.invariant-loop-place
invariant-loop-place l = command_from (drop l.place l.words) l.line ≡ command_in l.fn.words
