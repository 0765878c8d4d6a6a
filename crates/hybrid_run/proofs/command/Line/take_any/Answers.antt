use Rattle.hybrid_run.proofs.CommandReading.{any_none}
use Rattle.hybrid_run.proofs.command.Line.take_any.Goals as goal

pub returns-in-None : goal.returns-in-None
returns-in-None c = any_none c.args.self.now c.args.word.now c.begins_option.result c.begins_option.ensures c.if-not-begins_option.false c.in_default.not-text c.in_default.not-text-2 c.in-None.ensures.cases
