use Rattle.hybrid_run.proofs.Residuals.{residual_is}
use Rattle.hybrid_run.proofs.CommandReading.{word_taken, word_refused}
use Rattle.hybrid_run.proofs.command.read_command.Goals as goal

pub returns-in_err-take : goal.returns-in_err-take
returns-in_err-take c =
    word_refused c.args.words.now c.loop-place.place c.word.result.now c.loop-place.line c.take.new.self c.in_err-take.field-0.0 c.from_residual.result c.word.ensures c.loop-place.invariant c.in_err-take.ensures
    (residual_is c.from_residual.result c.in_err-take.field-0.0 c.from_residual.ensures.1)

pub loop-place-preserved : goal.loop-place-preserved
loop-place-preserved c = word_taken c.args.words.now c.loop-place.place c.word.result.now c.loop-place.line c.take.new.self c.word.ensures c.loop-place.invariant c.in_ok-take.ensures
