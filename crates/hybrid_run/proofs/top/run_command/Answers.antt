use Rattle.hybrid_run.specs.Answers.{Says}
use Rattle.hybrid_run.specs.Faults.{status_of_fault}
use Rattle.hybrid_run.specs.Headline.{sunk}
use Rattle.hybrid_run.specs.Loading.{sourced}
use Rattle.hybrid_run.proofs.Residuals.{handed_on}
use Rattle.hybrid_run.proofs.Telling.{says_read, says_stopped}
use Rattle.hybrid_run.proofs.top.run_command.Goals as goal

pub returns-in_err-modules-clause-says : goal.returns-in_err-modules-clause-says
returns-in_err-modules-clause-says g c =
    let mode = c.args.command.now.mode in
    let files = c.args.command.now.files in
    let sources = sourced (g.S.Sources.told c.args.sources.now) (g.S.Sources.faults c.args.sources.now) (g.S.Sources.faults c.load_all.new.sources) in
    let sink = sunk (g.K.Sink.written c.args.sink.now) (g.K.Sink.written c.args.sink.now) (g.K.Sink.faults c.args.sink.now) (g.K.Sink.faults c.args.sink.now) in
    let fault = c.in_err-modules.field-0.0 in
    handed_on (Says mode files sources sink) c.from_residual.result fault c.from_residual.ensures.1 (says_stopped mode files sources sink fault (status_of_fault fault) c.in_err-modules.ensures.stops)

pub returns-clause-says : goal.returns-clause-says
returns-clause-says g c =
    let mode = c.args.command.now.mode in
    let files = c.args.command.now.files in
    let sources = sourced (g.S.Sources.told c.args.sources.now) (g.S.Sources.faults c.args.sources.now) (g.S.Sources.faults c.load_all.new.sources) in
    let sink = sunk (g.K.Sink.written c.args.sink.now) (g.K.Sink.written c.run_mode.new.sink) (g.K.Sink.faults c.args.sink.now) (g.K.Sink.faults c.run_mode.new.sink) in
    says_read mode files sources sink c.in_ok-modules.modules.items c.in_ok-modules.ensures.loaded _ _ c.run_mode.ensures.says
