use Rattle.std.proofs.Common.{List, ℕ}
use Rattle.hybrid_run.specs.Answers.{IsUsageAnswer, Says}
use Rattle.hybrid_run.specs.Faults.{fault_of_answer, status_of_answer}
use Rattle.hybrid_run.specs.Headline.{sunk}
use Rattle.hybrid_run.specs.Loading.{sourced}
use Rattle.hybrid_run.specs.declared.command.Mode.{Mode}
use Rattle.hybrid_run.proofs.CommandReading.{is_command}
use Rattle.hybrid_run.proofs.Residuals.{handed_on, same_fault}
use Rattle.hybrid_run.proofs.Telling.{each_command, no_usage, says_unread, usage_unread}
use Rattle.hybrid_run.proofs.top.answer.Goals as goal

pub returns-in_err-command-clause-says : goal.returns-in_err-command-clause-says
returns-in_err-command-clause-says g c = λ mode files is.
    let sources = sourced (g.S.Sources.told c.args.sources.now) (g.S.Sources.faults c.args.sources.now) (g.S.Sources.faults c.args.sources.now) in
    let sink = sunk (g.K.Sink.written c.args.sink.now) (g.K.Sink.written c.args.sink.now) (g.K.Sink.faults c.args.sink.now) (g.K.Sink.faults c.args.sink.now) in
    let fault = c.in_err-command.field-0.0 in
    handed_on (Says mode files sources sink) c.from_residual.result fault c.from_residual.ensures.1 (says_unread c.args.words.now fault sources sink c.in_err-command.ensures mode files is)

pub returns-in_err-command-clause-usage_only : goal.returns-in_err-command-clause-usage_only
returns-in_err-command-clause-usage_only g c = λ is.
    usage_unread c.args.words.now c.in_err-command.field-0.0 c.in_err-command.ensures (same_fault c.from_residual.result c.in_err-command.field-0.0 _ c.from_residual.ensures.1 is)

pub run_command-requires-clause-few : goal.run_command-requires-clause-few
run_command-requires-clause-few g c = λ _ _. (is_command c.args.words.now c.in_ok-command.command.mode c.in_ok-command.command.files c.in_ok-command.ensures).few

pub returns-clause-says : goal.returns-clause-says
returns-clause-says g c =
    let sources = sourced (g.S.Sources.told c.args.sources.now) (g.S.Sources.faults c.args.sources.now) (g.S.Sources.faults c.run_command.new.sources) in
    let sink = sunk (g.K.Sink.written c.args.sink.now) (g.K.Sink.written c.run_command.new.sink) (g.K.Sink.faults c.args.sink.now) (g.K.Sink.faults c.run_command.new.sink) in
    each_command c.args.words.now c.in_ok-command.command.mode c.in_ok-command.command.files
    (λ (mode : Mode) (files : List (List ℕ)). Says mode files sources sink (status_of_answer c.run_command.result) (fault_of_answer c.run_command.result)) c.in_ok-command.ensures c.run_command.ensures.says

pub returns-clause-usage : goal.returns-clause-usage
returns-clause-usage g c = λ usage. no_usage c.args.words.now c.in_ok-command.command.mode c.in_ok-command.command.files (IsUsageAnswer c.run_command.result) c.in_ok-command.ensures usage
