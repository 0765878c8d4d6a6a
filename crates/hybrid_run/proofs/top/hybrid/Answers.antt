use Rattle.std.proofs.Common.{ℕ, [], ◌∷◌, Option, length, sym, subst, ◌∙◌}
use Rattle.std.specs.Prelude.{Contains, IfSome}
use Rattle.hybrid_run.specs.Answers.{Answers}
use Rattle.hybrid_run.specs.Faults.{IsOfFiles}
use Rattle.hybrid_run.specs.Headline.{sunk}
use Rattle.hybrid_run.specs.Loading.{sourced}
use Rattle.hybrid_run.specs.Told.{AnswersTold}
use Rattle.hybrid_run.specs.declared.fault.TopFault.{TopFault}
use Rattle.hybrid_run.specs.declared.top.Finish.{Finish}
use Rattle.hybrid_run.proofs.Telling.{answers_told, finish_statuses, finish_usage_only, names_file, same_finish}
use Rattle.hybrid_run.proofs.top.hybrid.Goals as goal

pub returns-clause-usage_only : goal.returns-clause-usage_only
returns-clause-usage_only g c = λ is. c.answer.ensures.usage_only (finish_usage_only c.answer.result c.answer.ensures.status (sym c.finish_of.ensures.status ∙ is))

pub returns-clause-answers : goal.returns-clause-answers
returns-clause-answers g c = λ mode files is.
    let sources = sourced (g.S.Sources.told c.args.sources.now) (g.S.Sources.faults c.args.sources.now) (g.S.Sources.faults c.answer.new.sources) in
    let sink = sunk (g.K.Sink.written c.args.sink.now) (g.K.Sink.written c.answer.new.sink) (g.K.Sink.faults c.args.sink.now) (g.K.Sink.faults c.answer.new.sink) in
    subst (λ (k : Finish). Answers mode files sources sink k) (sym (same_finish c.answer.result c.finish_of.result c.finish_of.ensures.status c.finish_of.ensures.refused)) (c.answer.ensures.says mode files is)

pub returns-clause-follows : goal.returns-clause-follows
returns-clause-follows g c = λ mode files is.
    let sources = sourced (g.S.Sources.told c.args.sources.now) (g.S.Sources.faults c.args.sources.now) (g.S.Sources.faults c.answer.new.sources) in
    let sink = sunk (g.K.Sink.written c.args.sink.now) (g.K.Sink.written c.answer.new.sink) (g.K.Sink.faults c.args.sink.now) (g.K.Sink.faults c.answer.new.sink) in
    subst (λ (k : Finish). AnswersTold mode files sources sink k) (sym (same_finish c.answer.result c.finish_of.result c.finish_of.ensures.status c.finish_of.ensures.refused))
    (answers_told mode files sources sink c.answer.result c.answer.ensures.status (c.answer.ensures.says mode files is))

pub returns-clause-names_file : goal.returns-clause-names_file
returns-clause-names_file g c = λ files named.
    let sources = sourced (g.S.Sources.told c.args.sources.now) (g.S.Sources.faults c.args.sources.now) (g.S.Sources.faults c.answer.new.sources) in
    let sink = sunk (g.K.Sink.written c.args.sink.now) (g.K.Sink.written c.answer.new.sink) (g.K.Sink.faults c.args.sink.now) (g.K.Sink.faults c.answer.new.sink) in
    subst (λ (refused : Option TopFault). IfSome refused (λ fault. IsOfFiles fault (length files))) (sym c.finish_of.ensures.refused)
    (names_file c.args.words.now files c.answer.result sources sink named c.answer.ensures.says c.answer.ensures.usage)

pub returns-clause-statuses : goal.returns-clause-statuses
returns-clause-statuses g c = subst (λ (status : ℕ). Contains (0 ∷ 1 ∷ 2 ∷ 3 ∷ 6 ∷ 7 ∷ 8 ∷ []) status) (sym c.finish_of.ensures.status) (finish_statuses c.answer.result c.answer.ensures.status)

pub returns-clause-same : goal.returns-clause-same
returns-clause-same g c = λ i name. c.answer.ensures.same name i
