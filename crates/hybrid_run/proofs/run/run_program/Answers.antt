use Rattle.std.proofs.Common.{List, subst}
use Rattle.std.specs.Prelude.{OnOk}
use Rattle.hybrid_run.specs.Arithmetic.{output_of}
use Rattle.hybrid_run.specs.Headline.{sunk}
use Rattle.hybrid_run.specs.declared.value.Value.{Value}
use Rattle.outside.specs.Outside.{Appends, AppendsPrefix}
use Rattle.hybrid_run.proofs.Doing.{run_says}
use Rattle.hybrid_run.proofs.run.run_program.Goals as goal

pub returns-in-Ok-clause-says : goal.returns-in-Ok-clause-says
returns-in-Ok-clause-says g c = λ zs ready.
    let before = g.K.Sink.written c.args.sink.now in
    let now = g.K.Sink.written c.write_output.new.sink in
    let sink = sunk before now (g.K.Sink.faults c.args.sink.now) (g.K.Sink.faults c.write_output.new.sink) in
    let outcome = c.in-Ok.outcome in
    let wrote = c.write_output.ensures in
    run_says zs sink ready.accepted ready.built outcome.printed.items outcome.ending (c.in-Ok.ensures zs ready) c.write_output.result wrote.status
    (subst (λ (values : List Value). OnOk c.write_output.result (Appends before now (output_of values outcome.ending))) c.as_slice.ensures.value wrote.ok)
    (λ write. subst (λ (values : List Value). AppendsPrefix before now (output_of values outcome.ending)) c.as_slice.ensures.value (wrote.prefix write)) wrote.rises wrote.kinds
