use Rattle.std.proofs.Common.{◌∙◌, arith}
use Rattle.hybrid_run.proofs.Written.{line_written, line_cut}
use Rattle.hybrid_run.proofs.output.write_lines.Goals as goal

pub returns-in-Err-clause-prefix : goal.returns-in-Err-clause-prefix
returns-in-Err-clause-prefix g c = λ _.
    line_cut (g.K.Sink.written c.args.sink.now) (g.K.Sink.written c.loop-value.sink) (g.K.Sink.written c.write.new.self) c.args.printed.now c.loop-value.value-index _ c.as_slice.result.now c.loop-value-test.true (c.as_slice.ensures.value ∙ c.in_ok-text.ensures) c.loop-value.invariant.written c.in-Err.ensures.prefix

pub loop-value-preserved : goal.loop-value-preserved
loop-value-preserved g c = record {
  written = line_written (g.K.Sink.written c.args.sink.now) (g.K.Sink.written c.loop-value.sink) (g.K.Sink.written c.write.new.self) c.args.printed.now c.loop-value.value-index _ c.as_slice.result.now c.loop-value-test.true (c.as_slice.ensures.value ∙ c.in_ok-text.ensures) c.loop-value.invariant.written c.in-Ok.ensures.ok;
  counts = omega (arith, c.loop-value.invariant.counts, c.write.ensures.counts);
}
