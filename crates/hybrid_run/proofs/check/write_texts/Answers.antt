use Rattle.std.proofs.Common.{◌∙◌, arith, take}
use Rattle.hy_core.specs.Canonical.{one_after_another}
use Rattle.hybrid_run.proofs.Written.{appends_keeps, keeps_both, prefix_keeps, text_cut, text_written}
use Rattle.hybrid_run.proofs.check.write_texts.Goals as goal

pub returns-in-Err-clause-prefix : goal.returns-in-Err-clause-prefix
returns-in-Err-clause-prefix g c =
    text_cut (g.K.Sink.written c.args.sink.now) (g.K.Sink.written c.loop-text.sink) (g.K.Sink.written c.write.new.self) c.args.texts.now c.loop-text.text-index c.text-item.result c.as_slice.result.now c.loop-text-test.true
    (c.as_slice.ensures ∙ c.text-item.is) c.loop-text.invariant.written c.in-Err.ensures.prefix

pub returns-in-Err-clause-kept : goal.returns-in-Err-clause-kept
returns-in-Err-clause-kept g c =
    let before = g.K.Sink.written c.args.sink.now in
    let mid = g.K.Sink.written c.loop-text.sink in
    let now = g.K.Sink.written c.write.new.self in
    keeps_both before mid now (appends_keeps before mid (one_after_another (take c.loop-text.text-index c.args.texts.now)) c.loop-text.invariant.written) (prefix_keeps mid now c.as_slice.result.now c.in-Err.ensures.prefix)

pub loop-text-preserved : goal.loop-text-preserved
loop-text-preserved g c = record {
  written =
      text_written (g.K.Sink.written c.args.sink.now) (g.K.Sink.written c.loop-text.sink) (g.K.Sink.written c.write.new.self) c.args.texts.now c.loop-text.text-index c.text-item.result c.as_slice.result.now c.loop-text-test.true
      (c.as_slice.ensures ∙ c.text-item.is) c.loop-text.invariant.written c.in-Ok.ensures.ok;
  counts = omega (arith, c.loop-text.invariant.counts, c.write.ensures.counts);
}
