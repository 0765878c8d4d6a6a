use Rattle.std.proofs.Common.{◌≤◌, take}
use Rattle.hy_core.specs.Canonical.{one_after_another}
use Rattle.outside.specs.Outside.{Appends}
use Rattle.hybrid_run.proofs.check.write_texts.Given as goal

-- the texts so far stand in the sink, which has not failed less often
abbrev pub invariant-loop-text : goal.invariant-loop-text
invariant-loop-text g l = record {
  written : Appends (g.K.Sink.written l.fn.sink) (g.K.Sink.written l.sink) (one_after_another (take l.text-index l.texts));
  counts : g.K.Sink.faults l.fn.sink ≤ g.K.Sink.faults l.sink;
}
