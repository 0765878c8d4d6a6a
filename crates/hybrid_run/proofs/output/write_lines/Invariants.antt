use Rattle.std.proofs.Common.{◌≤◌, take}
use Rattle.hybrid_run.specs.Arithmetic.{printed_lines}
use Rattle.outside.specs.Outside.{Appends}
use Rattle.hybrid_run.proofs.output.write_lines.Given as goal

-- the texts so far stand in the sink, which has not failed less often
abbrev pub invariant-loop-value : goal.invariant-loop-value
invariant-loop-value g l = record {
  written : Appends (g.K.Sink.written l.fn.sink) (g.K.Sink.written l.sink) (printed_lines (take l.value-index l.printed));
  counts : g.K.Sink.faults l.fn.sink ≤ g.K.Sink.faults l.sink;
}
