use Rattle.std.proofs.Common.{ℕ, List, subst, ◌∙◌}
use Rattle.hy_core.specs.Output.{outcome_line}
use Rattle.hybrid_run.specs.Arithmetic.{printed_lines, end_of}
use Rattle.outside.specs.Outside.{AppendsPrefix}
use Rattle.hybrid_run.proofs.Written.{prefix_behind}
use Rattle.hybrid_run.proofs.output.write_output.Goals as goal

pub returns-clause-prefix : goal.returns-clause-prefix
returns-clause-prefix g c = λ _.
    let before = g.K.Sink.written c.args.sink.now in
    let mid = g.K.Sink.written c.write_lines.new.sink in
    let now = g.K.Sink.written c.write.new.self in
    let line = outcome_line 0 (end_of c.args.ending) in
    prefix_behind before mid now (printed_lines c.args.printed.now) line c.in_ok-write_lines.ensures.ok
    (subst (λ (k : List ℕ). AppendsPrefix mid now k) (c.as_slice.ensures.value ∙ c.in_ok-line.ensures) c.in-Err.ensures.prefix)
