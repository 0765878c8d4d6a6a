use Rattle.std.proofs.Common.{[]}
use Rattle.hy_core.specs.Computation.{dones}
use Rattle.hy_core.specs.Evaluation.{body_of, denote}
use Rattle.hy_core.proofs.Timing.{more_inputs, more_calls, events_begin}
use Rattle.hy_core.proofs.laws.evaluation.only_more_happens.Goals as goal

pub returns : goal.returns
returns c program atoms pid e env calls inputs = record {
  with_inputs = λ more.
      let h = more_inputs (λ e. e) [] (body_of program atoms pid) calls (denote atoms pid e env) inputs more in
      record { more = dones h.more; appended = events_begin _ _ h };
  with_a_call =
      let h = more_calls (λ e. e) [] (body_of program atoms pid) calls (denote atoms pid e env) inputs in
      record { more = dones h.more; appended = events_begin _ _ h };
}
