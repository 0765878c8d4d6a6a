use Rattle.std.proofs.Common.{[], ◌∷◌}
use Rattle.hy_core.specs.Computation.{dones}
use Rattle.hy_core.proofs.Timing.{more_inputs, more_calls, events_begin}
use Rattle.hy_ir.specs.Acts.{Called, Has}
use Rattle.hy_ir.specs.Meaning.{body_of}
use Rattle.hy_ir.proofs.laws.meaning.only_more_happens.Goals as goal

pub returns : goal.returns
returns c code place pid p calls inputs = record {
  with_inputs = λ more.
      let h = more_inputs Has (Called ∷ []) (body_of code place pid) calls p inputs more in
      record { more = dones h.more; appended = events_begin _ _ h };
  with_a_call =
      let h = more_calls Has (Called ∷ []) (body_of code place pid) calls p inputs in
      record { more = dones h.more; appended = events_begin _ _ h };
}
