use Rattle.std.proofs.Common.{[], ◌∷◌}
use Rattle.hy_core.proofs.Timing.{none_left}
use Rattle.hy_ir.specs.Acts.{Called, Has}
use Rattle.hy_ir.specs.Meaning.{body_of}
use Rattle.hy_ir.proofs.laws.meaning.no_inputs_are_left.Goals as goal

pub returns : goal.returns
returns c code place pid p calls =
    none_left Has (Called ∷ []) (body_of code place pid) calls p
