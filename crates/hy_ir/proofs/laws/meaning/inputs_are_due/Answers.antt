use Rattle.std.proofs.Common.{[], ◌∷◌}
use Rattle.hy_core.proofs.Timing.{at_use}
use Rattle.hy_ir.specs.Acts.{Called, Has}
use Rattle.hy_ir.specs.Meaning.{body_of}
use Rattle.hy_ir.proofs.laws.meaning.inputs_are_due.Goals as goal

pub returns : goal.returns
returns c code place pid p calls inputs before i later e =
    at_use Has (Called ∷ []) (body_of code place pid) calls p inputs before i later e
