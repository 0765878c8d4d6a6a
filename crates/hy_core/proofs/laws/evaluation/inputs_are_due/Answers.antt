use Rattle.std.proofs.Common.{[]}
use Rattle.hy_core.specs.Evaluation.{body_of}
use Rattle.hy_core.proofs.Timing.{at_use}
use Rattle.hy_core.proofs.laws.evaluation.inputs_are_due.Goals as goal

pub returns : goal.returns
returns c program atoms pid p calls inputs before i later e = at_use (λ e. e) [] (body_of program atoms pid) calls p inputs before i later e
