use Rattle.std.proofs.Common.{[]}
use Rattle.hy_core.specs.Evaluation.{body_of, denote}
use Rattle.hy_core.proofs.Timing.{none_left}
use Rattle.hy_core.proofs.laws.evaluation.no_inputs_are_left.Goals as goal

pub returns : goal.returns
returns c program atoms pid e env calls = none_left (λ e. e) [] (body_of program atoms pid) calls (denote atoms pid e env)
