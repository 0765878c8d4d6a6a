use Rattle.hy_core.proofs.SimulatingHere.{mapped_alike, map_attempt}
use Rattle.hy_core.proofs.laws.simulation.mapped_computations_simulate.Goals as goal

pub returns-clause-simulates : goal.returns-clause-simulates
returns-clause-simulates g c callee wait waiting waiting' same p =
    mapped_alike callee wait (λ a. Unit {0}) (λ a. tt) waiting waiting' same p

pub returns-clause-parts : goal.returns-clause-parts
returns-clause-parts g c callee wait p k h = map_attempt callee wait p k h
