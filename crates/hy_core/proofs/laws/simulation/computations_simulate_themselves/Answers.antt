use Rattle.hy_core.proofs.Simulating.{simulates_itself}
use Rattle.hy_core.proofs.laws.simulation.computations_simulate_themselves.Goals as goal

pub returns : goal.returns
returns g c waiting p = simulates_itself waiting p
