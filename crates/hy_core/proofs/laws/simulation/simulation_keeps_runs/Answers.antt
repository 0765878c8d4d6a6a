use Rattle.hy_core.proofs.Simulating.{simulates_run, simulates_does}
use Rattle.hy_core.proofs.laws.simulation.simulation_keeps_runs.Goals as goal

pub returns : goal.returns
returns g c value did note shown waiting waiting' body body' unseen bodies p q s calls inputs =
    let r = g.Relation.Correspondence in (
      simulates_run value did note shown r.allowed r.calls waiting waiting' body body' unseen bodies calls p q inputs s,
      simulates_does value did note shown r.allowed r.calls waiting waiting' body body' bodies calls p q inputs s,
    )
