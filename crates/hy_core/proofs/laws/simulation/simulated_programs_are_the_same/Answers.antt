use Rattle.hy_core.proofs.SamePrograms.{simulated_program}
use Rattle.hy_core.proofs.laws.simulation.simulated_programs_are_the_same.Goals as goal

pub returns : goal.returns
returns g c atoms source program tops bodies limit =
    let s = g.S.ProgramSetting in
    simulated_program s.known s.calls atoms source program tops bodies limit
