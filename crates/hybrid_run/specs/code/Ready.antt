-- Programs that are about to run. This project's own.
use Rattle.std.specs.Prelude.{◌≡◌, List}
use Rattle.hy_core.specs.Faults.{IsAccepted}
use Rattle.hy_core.specs.Numbered.{numbered_program}
use Rattle.hy_core.specs.declared.tree.Module.{Module}
use Rattle.hy_core.specs.declared.tree.Program.{Program}
use Rattle.hy_core.specs.PreludeModules.{with_prelude}
use Rattle.hybrid_run.specs.Headline.{IsBuiltFor}
use Rattle.hybrid_run.specs.declared.command.Mode.TheVariants.{Run}

-- This is the program of these modules with its own numbers. It is accepted, and mode `run` is
-- built for it.
pub record IsReady (zs : List Module) (program : Program) : Type 0 where
  pub numbered : program ≡ numbered_program (with_prelude zs)
  pub accepted : IsAccepted (with_prelude zs)
  pub built : IsBuiltFor Run zs
