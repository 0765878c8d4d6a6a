use Rattle.std.proofs.Common.{[], ◌∷◌}
use Rattle.hy_core.specs.ResolvedExample.{names, modules}
use Rattle.hy_core.proofs.Written.{program_is}
use Rattle.hy_core.proofs.laws.runs.calls_events_and_sites_are_resolved.Goals as goal

pub returns : goal.returns
returns c = program_is names (0 ∷ 1 ∷ 2 ∷ 3 ∷ 4 ∷ 5 ∷ 6 ∷ 7 ∷ []) modules
