use Rattle.std.proofs.Common.{◌≡◌, ◌++◌, drop}
use Rattle.hy_core.specs.Tables.{local_infos}
use Rattle.core_tables.proofs.infos.push_local.Given as goal

abbrev pub invariant-loop-names : goal.invariant-loop-names
invariant-loop-names l = l.infos.items ++ local_infos l.places (drop l.names-index l.modules) ≡ l.fn.infos.items ++ local_infos l.places l.modules
