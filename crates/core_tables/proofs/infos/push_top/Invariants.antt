use Rattle.std.proofs.Common.{◌≡◌, ◌++◌, drop}
use Rattle.hy_core.specs.Tables.{top_infos}
use Rattle.core_tables.proofs.infos.push_top.Given as goal

abbrev pub invariant-loop-names : goal.invariant-loop-names
invariant-loop-names l = l.infos.items ++ top_infos l.places (drop l.names-index l.modules) ≡ l.fn.infos.items ++ top_infos l.places l.modules
