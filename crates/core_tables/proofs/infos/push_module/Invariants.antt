use Rattle.std.proofs.Common.{◌≡◌, ◌++◌, map, take}
use Rattle.hy_core.specs.Tables.{info_of}
use Rattle.core_tables.proofs.infos.push_module.Given as goal

abbrev pub invariant-loop-function : goal.invariant-loop-function
invariant-loop-function l = l.infos.items ≡ l.fn.infos.items ++ map (info_of l.places l.names) (take l.function-index l.functions)
