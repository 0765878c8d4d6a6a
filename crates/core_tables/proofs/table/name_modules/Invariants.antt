use Rattle.std.proofs.Common.{◌≡◌, drop}
use Rattle.hy_core.specs.Tables.{with_modules}
use Rattle.core_tables.proofs.table.name_modules.Given as goal

abbrev pub invariant-loop-names : goal.invariant-loop-names
invariant-loop-names l = with_modules l.table (drop l.names-index l.modules) ≡ with_modules l.fn.table l.modules
