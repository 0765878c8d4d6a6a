use Rattle.std.proofs.Common.{◌≡◌, map, take}
use Rattle.hy_core.specs.Tables.{renamed_name}
use Rattle.core_tables.proofs.numbering.number_exports.Given as goal

abbrev pub invariant-loop-name : goal.invariant-loop-name
invariant-loop-name l = l.exports ≡ map (renamed_name l.places l.names) (take l.name-index l.name-items)
