use Rattle.std.proofs.Common.{◌≡◌, ◌++◌, drop}
use Rattle.std.specs.List.{flat_map}
use Rattle.language_cases.specs.Pieces.{name}
use Rattle.language_cases.proofs.pieces.names_in.Given as goal

abbrev pub invariant-loop-number : goal.invariant-loop-number
invariant-loop-number l = l.names.items ++ flat_map name (drop l.number l.table) ≡ flat_map name l.table
