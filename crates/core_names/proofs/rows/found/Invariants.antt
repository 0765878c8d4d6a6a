use Rattle.std.proofs.Common.{◌≡◌, drop, map}
use Rattle.core_names.specs.code.Rows.{found_in}
use Rattle.core_names.proofs.rows.found.Given as goal

abbrev pub invariant-loop-row : goal.invariant-loop-row
invariant-loop-row l =
    found_in (map (λ row. (row.0.now, (row.1, row.2))) (drop l.row-index l.rows)) l.name l.arity ≡ found_in (map (λ row. (row.0.now, (row.1, row.2))) l.rows) l.name l.arity
