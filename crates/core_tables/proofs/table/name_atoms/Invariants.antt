use Rattle.std.proofs.Common.{◌≡◌, drop}
use Rattle.hy_core.specs.Tables.{with_texts}
use Rattle.core_tables.proofs.table.name_atoms.Given as goal

abbrev pub invariant-loop-atom : goal.invariant-loop-atom
invariant-loop-atom l = with_texts l.table (drop l.atom l.atoms) ≡ with_texts l.fn.table l.atoms
