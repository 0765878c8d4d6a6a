use Rattle.std.proofs.Common.{◌≡◌, ◌≤◌, ◌^◌, length, take}
use Rattle.core_tables.proofs.atom_numbers.table_of.Given as goal

abbrev pub invariant-loop-place : goal.invariant-loop-place
invariant-loop-place l = record {
  taken : l.table ≡ take l.place l.texts;
  few : length l.table ≤ 2 ^ 20;
}
