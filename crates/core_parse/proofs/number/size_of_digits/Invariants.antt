use Rattle.std.proofs.Common.{◌≡◌, ◌≤◌, ◌^◌, drop}
use Rattle.hy_core.specs.Marks.{value, value_behind}
use Rattle.core_parse.proofs.number.size_of_digits.Given as goal

abbrev pub invariant-loop-digit : goal.invariant-loop-digit
invariant-loop-digit l = (value_behind l.size (drop l.digit-index l.digits) ≡ value l.digits) × (l.size ≤ 2 ^ 59)
