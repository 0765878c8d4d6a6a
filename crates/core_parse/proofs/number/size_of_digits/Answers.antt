use Rattle.std.proofs.Common.{◌≡◌, ◌≤◌, ◌+◌, ◌-◌, ◌*◌, drop, get_or, arith}
use Rattle.hy_core.specs.Marks.{value, value_behind}
use Rattle.core_parse.proofs.Digits.{value_grows, value_at}
use Rattle.core_parse.proofs.number.size_of_digits.Goals as goal

pub returns-then-size-gt-LARGEST_SIZE : goal.returns-then-size-gt-LARGEST_SIZE
returns-then-size-gt-LARGEST_SIZE c =
    let ds = c.args.digits.now in
    let i = c.loop-digit.digit-index in
    let n = 10 * c.loop-digit.size + (get_or ds i 0 - 48) in
    let rest : value_behind n (drop (i + 1) ds) ≡ value ds = value_at ds i c.loop-digit.size 0 _ c.loop-digit-test.true c.loop-digit.invariant.0 in
    let grown : n ≤ value_behind n (drop (i + 1) ds) = value_grows (drop (i + 1) ds) n in
    omega arith
