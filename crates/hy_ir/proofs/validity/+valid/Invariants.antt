use Rattle.std.proofs.Common.{◌≡◌, drop, map}
use Rattle.hy_ir.specs.Checking.{arms_checked, parts_checked}
use Rattle.hy_ir.specs.View.{arm_of, arms_in, code_of, part_of, parts_in}
use Rattle.hy_ir.proofs.validity.+valid.Given as goal

abbrev pub invariant-are_valid_parts-loop-part : goal.invariant-are_valid_parts-loop-part
invariant-are_valid_parts-loop-part l =
    parts_checked (code_of l.code) l.registers (parts_in (map part_of (drop l.part-index l.parts)))
    ≡ parts_checked (code_of l.code) l.registers (parts_in (map part_of l.parts))

abbrev pub invariant-are_valid_arms-loop-arm : goal.invariant-are_valid_arms-loop-arm
invariant-are_valid_arms-loop-arm l =
    arms_checked (code_of l.code) l.registers l.inner
    (arms_in (map arm_of (drop l.arm-index l.arms)))
    ≡ arms_checked (code_of l.code) l.registers l.inner (arms_in (map arm_of l.arms))
