use Rattle.std.proofs.Common.{◌≡◌, ◌++◌, drop, map}
use Rattle.hy_ir.specs.Inclusions.{arms_inclusions, parts_inclusions}
use Rattle.hy_ir.specs.View.{arm_of, arms_in, part_of, parts_in}
use Rattle.flow_rules.proofs.trees.+walk.Given as goal

abbrev pub invariant-parts_rules-loop-part : goal.invariant-parts_rules-loop-part
invariant-parts_rules-loop-part l =
    l.rules.items ++ parts_inclusions l.f (parts_in (map part_of (drop l.part-index l.parts)))
    ≡ l.fn.rules.items ++ parts_inclusions l.f (parts_in (map part_of l.parts))

abbrev pub invariant-arms_rules-loop-arm : goal.invariant-arms_rules-loop-arm
invariant-arms_rules-loop-arm l =
    l.rules.items ++ arms_inclusions l.f (arms_in (map arm_of (drop l.arm-index l.arms))) l.goes
    ≡ l.fn.rules.items ++ arms_inclusions l.f (arms_in (map arm_of l.arms)) l.goes
