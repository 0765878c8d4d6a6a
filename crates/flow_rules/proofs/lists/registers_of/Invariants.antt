use Rattle.std.proofs.Common.{◌≡◌, ◌++◌, true, drop}
use Rattle.std.specs.List.{list_all}
use Rattle.flow_sets.specs.Targets.{is_many}
use Rattle.hy_ir.specs.Inclusions.{registers_of}
use Rattle.flow_rules.proofs.lists.registers_of.Given as goal

abbrev pub invariant-loop-number : goal.invariant-loop-number
invariant-loop-number l =
    (l.sets ++ registers_of l.f (drop l.number-index l.registers) ≡ registers_of l.f l.registers)
    × (list_all is_many l.sets ≡ true)
