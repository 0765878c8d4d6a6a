use Rattle.std.proofs.Common.{◌≡◌, ◌++◌, drop}
use Rattle.std.specs.List.{flat_map}
use Rattle.hy_ir.specs.Inclusions.{operation_inclusions}
use Rattle.flow_rules.proofs.operations.operations_rules.Given as goal

abbrev pub invariant-loop-operation : goal.invariant-loop-operation
invariant-loop-operation l =
    l.rules.items ++ flat_map (operation_inclusions l.f) (drop l.operation-index l.operations)
    ≡ l.fn.rules.items ++ flat_map (operation_inclusions l.f) l.operations
