use Rattle.std.proofs.Common.{◌≡◌, drop}
use Rattle.hy_ir.specs.Checking.{all_checked}
use Rattle.hy_ir.specs.View.{code_of}
use Rattle.hy_ir.proofs.operations.are_valid_operations.Given as goal

abbrev pub invariant-loop-operation : goal.invariant-loop-operation
invariant-loop-operation l =
    all_checked (code_of l.code) l.registers (drop l.operation-index l.operations)
    ≡ all_checked (code_of l.code) l.registers l.operations
