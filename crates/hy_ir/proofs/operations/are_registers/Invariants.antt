use Rattle.std.proofs.Common.{◌≡◌, drop}
use Rattle.hy_ir.specs.Checking.{are_registers}
use Rattle.hy_ir.proofs.operations.are_registers.Given as goal

abbrev pub invariant-loop-register : goal.invariant-loop-register
invariant-loop-register l =
    are_registers l.registers (drop l.register-index l.list) ≡ are_registers l.registers l.list
