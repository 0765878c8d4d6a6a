use Rattle.std.proofs.Common.{◌≡◌, drop}
use Rattle.hy_ir.specs.Checking.{tests_checked}
use Rattle.hy_ir.specs.View.{code_of}
use Rattle.hy_ir.proofs.operations.are_valid_tests.Given as goal

abbrev pub invariant-loop-test : goal.invariant-loop-test
invariant-loop-test l =
    tests_checked (code_of l.code) l.registers (drop l.test-index l.tests)
    ≡ tests_checked (code_of l.code) l.registers l.tests
