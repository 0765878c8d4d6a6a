use Rattle.std.proofs.Common.{◌≡◌, ◌++◌, drop}
use Rattle.std.specs.List.{flat_map}
use Rattle.hy_ir.specs.Inclusions.{test_inclusions}
use Rattle.flow_rules.proofs.operations.tests_rules.Given as goal

abbrev pub invariant-loop-test : goal.invariant-loop-test
invariant-loop-test l =
    l.rules.items ++ flat_map (test_inclusions l.f) (drop l.test-index l.tests)
    ≡ l.fn.rules.items ++ flat_map (test_inclusions l.f) l.tests
