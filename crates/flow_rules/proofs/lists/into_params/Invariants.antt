use Rattle.std.proofs.Common.{◌≡◌, ◌++◌, drop}
use Rattle.hy_ir.specs.Inclusions.{into_params}
use Rattle.flow_rules.proofs.lists.into_params.Given as goal

abbrev pub invariant-loop-arg : goal.invariant-loop-arg
invariant-loop-arg l =
    l.rules.items ++ into_params l.f l.function l.param (drop l.arg-index l.args)
    ≡ l.fn.rules.items ++ into_params l.f l.function 0 l.args
