use Rattle.std.proofs.Common.{◌≡◌, ◌++◌, drop}
use Rattle.hy_ir.specs.Inclusions.{into_sent}
use Rattle.flow_rules.proofs.lists.into_sent.Given as goal

abbrev pub invariant-loop-arg : goal.invariant-loop-arg
invariant-loop-arg l =
    l.rules.items ++ into_sent l.f (drop l.arg-index l.args)
    ≡ l.fn.rules.items ++ into_sent l.f l.args
