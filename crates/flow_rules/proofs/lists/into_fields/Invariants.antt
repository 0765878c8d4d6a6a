use Rattle.std.proofs.Common.{◌≡◌, ◌++◌, drop}
use Rattle.hy_ir.specs.Inclusions.{into_fields}
use Rattle.flow_rules.proofs.lists.into_fields.Given as goal

abbrev pub invariant-loop-arg : goal.invariant-loop-arg
invariant-loop-arg l =
    l.rules.items ++ into_fields l.f l.site l.field (drop l.arg-index l.args)
    ≡ l.fn.rules.items ++ into_fields l.f l.site 1 l.args
