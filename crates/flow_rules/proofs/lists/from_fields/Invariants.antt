use Rattle.std.proofs.Common.{◌≡◌, ◌++◌, drop}
use Rattle.hy_ir.specs.Inclusions.{from_fields}
use Rattle.flow_rules.proofs.lists.from_fields.Given as goal

abbrev pub invariant-loop-out : goal.invariant-loop-out
invariant-loop-out l =
    l.rules.items ++ from_fields l.f l.base l.field (drop l.out-index l.outs)
    ≡ l.fn.rules.items ++ from_fields l.f l.base 1 l.outs
