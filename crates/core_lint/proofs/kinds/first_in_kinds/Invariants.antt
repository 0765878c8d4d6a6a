use Rattle.std.proofs.Common.{◌≤◌}
use Rattle.core_lint.specs.code.InOrder.{HasNoneBelow}
use Rattle.core_lint.proofs.kinds.first_in_kinds.Given as goal

abbrev pub invariant-loop-kind : goal.invariant-loop-kind
invariant-loop-kind l = HasNoneBelow l.program l.kind × (1 ≤ l.kind)
