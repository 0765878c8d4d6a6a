use Rattle.core_lint.proofs.InOrderLemmas.{found_of_kind}
use Rattle.core_lint.proofs.kinds.first_in_kinds.Goals as goal

pub returns-then-is_some : goal.returns-then-is_some
returns-then-is_some c = found_of_kind c.args.program.now c.loop-kind.kind c.loop-kind.invariant.0 c.in_ok-found.found c.in_ok-found.ensures cc
