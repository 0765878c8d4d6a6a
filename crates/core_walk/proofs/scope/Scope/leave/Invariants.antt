use Rattle.std.proofs.Common.{◌≡◌, ◌≤◌, take, length}
use Rattle.core_walk.proofs.scope.Scope.leave.Given as goal

abbrev pub invariant-loop-self : goal.invariant-loop-self
invariant-loop-self l = (l.depth ≤ length l.self) × (take l.depth l.self ≡ take l.depth l.fn.self)

abbrev pub decreases-loop-self : goal.decreases-loop-self
decreases-loop-self l = length l.self
