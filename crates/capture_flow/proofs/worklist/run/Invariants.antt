use Rattle.std.proofs.Common.{◌-◌, ◌^◌}
use Rattle.capture_flow.proofs.Solved.{Steady}
use Rattle.capture_flow.proofs.worklist.run.Given as goal

abbrev pub invariant-loop-next : goal.invariant-loop-next
invariant-loop-next l = Steady l.edges l.fn.members.keys l.members.keys l.next

abbrev pub decreases-loop-next : goal.decreases-loop-next
decreases-loop-next l = 2 ^ 64 - l.next
