use Rattle.std.proofs.Common.{◌≤◌, ◌-◌, ◌^◌, length, take}
use Rattle.std.specs.List.{All as Each}
use Rattle.flow_solver.specs.code.Carries.{Steady, Grows, Carried, Reads}
use Rattle.flow_solver.specs.code.Tables.{state_of}
use Rattle.flow_solver.proofs.worklist.run.Given as goal

abbrev pub invariant-loop-next : goal.invariant-loop-next
invariant-loop-next l = record {
  steady : Steady (Reads l.readers) (state_of l.work);
  grows : Grows (state_of l.fn.work) (state_of l.work);
  within : l.next ≤ length l.work.members.keys;
  carried : Each (Carried l.readers (state_of l.work)) (take l.next l.work.members.keys);
}

abbrev pub decreases-loop-next : goal.decreases-loop-next
decreases-loop-next l = 2 ^ 63 - l.next
