use Rattle.std.proofs.Common.{take}
use Rattle.std.specs.List.{All as Each}
use Rattle.flow_sets.specs.declared.inclusion.Inclusion.{Inclusion}
use Rattle.flow_solver.specs.code.Carries.{Steady, Grows, Followed, Reads}
use Rattle.flow_solver.specs.code.Tables.{state_of}
use Rattle.flow_solver.proofs.work.carry.Given as goal

abbrev pub invariant-loop-rule : goal.invariant-loop-rule
invariant-loop-rule l = record {
  steady : Steady (Reads l.readers) (state_of l.work);
  grows : Grows (state_of l.fn.work) (state_of l.work);
  followed : Each (λ (rule : Inclusion). Followed (state_of l.work) rule l.member.site)
      (take l.rule-index l.rules);
}
