use Rattle.std.proofs.Common.{◌≡◌, ℕ, true, take}
use Rattle.std.specs.List.{list_any}
use Rattle.flow_sets.specs.Table.{in_table, is_of}
use Rattle.flow_sets.specs.declared.inclusion.FlowSet.{FlowSet}
use Rattle.flow_sets.specs.Targets.{is_many}
use Rattle.flow_solver.specs.declared.members.Member.{Member}
use Rattle.flow_solver.proofs.table.table_of.Given as goal

abbrev pub invariant-loop-member : goal.invariant-loop-member
invariant-loop-member l =
    (X : FlowSet) (s : ℕ) → is_many X ≡ true → in_table l.table X s ≡ list_any
    (λ (member : Member). is_of member.set member.site X s) (take l.member-index l.members)
