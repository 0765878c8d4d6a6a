use Rattle.std.proofs.Common.{take}
use Rattle.flow_solver.specs.code.Members.{AddsEach}
use Rattle.flow_solver.specs.declared.members.Member.{Member}
use Rattle.flow_solver.proofs.members.add_to_each.Given as goal

abbrev pub invariant-loop-set : goal.invariant-loop-set
invariant-loop-set l =
    AddsEach {X = Member} (λ set. record { set = set; site = l.site }) (take l.set-index l.sets)
    l.fn.members.keys l.members.keys
