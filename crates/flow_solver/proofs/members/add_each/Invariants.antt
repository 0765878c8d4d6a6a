use Rattle.std.proofs.Common.{take}
use Rattle.flow_solver.specs.code.Members.{AddsEach}
use Rattle.flow_solver.specs.declared.members.Member.{Member}
use Rattle.flow_solver.proofs.members.add_each.Given as goal

abbrev pub invariant-loop-site : goal.invariant-loop-site
invariant-loop-site l =
    AddsEach {X = Member} (λ site. record { set = l.set; site = site }) (take l.site-index l.sites)
    l.fn.members.keys l.members.keys
