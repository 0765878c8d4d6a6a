use Rattle.std.proofs.Common.{refl, subst}
use Rattle.std.proofs.lemmas.Result.{on_ok_weaker}
use Rattle.flow_sets.specs.declared.inclusion.FlowSet.{FlowSet}
use Rattle.flow_solver.specs.code.Members.{AddsEach}
use Rattle.flow_solver.specs.declared.members.Member.{Member}
use Rattle.flow_solver.proofs.work.pass.Goals as goal

pub returns : goal.returns
returns c =
    let members =
    subst
    (λ xs. AddsEach {X = Member} (λ (to : FlowSet). record { set = to; site = c.args.site }) xs
    c.args.work.now.members.keys c.add_to_each.new.members.keys)
    c.listed.ensures c.in_ok-add_to_each.ensures in
    on_ok_weaker c.push.result (λ h. record { members = members; sites = h; targets = refl })
    c.push.ensures
