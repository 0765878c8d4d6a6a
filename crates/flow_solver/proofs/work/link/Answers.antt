use Rattle.std.proofs.Common.{ℕ, refl, subst}
use Rattle.std.proofs.lemmas.Result.{on_ok_weaker}
use Rattle.flow_solver.specs.code.Members.{AddsEach}
use Rattle.flow_solver.specs.declared.members.Member.{Member}
use Rattle.flow_solver.proofs.work.link.Goals as goal

pub returns : goal.returns
returns c =
    let members =
    subst
    (λ xs. AddsEach {X = Member} (λ (s : ℕ). record { set = c.args.set; site = s }) xs
    c.args.work.now.members.keys c.add_each.new.members.keys)
    c.listed.ensures c.in_ok-add_each.ensures in
    on_ok_weaker c.push.result (λ h. record { members = members; targets = h; sites = refl })
    c.push.ensures
