use Rattle.std.proofs.Common.{ℕ}
use Rattle.flow_solver.specs.declared.members.Member.{Member}
use Rattle.flow_solver.proofs.Appending.{adds_each-more, adds_each-all}
use Rattle.flow_solver.proofs.members.add_each.Goals as goal

pub loop-site-preserved : goal.loop-site-preserved
loop-site-preserved c =
    adds_each-more {X = Member} (λ (site : ℕ). record { set = c.args.set; site = site })
    c.args.sites.now c.loop-site.site-index 0 c.args.members.now.keys c.loop-site.members.keys
    c.add.new.members.keys
    c.loop-site-test.true c.loop-site.invariant c.in_ok-add.ensures

pub returns : goal.returns
returns c =
    adds_each-all {X = Member} (λ (site : ℕ). record { set = c.args.set; site = site })
    c.args.sites.now c.loop-site.site-index c.args.members.now.keys c.loop-site.members.keys
    c.loop-site-test.false c.loop-site.invariant
