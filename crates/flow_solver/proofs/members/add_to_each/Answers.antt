use Rattle.flow_sets.specs.declared.inclusion.FlowSet.{FlowSet}
use Rattle.flow_solver.specs.declared.members.Member.{Member}
use Rattle.flow_solver.proofs.Appending.{adds_each-more, adds_each-all}
use Rattle.flow_solver.proofs.members.add_to_each.Goals as goal

pub loop-set-preserved : goal.loop-set-preserved
loop-set-preserved c =
    adds_each-more {X = Member} (λ (set : FlowSet). record { set = set; site = c.args.site })
    c.args.sets.now c.loop-set.set-index _ c.args.members.now.keys c.loop-set.members.keys
    c.add.new.members.keys
    c.loop-set-test.true c.loop-set.invariant c.in_ok-add.ensures

pub returns : goal.returns
returns c =
    adds_each-all {X = Member} (λ (set : FlowSet). record { set = set; site = c.args.site })
    c.args.sets.now c.loop-set.set-index c.args.members.now.keys c.loop-set.members.keys
    c.loop-set-test.false c.loop-set.invariant
