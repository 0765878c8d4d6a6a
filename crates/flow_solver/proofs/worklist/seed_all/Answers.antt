use Rattle.std.proofs.Common.{subst}
use Rattle.flow_solver.specs.code.Members.{AddsEach}
use Rattle.flow_solver.specs.code.Readers.{seed_of}
use Rattle.flow_solver.specs.declared.members.Member.{Member}
use Rattle.flow_solver.proofs.Solved.{seeds-more-added, seeds-all}
use Rattle.flow_solver.proofs.worklist.seed_all.Goals as goal

pub loop-rule-preserved : goal.loop-rule-preserved
loop-rule-preserved c =
    seeds-more-added c.args.rules.now c.loop-rule.rule-index _ c.args.members.now.keys
    c.loop-rule.members.keys c.seed.new.members.keys c.loop-rule-test.true c.loop-rule.invariant
    (subst
    (λ set. AddsEach {X = Member} (λ (member : Member). member) (seed_of set)
    c.loop-rule.members.keys c.seed.new.members.keys) c.source.ensures c.in_ok-seed.ensures)

pub returns : goal.returns
returns c =
    seeds-all c.args.rules.now c.loop-rule.rule-index c.args.members.now.keys
    c.loop-rule.members.keys c.loop-rule-test.false c.loop-rule.invariant
