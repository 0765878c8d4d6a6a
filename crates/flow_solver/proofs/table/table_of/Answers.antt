use Rattle.std.proofs.Common.{◌||◌, get_or, ap, sym, ◌∙◌}
use Rattle.flow_sets.specs.Table.{is_of}
use Rattle.flow_sets.specs.declared.inclusion.FlowSet.TheVariants.{Only}
use Rattle.flow_solver.specs.declared.members.Member.{Member}
use Rattle.std.proofs.lemmas.List.Folds.{list_any_more}
use Rattle.flow_solver.proofs.Tabled.{any-all}
use Rattle.flow_solver.proofs.table.table_of.Goals as goal

pub loop-member-preserved : goal.loop-member-preserved
loop-member-preserved c = λ X s m.
    let first : Member = record { set = Only 0; site = 0 } in
    let test = λ (member : Member). is_of member.set member.site X s in
    c.in_ok-add.ensures X s m
    ∙ ap (λ b. b || test (get_or c.args.members.now c.loop-member.member-index first))
    (c.loop-member.invariant X s m)
    ∙ sym
    (list_any_more test c.args.members.now c.loop-member.member-index first c.loop-member-test.true)

pub returns : goal.returns
returns c = λ X s m.
    c.loop-member.invariant X s m ∙ any-all (λ (member : Member). is_of member.set member.site X s)
    c.args.members.now c.loop-member.member-index c.loop-member-test.false
