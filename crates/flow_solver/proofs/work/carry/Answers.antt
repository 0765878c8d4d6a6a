use Rattle.std.proofs.lemmas.List.Elements.{All-nil}
use Rattle.std.proofs.lemmas.Result.{on_ok_weaker}
use Rattle.flow_sets.specs.declared.inclusion.Inclusion.{Inclusion}
use Rattle.flow_solver.specs.code.Carries.{Grows, Steady, Carried, Followed, Reads}
use Rattle.flow_solver.specs.code.Effects.{PassesOn}
use Rattle.flow_solver.specs.code.Tables.{state_of}
use Rattle.flow_solver.proofs.Carrying.{grows-none}
use Rattle.flow_solver.proofs.Running.{carry-more, carry-end}
use Rattle.flow_solver.proofs.work.carry.Goals as goal
use Rattle.flow_solver.proofs.work.carry.Goals.{After-pass_on}

pub loop-rule-init : goal.loop-rule-init
loop-rule-init c = record {
  steady = c.requires.steady;
  grows = grows-none (state_of c.args.work.now);
  followed =
      All-nil (λ (rule : Inclusion). Followed (state_of c.args.work.now) rule c.args.member.site);
}

pub loop-rule-preserved : goal.loop-rule-preserved
loop-rule-preserved c =
    let more =
    carry-more c.args.readers.now c.args.member c.listed-rules.result.now c.listed-rules.ensures
    c.requires.indexed c.requires.flows
    (state_of c.args.work.now) (state_of c.loop-rule.work) (state_of c.follow.new.work)
    c.loop-rule.rule-index _ c.loop-rule-test.true c.in_ok-follow.ensures
    c.loop-rule.invariant.grows c.loop-rule.invariant.steady c.loop-rule.invariant.followed in
    record { steady = more.1; grows = more.0; followed = more.2 }

ended : (c : After-pass_on) → PassesOn c.args.member.set c.args.member.site
    (state_of c.loop-rule.work) (state_of c.pass_on.new.work)
    → Grows (state_of c.args.work.now) (state_of c.pass_on.new.work)
    × Steady (Reads c.args.readers.now) (state_of c.pass_on.new.work) × Carried c.args.readers.now
    (state_of c.pass_on.new.work) c.args.member
ended c l =
    carry-end c.args.readers.now c.args.member c.listed-rules.result.now c.listed-rules.ensures
    c.requires.indexed c.requires.flows
    (state_of c.args.work.now) (state_of c.loop-rule.work) (state_of c.pass_on.new.work)
    c.loop-rule.rule-index c.loop-rule-test.false l c.loop-rule.invariant.grows
    c.loop-rule.invariant.steady c.loop-rule.invariant.followed

pub returns-clause-steady : goal.returns-clause-steady
returns-clause-steady c = on_ok_weaker c.pass_on.result (λ l. (ended c l).1) c.pass_on.ensures

pub returns-clause-grows : goal.returns-clause-grows
returns-clause-grows c = on_ok_weaker c.pass_on.result (λ l. (ended c l).0) c.pass_on.ensures

pub returns-clause-carried : goal.returns-clause-carried
returns-clause-carried c = on_ok_weaker c.pass_on.result (λ l. (ended c l).2) c.pass_on.ensures
