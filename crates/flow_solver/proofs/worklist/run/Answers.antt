use Rattle.std.proofs.Common.{◌<◌, length, subst, get_or, arith}
use Rattle.std.proofs.lemmas.List.Elements.{All-nil}
use Rattle.flow_sets.specs.declared.inclusion.FlowSet.TheVariants.{Only}
use Rattle.flow_solver.specs.code.Carries.{Carried}
use Rattle.flow_solver.specs.declared.members.Member.{Member}
use Rattle.flow_solver.specs.code.Tables.{state_of}
use Rattle.flow_solver.proofs.Appending.{appends-length}
use Rattle.flow_solver.proofs.Carrying.{grows-none, grows-then}
use Rattle.flow_solver.proofs.Running.{run-more, run-end}
use Rattle.flow_solver.proofs.worklist.run.Goals as goal

pub loop-next-init : goal.loop-next-init
loop-next-init c = record {
  steady = c.requires.steady;
  grows = grows-none (state_of c.args.work.now);
  within = omega arith;
  carried = All-nil (Carried c.args.readers.now (state_of c.args.work.now));
}

pub loop-next-preserved : goal.loop-next-preserved
loop-next-preserved c =
    let h : c.loop-next.next < length c.loop-next.work.members.keys =
    omega (arith, c.len.ensures.len) in
    let more = c.in_ok-carry.ensures.grows in
    let first : Member = record { set = Only 0; site = 0 } in
    let carried =
    subst
    (λ ms. Carried c.args.readers.now (state_of c.carry.new.work)
    (get_or ms c.loop-next.next first)) c.as_slice.ensures.keys c.in_ok-carry.ensures.carried in
    record {
      steady = c.in_ok-carry.ensures.steady;
      grows = grows-then c.loop-next.invariant.grows more;
      within = omega (arith, h, appends-length more.members);
      carried =
          run-more c.args.readers.now (state_of c.loop-next.work) (state_of c.carry.new.work)
          c.loop-next.next first h more carried c.loop-next.invariant.carried;
    }

pub returns-clause-carried : goal.returns-clause-carried
returns-clause-carried c =
    run-end c.args.readers.now (state_of c.loop-next.work) c.loop-next.next
    (omega (arith, c.len.ensures.len, c.loop-next-test.false)) c.loop-next.invariant.carried
