use Rattle.std.proofs.Common.{◌≡◌, ◌<◌, ◌≤◌, length, subst, get_or, arith}
use Rattle.std.specs.Prelude.{fold}
use Rattle.capture_flow.specs.code.Edges.{edges_at}
use Rattle.capture_flow.specs.code.Members.{passed}
use Rattle.capture_flow.specs.declared.fact.Member.{Member}
use Rattle.capture_flow.proofs.Extending.{extends-none}
use Rattle.capture_flow.proofs.Solved.{steady-begins, steady-more, steady-ends}
use Rattle.capture_flow.proofs.worklist.run.Goals as goal

pub loop-next-init : goal.loop-next-init
loop-next-init c =
    steady-begins c.args.edges.now c.args.members.now.keys (extends-none c.args.members.now.keys)

pub loop-next-preserved : goal.loop-next-preserved
loop-next-preserved c =
    let ms = c.loop-next.members.keys in
    let i = c.loop-next.next in
    let below : i < length ms = omega (arith, c.len.ensures.len, c.loop-next-test.true) in
    let first : Member = record { function = 0; variable = 0; place = 0 } in
    let es = c.listed.result.now in
    steady-more c.args.edges.now c.args.members.now.keys ms c.carry.new.members.keys i first es
    below
    (subst (λ l. es ≡ edges_at c.args.edges.now (get_or l i first).function)
    c.as_slice.ensures.keys c.listed.ensures)
    (subst (λ l. c.carry.new.members.keys ≡ fold (passed (get_or l i first)) ms es)
    c.as_slice.ensures.keys c.in_ok-carry.ensures) c.loop-next.invariant

pub returns-clause-sound : goal.returns-clause-sound
returns-clause-sound c = c.loop-next.invariant.sound

pub returns-clause-grows : goal.returns-clause-grows
returns-clause-grows c = c.loop-next.invariant.grows

pub returns-clause-carried : goal.returns-clause-carried
returns-clause-carried c =
    let ms = c.loop-next.members.keys in
    let all : length ms ≤ c.loop-next.next =
    omega (arith, c.len.ensures.len, c.loop-next-test.false) in
    steady-ends c.args.edges.now c.args.members.now.keys ms c.loop-next.next all
    c.loop-next.invariant

pub returns-clause-once : goal.returns-clause-once
returns-clause-once c = c.len.ensures.unique
