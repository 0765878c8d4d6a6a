use Rattle.std.proofs.Common.{◌∙◌, ap}
use Rattle.std.specs.Prelude.{fold}
use Rattle.capture_flow.specs.code.Members.{seeded}
use Rattle.capture_flow.proofs.Solved.{solved}
use Rattle.capture_flow.proofs.worklist.least_members.Goals as goal

pub returns-clause-exact : goal.returns-clause-exact
returns-clause-exact c =
    solved c.in_ok-edges.edges c.args.facts.now c.seed_all.new.members.keys
    c.in_ok-edges.ensures
    (c.in_ok-seed_all.ensures ∙ ap (λ l. fold seeded l c.args.facts.now) c.new-members.ensures.empty)
    c.run.new.members.keys
    c.in_ok-run.ensures.sound c.in_ok-run.ensures.grows c.in_ok-run.ensures.carried

pub returns-clause-once : goal.returns-clause-once
returns-clause-once c = c.in_ok-run.ensures.once
