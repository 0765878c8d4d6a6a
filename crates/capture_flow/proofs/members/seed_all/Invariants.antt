use Rattle.std.proofs.Common.{◌≡◌, drop}
use Rattle.std.specs.Prelude.{fold}
use Rattle.capture_flow.specs.code.Members.{seeded}
use Rattle.capture_flow.proofs.members.seed_all.Given as goal

abbrev pub invariant-loop-fact : goal.invariant-loop-fact
invariant-loop-fact l =
    fold seeded l.members.keys (drop l.fact-index l.facts) ≡ fold seeded l.fn.members.keys l.facts
