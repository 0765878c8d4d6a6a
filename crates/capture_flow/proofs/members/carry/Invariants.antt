use Rattle.std.proofs.Common.{◌≡◌, drop}
use Rattle.std.specs.Prelude.{fold}
use Rattle.capture_flow.specs.code.Members.{passed}
use Rattle.capture_flow.proofs.members.carry.Given as goal

abbrev pub invariant-loop-edge : goal.invariant-loop-edge
invariant-loop-edge l =
    fold (passed l.member) l.members.keys (drop l.edge-index l.edges)
    ≡ fold (passed l.member) l.fn.members.keys l.edges
