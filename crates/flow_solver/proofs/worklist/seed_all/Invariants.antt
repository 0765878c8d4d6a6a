use Rattle.std.proofs.Common.{take}
use Rattle.flow_solver.specs.code.Members.{AddsEach}
use Rattle.flow_solver.specs.code.Readers.{seeds}
use Rattle.flow_solver.specs.declared.members.Member.{Member}
use Rattle.flow_solver.proofs.worklist.seed_all.Given as goal

abbrev pub invariant-loop-rule : goal.invariant-loop-rule
invariant-loop-rule l =
    AddsEach {X = Member} (λ (member : Member). member) (seeds (take l.rule-index l.rules))
    l.fn.members.keys l.members.keys
