use Rattle.std.proofs.Common.{◌≡◌, filter, take}
use Rattle.flow_sets.specs.declared.inclusion.FlowSet.{FlowSet}
use Rattle.flow_solver.specs.code.Lists.{listed}
use Rattle.flow_solver.specs.code.Readers.{is_set, source}
use Rattle.flow_solver.proofs.readers.readers_of.Given as goal

abbrev pub invariant-loop-rule : goal.invariant-loop-rule
invariant-loop-rule l =
    (q : FlowSet) → listed is_set l.readers q ≡ filter (λ rule. is_set (source rule) q)
    (take l.rule-index l.rules)
