use Rattle.std.proofs.Common.{length}
use Rattle.flow_rules.proofs.lists.+into_sets.Given as goal

abbrev pub decreases-into_sets : goal.decreases-into_sets
decreases-into_sets l = length l.registers.now
