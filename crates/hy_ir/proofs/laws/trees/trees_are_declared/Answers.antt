use Rattle.hy_ir.proofs.ViewLemmas.{tree_of-onto, tree_of-injective}
use Rattle.hy_ir.proofs.laws.trees.trees_are_declared.Goals as goal

pub returns-clause-each : goal.returns-clause-each
returns-clause-each c = tree_of-onto

pub returns-clause-once : goal.returns-clause-once
returns-clause-once c = tree_of-injective
