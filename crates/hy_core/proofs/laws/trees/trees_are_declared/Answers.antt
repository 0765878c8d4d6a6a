use Rattle.hy_core.proofs.SyntaxLemmas.{syntax_of-onto, syntax_of-injective}
use Rattle.hy_core.proofs.laws.trees.trees_are_declared.Goals as goal

pub returns-clause-each : goal.returns-clause-each
returns-clause-each c = syntax_of-onto

pub returns-clause-once : goal.returns-clause-once
returns-clause-once c = syntax_of-injective
