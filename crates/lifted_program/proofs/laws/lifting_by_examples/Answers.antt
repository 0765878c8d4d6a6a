use Rattle.lifted_program.proofs.Examples.{mutual_lifted, inner_lifted, inner_same}
use Rattle.lifted_program.proofs.laws.lifting_by_examples.Goals as goal

pub returns-clause-each_other : goal.returns-clause-each_other
returns-clause-each_other c = mutual_lifted

pub returns-clause-inner : goal.returns-clause-inner
returns-clause-inner c = inner_lifted

pub returns-clause-computed : goal.returns-clause-computed
returns-clause-computed c = inner_same
