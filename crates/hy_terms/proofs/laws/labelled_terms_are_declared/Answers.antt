use Rattle.hy_terms.proofs.DeclaredLabelled.{labelled_of-onto, labelled_of-injective}
use Rattle.hy_terms.proofs.laws.labelled_terms_are_declared.Goals as goal

pub returns-clause-each : goal.returns-clause-each
returns-clause-each c = labelled_of-onto

pub returns-clause-once : goal.returns-clause-once
returns-clause-once c = labelled_of-injective
