use Rattle.hy_terms.proofs.DeclaredLemmas.{term_of-onto, term_of-injective}
use Rattle.hy_terms.proofs.laws.terms_are_declared.Goals as goal

pub returns-clause-each : goal.returns-clause-each
returns-clause-each c = term_of-onto

pub returns-clause-once : goal.returns-clause-once
returns-clause-once c = term_of-injective
