use Rattle.captured_syntax.proofs.Captures.{captures}
use Rattle.captured_syntax.proofs.Counting.{definition_next}
use Rattle.captured_syntax.proofs.ProgramFacts.{program-facts}
use Rattle.captured_syntax.proofs.laws.gathered_facts_are_exact.Goals as goal

pub returns-clause-gathered : goal.returns-clause-gathered
returns-clause-gathered c = program-facts

pub returns-clause-captured : goal.returns-clause-captured
returns-clause-captured c = captures

pub returns-clause-counted : goal.returns-clause-counted
returns-clause-counted c = definition_next
