use Rattle.std.specs.Prelude.{Contains, IsTrue}
use Rattle.flow_sets.proofs.Least.{is_closed-Flows, Flows-least}
use Rattle.flow_sets.proofs.laws.flow_is_least.Goals as goal

pub returns-clause-closed : goal.returns-clause-closed
returns-clause-closed c = λ rules. is_closed-Flows (Contains rules)

pub returns-clause-least : goal.returns-clause-least
returns-clause-least c =
    λ rules test h X s d. Flows-least (Contains rules) (λ Y t. IsTrue (test Y t)) h d
