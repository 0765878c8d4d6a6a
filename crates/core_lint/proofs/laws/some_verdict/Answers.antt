use Rattle.core_lint.proofs.VerdictLemmas.{some_verdict}
use Rattle.core_lint.proofs.laws.some_verdict.Goals as goal

pub returns : goal.returns
returns c = λ program. some_verdict program
