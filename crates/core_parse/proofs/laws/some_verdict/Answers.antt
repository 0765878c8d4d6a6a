use Rattle.core_parse.proofs.WholeText.{some_verdict}
use Rattle.core_parse.proofs.laws.some_verdict.Goals as goal

pub returns : goal.returns
returns c = λ bytes. some_verdict bytes
