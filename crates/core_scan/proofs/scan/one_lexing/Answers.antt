use Rattle.core_scan.proofs.OneLexing.{one_lexing}
use Rattle.core_scan.proofs.scan.one_lexing.Goals as goal

pub returns : goal.returns
returns c = one_lexing
