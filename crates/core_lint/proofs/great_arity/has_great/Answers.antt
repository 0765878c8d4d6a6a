use Rattle.core_lint.proofs.GreatExact.{great_found}
use Rattle.core_lint.proofs.great_arity.has_great.Goals as goal

pub returns : goal.returns
returns c = great_found 10 c.args.modules.now c.in_ok-fault.fault c.is_some.result c.in_ok-fault.ensures c.is_some.ensures
