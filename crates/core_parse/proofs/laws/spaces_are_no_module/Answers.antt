use Rattle.core_parse.proofs.Worked.{spaces_end}
use Rattle.core_parse.proofs.laws.spaces_are_no_module.Goals as goal

pub returns : goal.returns
returns c = λ bytes spaces few. spaces_end bytes spaces few
