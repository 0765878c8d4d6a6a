use Rattle.core_parse.proofs.WholeText.{one_tree}
use Rattle.core_parse.proofs.laws.one_tree.Goals as goal

pub returns : goal.returns
returns c = λ bytes y z h k. one_tree bytes y z h k
