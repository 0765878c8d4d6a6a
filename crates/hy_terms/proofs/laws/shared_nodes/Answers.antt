use Rattle.hy_terms.proofs.LabelledLemmas.{private_words-IsShared}
use Rattle.hy_terms.proofs.laws.shared_nodes.Goals as goal

pub returns : goal.returns
returns c = private_words-IsShared
