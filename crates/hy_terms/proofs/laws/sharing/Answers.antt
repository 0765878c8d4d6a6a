use Rattle.hy_terms.proofs.LabelledLemmas.{erase-shared, private_words-shared, shared-same, IsShared-shared, IsLabelled-shared}
use Rattle.hy_terms.proofs.laws.sharing.Goals as goal

pub returns-clause-erased : goal.returns-clause-erased
returns-clause-erased c = erase-shared

pub returns-clause-none_private : goal.returns-clause-none_private
returns-clause-none_private c = private_words-shared

pub returns-clause-same : goal.returns-clause-same
returns-clause-same c = shared-same

pub returns-clause-all_shared : goal.returns-clause-all_shared
returns-clause-all_shared c = IsShared-shared

pub returns-clause-labelled : goal.returns-clause-labelled
returns-clause-labelled c = IsLabelled-shared
