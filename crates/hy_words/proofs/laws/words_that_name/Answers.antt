use Rattle.hy_words.proofs.Naming.{shared_names, private_names}
use Rattle.hy_words.proofs.laws.words_that_name.Goals as goal

pub returns-clause-shared : goal.returns-clause-shared
returns-clause-shared g c = shared_names g.K.CellKind.is_cell

pub returns-clause-private : goal.returns-clause-private
returns-clause-private g c = private_names g.K.CellKind.is_cell
