use Rattle.hy_words.proofs.Naming.{names_widen}
use Rattle.hy_words.proofs.laws.wider_kind_is_named.Goals as goal

pub returns : goal.returns
returns g c = λ heap t w. names_widen heap g.K.CellKind.is_cell g.W.CellKind.is_cell t w
