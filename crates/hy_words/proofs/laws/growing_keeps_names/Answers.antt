use Rattle.hy_words.proofs.Naming.{names_grow}
use Rattle.hy_words.proofs.laws.growing_keeps_names.Goals as goal

pub returns : goal.returns
returns g c = λ heap more t w. names_grow heap more g.K.CellKind.is_cell t w
