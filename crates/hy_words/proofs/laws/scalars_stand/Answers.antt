use Rattle.hy_words.proofs.Scalars.{scalar_stands, stands_value}
use Rattle.hy_words.proofs.laws.scalars_stand.Goals as goal

pub returns-clause-scalars : goal.returns-clause-scalars
returns-clause-scalars c = scalar_stands

pub returns-clause-values : goal.returns-clause-values
returns-clause-values c = stands_value
