use Rattle.hy_words.proofs.FieldLemmas.{height_by_fields, field_lower}
use Rattle.hy_words.proofs.laws.heights_by_fields.Goals as goal

pub returns-clause-height : goal.returns-clause-height
returns-clause-height c = height_by_fields

pub returns-clause-lower : goal.returns-clause-lower
returns-clause-lower c = field_lower
