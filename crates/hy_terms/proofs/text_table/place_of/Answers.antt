use Rattle.std.proofs.Common.{◌∙◌}
use Rattle.hy_terms.proofs.KeyLemmas.{place_in-map}
use Rattle.hy_terms.proofs.text_table.place_of.Goals as goal

pub returns-clause-place : goal.returns-clause-place
returns-clause-place c = c.get_index_of.ensures.index ∙ place_in-map (λ key. key.items) c.args.text.now c.args.texts.now.keys
