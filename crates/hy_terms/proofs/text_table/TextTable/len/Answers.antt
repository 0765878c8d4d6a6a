use Rattle.std.proofs.Common.{subst}
use Rattle.hy_terms.specs.Naming.{StandOnce}
use Rattle.hy_terms.proofs.KeyLemmas.{place_in-distinct}
use Rattle.hy_terms.proofs.text_table.TextTable.len.Goals as goal

pub returns-clause-once : goal.returns-clause-once
returns-clause-once c =
    subst StandOnce c.self.view_is (place_in-distinct (λ key. key.items) c.self.inside.texts.keys c.len.ensures.unique)
