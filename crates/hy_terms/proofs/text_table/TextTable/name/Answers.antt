use Rattle.std.proofs.Common.{◌≡◌, None, sym, ◌∙◌, ◌++◌, ◌∷◌, [], length, map}
use Rattle.std.proofs.lemmas.List.{length-map}
use Rattle.hy_terms.specs.Naming.{place_in}
use Rattle.hy_terms.proofs.NamingLemmas.{named-known, named-new}
use Rattle.hy_terms.proofs.text_table.TextTable.name.Goals as goal

pub returns-in-Some-clause-ok : goal.returns-in-Some-clause-ok
returns-in-Some-clause-ok c = named-known _ _ _ (rw (← c.self.view_is) (sym c.in-Some.ensures.place))

pub returns-clause-ok : goal.returns-clause-ok
returns-clause-ok c =
    let absent : place_in c.args.self.now c.args.text.now ≡ None = rw (← c.self.view_is) (sym c.place_of.ensures.place ∙ c.in_default.is) in
    let number : length c.args.self.now ≡ c.len-place.result = rw (← c.self.view_is, length-map) (sym c.len-place.ensures.len) in
    let texts : c.args.self.now ++ c.args.text.now ∷ [] ≡ map (λ key. key.items) c.add.new.texts.keys = rw (← c.self.view_is) (sym c.in_ok-add.ensures.ok) in
    named-new _ _ absent ∙ (λ i. (number i, texts i))
