use Rattle.std.proofs.Common.{◌∙◌, ◌++◌, ◌∷◌, [], List, ℕ, ap, map}
use Rattle.std.proofs.lemmas.List.{map-append}
use Rattle.std.specs.List.{list_any}
use Rattle.std.specs.Str.{bytes_eq}
use Rattle.hy_terms.proofs.KeyLemmas.{list_any-absent}
use Rattle.hy_terms.proofs.text_table.add.Goals as goal

pub returns-clause-ok : goal.returns-clause-ok
returns-clause-ok c =
    let absent = ap (λ (text : List ℕ). list_any (λ key. bytes_eq text key.items) c.args.texts.now.keys) c.in_ok-copy.ensures.items ∙ list_any-absent (λ key. key.items) c.args.text.now c.args.texts.now.keys c.requires in
    let keys = rw absent at c.in_ok-insert_full.ensures.keys in
    rw (keys, map-append) (ap (λ (text : List ℕ). map (λ key. key.items) c.args.texts.now.keys ++ text ∷ []) c.in_ok-copy.ensures.items)
