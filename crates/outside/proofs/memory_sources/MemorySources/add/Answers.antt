use Rattle.std.proofs.Common.{◌≡◌, List, ℕ, Some, ap, ◌∙◌}
use Rattle.std.specs.Str.{bytes_eq}
use Rattle.std.specs.String.{string_bytes}
use Rattle.std.specs.Map.{update}
use Rattle.std.specs.BTreeMap.{get_by_text}
use Rattle.std.proofs.lemmas.Map.Text.{btree_map_updates_text}
use Rattle.outside.proofs.Texts.{given_text}
use Rattle.outside.proofs.memory_sources.MemorySources.add.Goals as goal

pub returns-clause-ok : goal.returns-clause-ok
returns-clause-ok c =
    let key : string_bytes c.in_ok-key.key ≡ c.args.name.now = c.in_ok-key.ensures.ok in
    let old = c.args.self.now.texts in
    let text = Some c.in_ok-text.text in
    given_text (λ v. v.items) c.args.self.now.sure old c.insert.new.self c.args.name.now c.args.text.now c.in_ok-text.text c.in_ok-text.ensures.items
    (λ cs. btree_map_updates_text (string_bytes c.in_ok-key.key) old c.insert.new.self text c.in_ok-insert.ensures.updates cs ∙ ap (λ (bs : List ℕ). update bytes_eq (get_by_text old) bs text cs) key)
