use Rattle.std.proofs.Common.{◌≡◌, ◌++◌, ◌∷◌, [], ℕ, List, sym, ap, subst, map, ◌∙◌}
use Rattle.std.proofs.lemmas.List.{map-append}
use Rattle.std.specs.Mem.Slots.{slots_items}
use Rattle.commons.specs.declared.view.View.{View}
use Rattle.commons.specs.Rule.{IsKept}
use Rattle.commons.specs.Closing.{HasChildren}
use Rattle.commons_words.specs.declared.passes.WordPass.{WordPass}
use Rattle.commons_words.specs.Passes.{view_of}
use Rattle.commons_words.proofs.Closes.{IsLeft, closes, read_out}
use Rattle.commons_words.proofs.word_commons.WordCommons.close.Goals as goal

pub returns : goal.returns
returns c =
    let own = c.args.self in
    let sized = own.sized in
    let rest : List WordPass = c.pop.new.self.items in
    let v : View = view_of c.in-Some.first in
    let js : List View = map view_of rest in
    let passes : c.args.passes.items ≡ rest ++ c.in-Some.first ∷ [] = c.in-Some.ensures.items in
    let same : map view_of c.args.passes.items ≡ js ++ v ∷ [] = ap (λ (ps : List WordPass). map view_of ps) passes ∙ map-append view_of rest (c.in-Some.first ∷ []) in
    let ws : List ℕ = slots_items c.close_with-closed.result.words in
    let left = closes own.table.shared.key.area own.table.shared.key.log c.gather_all-base.result.id ws _ c.gather_all-base.result.me v js c.close_with-closed.ensures.values.2 c.gather_all-base.ensures.base (subst HasChildren same c.requires.children) in
    let here : IsLeft own.area own.log ws (js ++ v ∷ []) = subst (λ (z : ℕ × ℕ). IsLeft z.0 z.1 ws (js ++ v ∷ [])) (λ i. (sized.0 i, sized.1 i)) left in
    let kept = read_out own.area own.log c.written_places-written.result c.word-claimed.result ws c.copied-log.result.items c.copied-area.result.items (js ++ v ∷ []) here c.word-claimed.ensures c.written_places-written.ensures c.copied-log.ensures c.copied-area.ensures in
    record {
      rule = subst (λ (t : List ℕ × (List ℕ × List View)). IsKept own.area own.log c.word-claimed.result t.0 t.1.0 t.1.1) (λ i. (sym c.from_vec.ensures i, (sym c.from_vec-2.ensures i, sym same i))) kept;
    }
