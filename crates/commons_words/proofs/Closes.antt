-- What is left at the close: the rule holds of the words and of the list of passes.
use Rattle.std.proofs.Common.{◌≡◌, ℕ, zero, suc, ◌+◌, ◌<◌, List, [], ◌∷◌, ◌++◌, length, sym, refl, ap, ◌∙◌, ⊎_elim, subst, arith, lt_of_not-le}
use Rattle.std.specs.Prelude.{slice_index}
use native.Mathlib.Decide.{dec_le}
use mathlib.Core.Logic.{dite}
use mathlib.Core.Option.{some, some-injective, some-ne-none}
use lib.ListN.{get_elem?}
use Rattle.std.proofs.lemmas.List.{ext_get_or}
use Rattle.atomic_table.specs.Table.{Final, Seen}
use Rattle.hy_words.specs.Words.{tag_of}
use Rattle.commons.specs.declared.view.View.{View}
use Rattle.commons.specs.Rule.{At, IsKept}
use Rattle.commons.specs.Closing.{HasChildren}
use Rattle.commons.proofs.Rows.{Once, at_append, once_append}
use Rattle.commons.proofs.Gathers.{Within}
use Rattle.commons.proofs.Closes.{pid_of, kept_by_list}
use Rattle.commons_words.specs.declared.rule.SeatView.{SeatView}
use Rattle.commons_words.specs.Held.{IsHeld, Seated, padded}
use Rattle.commons_words.specs.Passes.{HasGathered}
use Rattle.commons_words.specs.Reading.{IsRowOf, HasWritten}
use Rattle.commons_words.proofs.Moves.{seated}
use Rattle.commons_words.proofs.Places.{log_at, log_end, area_at}

-- the words of a table of which the rule holds, with one view for each pass
pub record IsLeft (a l : ℕ) (ws : List ℕ) (views : List View) : Type 0 where
  pub claim : ℕ
  pub log : List ℕ
  pub area : List ℕ
  pub words : ws ≡ claim ∷ (padded l log ++ area)
  pub kept : IsKept a l claim log area views

one_only : (v u : View) (k : ℕ) → At (v ∷ []) k u → (k ≡ 0) × (v ≡ u)
one_only v u zero e = (refl, some-injective v u e)
one_only v u (suc k) e = absurd (some-ne-none u (sym e))

pub closes : (a l id : ℕ) (ws xs : List ℕ) (m : Seated) (v : View) (js : List View) → Final (Seen (IsHeld a l) id m.0) ws xs → HasGathered v js m → HasChildren (js ++ v ∷ []) → IsLeft a l ws (js ++ v ∷ [])
closes a l id ws xs m v js final gathered has =
    let s = final.0 in
    let h = final.1.0 in
    let x : SeatView = m.0 in
    let mine = seated a l s h id x final.1.1 gathered.role in
    let g = h.joined id x final.1.1 in
    let list : List View = x.joined ++ x.view ∷ [] in
    let once : Once pid_of list = once_append pid_of x.joined (x.view ∷ []) g.1 (λ j k t u e f same. (one_only x.view t j e).0 ∙ sym (one_only x.view u k f).0)
    (λ j k t u e f same. (g.0 j t e).2 (same ∙ ap pid_of (sym (one_only x.view u k f).1))) in
    let within : Within pid_of list h.views = λ j u e. ⊎_elim (λ (t : (j < length x.joined) × At x.joined j u). (g.0 j u t.1).0)
    (λ (t : (i : ℕ) × (j ≡ length x.joined + i) × At (x.view ∷ []) i u). subst (λ (z : View). (k : ℕ) × At h.views k z) (one_only x.view u t.0 t.2).1 mine.0) (at_append x.joined (x.view ∷ []) j u e) in
    let same : list ≡ js ++ v ∷ [] = λ i. gathered.all i ++ gathered.view i ∷ [] in
    let all = kept_by_list a l h.claim h.log h.area h.views list h.kept once within (subst HasChildren (sym same) has) in
    record { claim = h.claim; log = h.log; area = h.area; words = sym final.2 ∙ h.words; kept = subst (IsKept a l h.claim h.log h.area) same all }

-- the number of written places is the length of the log
places_are : (a l n : ℕ) (ws : List ℕ) (views : List View) (r : IsLeft a l ws views) → HasWritten ws l n → n ≡ length r.log
places_are a l n ws views r w =
    let short = r.kept.entries.short in
    let within = w.within in
    dite (dec_le (length r.log) n)
    (λ reached. dite (dec_le n (length r.log))
    (λ no_more. omega arith)
    (λ past. let more = lt_of_not-le past in absurd (w.written (length r.log) more (ap (λ (zs : List ℕ). slice_index zs (1 + length r.log)) r.words ∙ log_end l r.claim r.log r.area (omega arith)))))
    (λ before.
    let less = lt_of_not-le before in
    let zero_there : slice_index r.log n ≡ 0 = sym (log_at l r.claim n r.log r.area less) ∙ (ap (λ (zs : List ℕ). slice_index zs (1 + n)) (sym r.words) ∙ w.ends (omega arith)) in
    let six : tag_of (slice_index r.log n) ≡ 6 = (r.kept.entries.entries n less).0 in
    absurd (omega arith))

-- the rule holds of the words that were read out
pub read_out : (a l n claimed : ℕ) (ws log area : List ℕ) (views : List View) → IsLeft a l ws views → get_elem? ws 0 ≡ some claimed → HasWritten ws l n → IsRowOf ws 1 n log → IsRowOf ws (1 + l) a area → IsKept a l claimed log area views
read_out a l n claimed ws log area views r first w row whole =
    let claim : claimed ≡ r.claim = some-injective claimed r.claim (sym first ∙ ap (λ (zs : List ℕ). get_elem? zs 0) r.words) in
    let long = places_are a l n ws views r w in
    let log_is : log ≡ r.log = ext_get_or 0 log r.log (row.count ∙ long)
    (λ k h. let c = row.count in row.same k (omega arith) ∙ (ap (λ (zs : List ℕ). slice_index zs (1 + k)) r.words ∙ log_at l r.claim k r.log r.area (omega arith))) in
    let area_is : area ≡ r.area = ext_get_or 0 area r.area (whole.count ∙ sym r.kept.sized)
    (λ k h. let c = whole.count in whole.same k (omega arith) ∙ (ap (λ (zs : List ℕ). slice_index zs (1 + l + k)) r.words ∙ area_at l r.claim k r.log r.area r.kept.entries.short)) in
    subst (λ (t : ℕ × (List ℕ × List ℕ)). IsKept a l t.0 t.1.0 t.1.1 views) (λ i. (sym claim i, (sym log_is i, sym area_is i))) r.kept
