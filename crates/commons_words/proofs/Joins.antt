-- Notes and passes are split off and joined, and the rule of the table holds again.
use Rattle.std.proofs.Common.{◌≡◌, ◌≢◌, ℕ, zero, suc, ◌+◌, ◌<◌, List, [], ◌∷◌, ◌++◌, length, set, append-nil, sym, refl, ap, ◌∙◌, ⊎_elim, subst, Bool, ne_eqb, eq-eqb}
use Rattle.std.specs.Prelude.{slice_index, ◌==◌, if◌then◌else◌, Option, Some, None}
use mathlib.Core.Option.{some, none, some-injective}
use lib.ListN.{get_elem?}
use Rattle.atomic_table.specs.Table.{step, stepped, keeps, Allows, Splits, Joins}
use Rattle.std.proofs.lemmas.List.{set-get_or}
use Rattle.hy_words.specs.Lists.{StartsWith}
use Rattle.commons.specs.declared.view.View.{View}
use Rattle.commons.specs.Views.{IsAreaSize, IsLogSize}
use Rattle.commons.specs.Rule.{At}
use Rattle.commons.specs.Steps.{first_view, told_of, settled, or_nil}
use Rattle.commons.proofs.Rows.{at_append, once_append, once_cons, at_set, set_again, set_else, at_snoc}
use Rattle.commons.proofs.Steps.{tells_kept, settles_kept, longer_begins}
use Rattle.commons_words.specs.declared.rule.SeatView.{SeatView}
use Rattle.commons_words.specs.declared.rule.Role.{Role}
use Rattle.commons_words.specs.declared.rule.Role.TheVariants.{Process, Note, Spent}
use Rattle.commons_words.specs.Held.{Gathered, gathered, Sits, IsHeld, Seated, settle_tells, note_of, told_by, spent}
use Rattle.commons_words.specs.Passes.{IsProcess}
use Rattle.commons_words.proofs.Moves.{not_spent, none_gathered, moves, seated, stays, takes_view}

-- a note is split off
pub note_allowed : (a l id : ℕ) (x : SeatView) → x.role ≡ Process → Splits (IsHeld a l) id x x (note_of x)
note_allowed a l id x is s h at =
    let sits = seated a l s h id x at is in
    let k : ℕ = sits.0.0 in
    let two = h.sizes id x at (not_spent x.role is) in
    let same : set s.views id x ++ note_of x ∷ [] ≡ s.views ++ note_of x ∷ [] = ap (λ (ys : List SeatView). ys ++ note_of x ∷ []) (set_again s.views id x at) in
    subst (λ (vs : List SeatView). IsHeld a l record { words = s.words; homes = s.homes; views = vs }) (sym same) record {
      claim = h.claim;
      log = h.log;
      area = h.area;
      views = h.views;
      holder = h.holder;
      words = h.words;
      kept = h.kept;
      sizes = λ j y e live. ⊎_elim (λ (t : (j < length s.views) × (get_elem? s.views j ≡ some y)). h.sizes j y t.1 live)
          (λ (t : (j ≡ length s.views) × (note_of x ≡ y)). (ap (λ (z : SeatView). z.area_size) (sym t.1) ∙ two.0, ap (λ (z : SeatView). z.log_size) (sym t.1) ∙ two.1)) (at_snoc s.views (note_of x) y j e);
      seats = λ j y e. ⊎_elim (λ (t : (j < length s.views) × (get_elem? s.views j ≡ some y)). h.seats j y t.1)
          (λ (t : (j ≡ length s.views) × (note_of x ≡ y)). subst (λ (z : SeatView). Sits h.log h.views h.holder j z.view z.role) t.1 (h.kept.each k x.view sits.0.1).knows.begins) (at_snoc s.views (note_of x) y j e);
      joined = λ j y e. ⊎_elim (λ (t : (j < length s.views) × (get_elem? s.views j ≡ some y)). h.joined j y t.1)
          (λ (t : (j ≡ length s.views) × (note_of x ≡ y)). subst (λ (z : SeatView). Gathered h.views h.holder j z.view z.joined) t.1 (none_gathered h.views h.holder j x.view)) (at_snoc s.views (note_of x) y j e);
    }

-- a note is joined in
pub tell_allowed : (a l id other : ℕ) (x y : SeatView) → x.role ≡ Process → y.role ≡ Note → Joins (IsHeld a l) id x other y (told_by x y) spent
tell_allowed a l id other x y is note s h at apart at' =
    let sits = seated a l s h id x at is in
    let k : ℕ = sits.0.0 in
    let there : get_elem? s.views other ≡ some y = sym (set_else s.views id other (told_by x y) apart) ∙ at' in
    let begins : StartsWith h.log y.view.known = subst (λ (r : Role). Sits h.log h.views h.holder other y.view r) note (h.seats other y there) in
    let w : View = told_of x.view y.view.known in
    let kept = tells_kept a l h.claim k h.log h.area h.views x.view h.kept sits.0.1 y.view.known begins in
    let mid : IsHeld a l (stepped s 0 (slice_index s.words 0) id [] (record x { view = w }) keeps) = moves a l s h id k 0 (slice_index s.words 0) h.claim h.log h.area [] x w at is sits.0.1 sits.1 refl ([], sym (append-nil h.log)) (set-get_or s.words 0 0 ∙ h.words) kept in
    record {
      claim = mid.claim;
      log = mid.log;
      area = mid.area;
      views = mid.views;
      holder = mid.holder;
      words = sym (set-get_or s.words 0 0) ∙ mid.words;
      kept = mid.kept;
      sizes = λ j z e live. ⊎_elim (λ (t : (j ≡ other) × (spent ≡ z)). absurd (live (ap (λ (u : SeatView). u.role) (sym t.1)))) (λ (t : (j ≢ other) × (get_elem? (set s.views id (told_by x y)) j ≡ some z)). mid.sizes j z t.1 live) (at_set (set s.views id (told_by x y)) other j spent z e);
      seats = λ j z e. ⊎_elim (λ (t : (j ≡ other) × (spent ≡ z)). subst (λ (u : SeatView). Sits mid.log mid.views mid.holder j u.view u.role) t.1 tt) (λ (t : (j ≢ other) × (get_elem? (set s.views id (told_by x y)) j ≡ some z)). mid.seats j z t.1) (at_set (set s.views id (told_by x y)) other j spent z e);
      joined = λ j z e. ⊎_elim (λ (t : (j ≡ other) × (spent ≡ z)). subst (λ (u : SeatView). Gathered mid.views mid.holder j u.view u.joined) t.1 (none_gathered mid.views mid.holder j (first_view 0)))
          (λ (t : (j ≢ other) × (get_elem? (set s.views id (told_by x y)) j ≡ some z)). mid.joined j z t.1) (at_set (set s.views id (told_by x y)) other j spent z e);
    }

or_begins : (log : List ℕ) (t : Option (List ℕ)) → ((u : List ℕ) → t ≡ Some u → StartsWith log u) → StartsWith log (or_nil t)
or_begins log None h = (log, refl)
or_begins log (Some u) h = h u refl

pub settle_allowed : (a l slots id : ℕ) (me : Seated) → IsProcess a l me.0 → IsAreaSize a × IsLogSize l → Allows (IsHeld a l) slots id me 0 (λ n. n) (settle_tells (step slots 0 0 0 none) me)
settle_allowed a l slots id me p sizes s h homes at fine =
    let v : View = me.0.view in
    let sits = seated a l s h id me.0 at p.role in
    let k : ℕ = sits.0.0 in
    let kept = settles_kept a l h.claim k h.log h.area h.views v h.kept sits.0.1 in
    let mine = h.kept.each k v sits.0.1 in (
      record me.0 { view = settled v },
      keeps,
      tt,
      stays a l 0 id me s h k (settled v) at p.role sits.0.1 sits.1 refl kept,
      (takes_view a l h.claim k h.log h.area h.views me (settled v) p sizes kept sits.0.1 refl (λ place n. refl), longer_begins h.log v.known (or_nil v.told) mine.knows.begins (or_begins h.log v.told mine.knows.told_begins)),
    )

moved_on : (log : List ℕ) (views : List View) (holder : ℕ → ℕ) (j id other : ℕ) (y : View) → j ≢ other → (role : Role) → Sits log views holder j y role → Sits log views (λ p. if holder p == other then id else holder p) j y role
moved_on log views holder j id other y n Process h = (h.0, ap (λ (b : Bool). if b then id else holder y.pid) (ne_eqb (holder y.pid) other (λ z. n (sym h.1 ∙ z))) ∙ h.1)
moved_on log views holder j id other y n Note h = h
moved_on log views holder j id other y n Spent h = tt

-- a pass is joined in at the close
pub gather_allowed : (a l id other : ℕ) (x y : SeatView) → x.role ≡ Process → y.role ≡ Process → Joins (IsHeld a l) id x other y (gathered x y) spent
gather_allowed a l id other x y is is' s h at apart at' =
    let mine = seated a l s h id x at is in
    let there : get_elem? s.views other ≡ some y = sym (set_else s.views id other (gathered x y) apart) ∙ at' in
    let its = seated a l s h other y there is' in
    let holder' : ℕ → ℕ = λ p. if h.holder p == other then id else h.holder p in
    let two = h.sizes id x at (not_spent x.role is) in
    let gx = h.joined id x at in
    let gy = h.joined other y there in
    let stay : (p : ℕ) → h.holder p ≡ id → holder' p ≡ id = λ p e. ap (λ (b : Bool). if b then id else h.holder p) (ne_eqb (h.holder p) other (λ z. apart (sym z ∙ e))) ∙ e in
    let come : (p : ℕ) → h.holder p ≡ other → holder' p ≡ id = λ p e. ap (λ (b : Bool). if b then id else h.holder p) (eq-eqb (h.holder p) other e) in
    let differ : (p q : ℕ) → h.holder p ≡ id → h.holder q ≡ other → q ≢ p = λ p q e f z. apart (sym f ∙ (ap h.holder z ∙ e)) in
    let tail : List View = y.view ∷ y.joined in
    let of_tail : (j : ℕ) (u : View) → get_elem? tail j ≡ some u → ((k : ℕ) × At h.views k u) × (h.holder u.pid ≡ other) = λ j u e. by_tail y.view y.joined h.views h.holder other j u its (λ i z f. let r = gy.0 i z f in (r.0, r.1)) e in
    let all : Gathered h.views holder' id x.view (x.joined ++ tail) = (
      (λ j u e. ⊎_elim (λ (t : (j < length x.joined) × (get_elem? x.joined j ≡ some u)). let r = gx.0 j u t.1 in (r.0, stay u.pid r.1, r.2))
          (λ (t : (i : ℕ) × (j ≡ length x.joined + i) × (get_elem? tail i ≡ some u)). let r = of_tail t.0 u t.2 in (r.0, come u.pid r.1, differ x.view.pid u.pid mine.1 r.1)) (at_append x.joined tail j u e)),
      once_append (λ (u : View). u.pid) x.joined tail gx.1 (once_cons (λ (u : View). u.pid) y.view y.joined gy.1 (λ j u e. (gy.0 j u e).2)) (λ j k u z e f same. differ u.pid z.pid (gx.0 j u e).1 (of_tail k z f).1 (sym same)),
    ) in
    let seat : Sits h.log h.views holder' id x.view x.role = subst (λ (r : Role). Sits h.log h.views holder' id x.view r) (sym is) (mine.0, stay x.view.pid mine.1) in record {
      claim = h.claim;
      log = h.log;
      area = h.area;
      views = h.views;
      holder = holder';
      words = h.words;
      kept = h.kept;
      sizes = λ j z e live. ⊎_elim (λ (t : (j ≡ other) × (spent ≡ z)). absurd (live (ap (λ (u : SeatView). u.role) (sym t.1))))
          (λ (t : (j ≢ other) × (get_elem? (set s.views id (gathered x y)) j ≡ some z)). ⊎_elim (λ (u : (j ≡ id) × (gathered x y ≡ z)). (ap (λ (w : SeatView). w.area_size) (sym u.1) ∙ two.0, ap (λ (w : SeatView). w.log_size) (sym u.1) ∙ two.1)) (λ (u : (j ≢ id) × (get_elem? s.views j ≡ some z)). h.sizes j z u.1 live)
          (at_set s.views id j (gathered x y) z t.1)) (at_set (set s.views id (gathered x y)) other j spent z e);
      seats = λ j z e. ⊎_elim (λ (t : (j ≡ other) × (spent ≡ z)). subst (λ (u : SeatView). Sits h.log h.views holder' j u.view u.role) t.1 tt)
          (λ (t : (j ≢ other) × (get_elem? (set s.views id (gathered x y)) j ≡ some z)). ⊎_elim
          (λ (u : (j ≡ id) × (gathered x y ≡ z)). subst (λ (w : SeatView). Sits h.log h.views holder' j w.view w.role) u.1 (subst (λ (q : ℕ). Sits h.log h.views holder' q x.view x.role) (sym u.0) seat))
          (λ (u : (j ≢ id) × (get_elem? s.views j ≡ some z)). moved_on h.log h.views h.holder j id other z.view t.0 z.role (h.seats j z u.1)) (at_set s.views id j (gathered x y) z t.1)) (at_set (set s.views id (gathered x y)) other j spent z e);
      joined = λ j z e. ⊎_elim (λ (t : (j ≡ other) × (spent ≡ z)). subst (λ (u : SeatView). Gathered h.views holder' j u.view u.joined) t.1 (none_gathered h.views holder' j (first_view 0)))
          (λ (t : (j ≢ other) × (get_elem? (set s.views id (gathered x y)) j ≡ some z)). ⊎_elim
          (λ (u : (j ≡ id) × (gathered x y ≡ z)). subst (λ (w : SeatView). Gathered h.views holder' j w.view w.joined) u.1 (subst (λ (q : ℕ). Gathered h.views holder' q x.view (x.joined ++ tail)) (sym u.0) all))
          (λ (u : (j ≢ id) × (get_elem? s.views j ≡ some z)). let g = h.joined j z u.1 in ((λ i w f. let r = g.0 i w f in (r.0, ap (λ (b : Bool). if b then id else h.holder w.pid) (ne_eqb (h.holder w.pid) other (λ q. t.0 (sym r.1 ∙ q))) ∙ r.1, r.2)), g.1)) (at_set s.views id j (gathered x y) z t.1))
          (at_set (set s.views id (gathered x y)) other j spent z e);
    }
  where
    by_tail : (v : View) (js views : List View) (holder : ℕ → ℕ) (other j : ℕ) (u : View) → ((k : ℕ) × At views k v) × (holder v.pid ≡ other) → ((i : ℕ) (z : View) → get_elem? js i ≡ some z → ((k : ℕ) × At views k z) × (holder z.pid ≡ other)) → get_elem? (v ∷ js) j ≡ some u → ((k : ℕ) × At views k u) × (holder u.pid ≡ other)
    by_tail v js views holder other zero u mine each e = subst (λ (z : View). ((k : ℕ) × At views k z) × (holder z.pid ≡ other)) (some-injective v u e) mine
    by_tail v js views holder other (suc j) u mine each e = each j u e
