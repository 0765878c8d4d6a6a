-- A birth keeps the rule of the table.
use Rattle.std.proofs.Common.{◌≡◌, ◌≢◌, ℕ, ◌<◌, List, [], ◌∷◌, ◌++◌, length, set, sym, ap, ◌∙◌, ⊎_elim, subst, arith, Bool, ne_eqb, eq-eqb}
use Rattle.std.specs.Prelude.{◌==◌, if◌then◌else◌, Some}
use mathlib.Core.Option.{some, some-injective}
use mathlib.Core.Logic.{dite}
use native.Mathlib.Decide.{ℕ_discrete}
use lib.ListN.{get_elem?}
use Rattle.atomic_table.specs.Table.{Splits}
use Rattle.commons.specs.declared.view.View.{View}
use Rattle.commons.specs.Rule.{At, IsKept}
use Rattle.commons.specs.Steps.{bore, born_of}
use Rattle.commons.proofs.Rows.{at_set, set_here, set_else, at_snoc, at_longer, at_last}
use Rattle.commons.proofs.Births.{births_kept}
use Rattle.commons_words.specs.declared.rule.SeatView.{SeatView}
use Rattle.commons_words.specs.declared.rule.Role.{Role}
use Rattle.commons_words.specs.declared.rule.Role.TheVariants.{Process, Note, Spent}
use Rattle.commons_words.specs.Held.{Gathered, Sits, IsHeld, or_zero, parent_seat, child_seat}
use Rattle.commons_words.proofs.Moves.{not_spent, none_gathered, stand_still, seated}

below_not : (p q : ℕ) → p < q → p ≢ q
below_not p q h e = omega arith

-- a seat that is not touched, where a view is added and the child has a seat of its own
beside : (log : List ℕ) (views : List View) (holder : ℕ → ℕ) (j id k q new : ℕ) (x w y child : View) → At views k x → holder x.pid ≡ id → j ≢ id → ((i : ℕ) (u : View) → At views i u → u.pid ≢ q) → (role : Role) → Sits log views holder j y role
    → Sits log (set views k w ++ child ∷ []) (λ p. if p == q then new else holder p) j y role
beside log views holder j id k q new x w y child at mine other free Process h =
    let n : h.0.0 ≢ k = λ e. let same : y ≡ x = some-injective y x (sym h.0.1 ∙ (ap (get_elem? views) e ∙ at)) in other (sym h.1 ∙ (ap (λ (v : View). holder v.pid) same ∙ mine)) in (
      (h.0.0, at_longer (set views k w) (child ∷ []) h.0.0 y (set_else views k h.0.0 w n ∙ h.0.1)),
      ap (λ (b : Bool). if b then new else holder y.pid) (ne_eqb y.pid q (free h.0.0 y h.0.1)) ∙ h.1,
    )
beside log views holder j id k q new x w y child at mine other free Note h = h
beside log views holder j id k q new x w y child at mine other free Spent h = tt

pub birth_allowed : (a l id q : ℕ) (x : SeatView) → x.role ≡ Process → x.view.unborn ≡ Some q → Splits (IsHeld a l) id x (parent_seat x) (child_seat x)
birth_allowed a l id q x is names s h at =
    let v : View = x.view in
    let qq : or_zero v.unborn ≡ q = ap or_zero names in
    let sits = seated a l s h id x at is in
    let k : ℕ = sits.0.0 in
    let new : ℕ = length (set s.views id (parent_seat x)) in
    let own = (h.kept.each k v sits.0.1) in
    let unborn = own.names.unborn_own q names in
    let late = own.names.own_late unborn.0 unborn.1 in
    let above = unborn.2 in
    let free : (i : ℕ) (u : View) → At h.views i u → u.pid ≢ q = λ i u e. dite (ℕ_discrete i k)
    (λ same z. (below_not v.pid q (omega arith)) (ap (λ (y : View). y.pid) (some-injective v u (sym sits.0.1 ∙ (ap (get_elem? h.views) (sym same) ∙ e))) ∙ z))
    (λ other. ((h.kept.apart k i v u (λ z. other (sym z)) sits.0.1 e).clear q names).0) in
    let kept = births_kept a l h.claim k q h.log h.area h.views v h.kept sits.0.1 names in
    let views' : List View = set h.views k (bore v (or_zero v.unborn)) ++ born_of v (or_zero v.unborn) ∷ [] in
    let kept' : IsKept a l h.claim h.log h.area views' = subst (λ (z : ℕ). IsKept a l h.claim h.log h.area (set h.views k (bore v z) ++ born_of v z ∷ [])) (sym qq) kept in
    let holder' : ℕ → ℕ = λ p. if p == q then new else h.holder p in
    let two = h.sizes id x at (not_spent x.role is) in
    let sits_all : (j : ℕ) (y : SeatView) → get_elem? (set s.views id (parent_seat x) ++ child_seat x ∷ []) j ≡ some y → Sits h.log views' holder' j y.view y.role = λ j y e. ⊎_elim
    (λ (t : (j < length (set s.views id (parent_seat x))) × (get_elem? (set s.views id (parent_seat x)) j ≡ some y)). ⊎_elim
    (λ (u : (j ≡ id) × (parent_seat x ≡ y)).
    let me : Sits h.log views' holder' id (parent_seat x).view Process = (
      (k, at_longer (set h.views k (bore v (or_zero v.unborn))) (born_of v (or_zero v.unborn) ∷ []) k (bore v (or_zero v.unborn)) (set_here h.views k (bore v (or_zero v.unborn)) v sits.0.1)),
      ap (λ (b : Bool). if b then new else h.holder v.pid) (ne_eqb v.pid q (free k v sits.0.1)) ∙ sits.1,
    ) in
    let me' : Sits h.log views' holder' j (parent_seat x).view x.role = subst (λ (r : Role). Sits h.log views' holder' j (parent_seat x).view r) (sym is) (subst (λ (z : ℕ). Sits h.log views' holder' z (parent_seat x).view Process) (sym u.0) me) in
    subst (λ (z : SeatView). Sits h.log views' holder' j z.view z.role) u.1 me')
    (λ (u : (j ≢ id) × (get_elem? s.views j ≡ some y)). subst (λ (z : ℕ). Sits h.log (set h.views k (bore v z) ++ born_of v z ∷ []) holder' j y.view y.role) (sym qq)
    (beside h.log h.views h.holder j id k q new v (bore v q) y.view (born_of v q) sits.0.1 sits.1 u.0 free y.role (h.seats j y u.1)))
    (at_set s.views id j (parent_seat x) y t.1))
    (λ (t : (j ≡ length (set s.views id (parent_seat x))) × (child_seat x ≡ y)).
    let cv : View = born_of v (or_zero v.unborn) in
    let me : Sits h.log views' holder' j cv Process = (
      (length (set h.views k (bore v (or_zero v.unborn))), at_last (set h.views k (bore v (or_zero v.unborn))) cv),
      ap (λ (b : Bool). if b then new else h.holder cv.pid) (eq-eqb cv.pid q qq) ∙ sym t.0,
    ) in
    let me' : Sits h.log views' holder' j cv x.role = subst (λ (r : Role). Sits h.log views' holder' j cv r) (sym is) me in
    subst (λ (z : SeatView). Sits h.log views' holder' j z.view z.role) t.1 me')
    (at_snoc (set s.views id (parent_seat x)) (child_seat x) y j e) in record {
      claim = h.claim;
      log = h.log;
      area = h.area;
      views = views';
      holder = holder';
      words = h.words;
      kept = kept';
      sizes = λ j y e live. ⊎_elim
          (λ (t : (j < length (set s.views id (parent_seat x))) × (get_elem? (set s.views id (parent_seat x)) j ≡ some y)). ⊎_elim
          (λ (u : (j ≡ id) × (parent_seat x ≡ y)). (ap (λ (z : SeatView). z.area_size) (sym u.1) ∙ two.0, ap (λ (z : SeatView). z.log_size) (sym u.1) ∙ two.1))
          (λ (u : (j ≢ id) × (get_elem? s.views j ≡ some y)). h.sizes j y u.1 live) (at_set s.views id j (parent_seat x) y t.1))
          (λ (t : (j ≡ length (set s.views id (parent_seat x))) × (child_seat x ≡ y)). (ap (λ (z : SeatView). z.area_size) (sym t.1) ∙ two.0, ap (λ (z : SeatView). z.log_size) (sym t.1) ∙ two.1))
          (at_snoc (set s.views id (parent_seat x)) (child_seat x) y j e);
      seats = sits_all;
      joined = λ j y e. ⊎_elim
          (λ (t : (j < length (set s.views id (parent_seat x))) × (get_elem? (set s.views id (parent_seat x)) j ≡ some y)). ⊎_elim
          (λ (u : (j ≡ id) × (parent_seat x ≡ y)).
          let g = h.joined id x at in
          let mine' : Gathered views' holder' id (parent_seat x).view x.joined = (
            (λ i z f. let r = g.0 i z f in let m = stand_still h.views k v (bore v (or_zero v.unborn)) z sits.0.1 r.2 r.0 in
                ((m.0, at_longer (set h.views k (bore v (or_zero v.unborn))) (born_of v (or_zero v.unborn) ∷ []) m.0 z m.1), ap (λ (b : Bool). if b then new else h.holder z.pid) (ne_eqb z.pid q (free r.0.0 z r.0.1)) ∙ r.1, r.2)),
            g.1,
          ) in
          subst (λ (z : SeatView). Gathered views' holder' j z.view z.joined) u.1 (subst (λ (p : ℕ). Gathered views' holder' p (parent_seat x).view x.joined) (sym u.0) mine'))
          (λ (u : (j ≢ id) × (get_elem? s.views j ≡ some y)). let g = h.joined j y u.1 in (
            (λ i z f. let r = g.0 i z f in let m = stand_still h.views k v (bore v (or_zero v.unborn)) z sits.0.1 (λ n. u.0 (sym r.1 ∙ (ap h.holder n ∙ sits.1))) r.0 in
                ((m.0, at_longer (set h.views k (bore v (or_zero v.unborn))) (born_of v (or_zero v.unborn) ∷ []) m.0 z m.1), ap (λ (b : Bool). if b then new else h.holder z.pid) (ne_eqb z.pid q (free r.0.0 z r.0.1)) ∙ r.1, r.2)),
            g.1,
          ))
          (at_set s.views id j (parent_seat x) y t.1))
          (λ (t : (j ≡ length (set s.views id (parent_seat x))) × (child_seat x ≡ y)). subst (λ (z : SeatView). Gathered views' holder' j z.view z.joined) t.1 (none_gathered views' holder' j (born_of v (or_zero v.unborn))))
          (at_snoc (set s.views id (parent_seat x)) (child_seat x) y j e);
    }
