-- A process's seat takes a view, and the rule of the table holds again.
use Rattle.std.proofs.Common.{◌≡◌, ◌≢◌, ℕ, List, [], ◌∷◌, ◌++◌, set, append_assoc, append-nil, sym, refl, ap, ◌∙◌, ⊎_elim, subst}
use Rattle.std.specs.Prelude.{slice_index, None}
use mathlib.Core.Option.{some, some-injective, some-ne-none}
use lib.ListN.{get_elem?}
use Rattle.atomic_table.specs.Table.{State, stepped, keeps}
use Rattle.std.proofs.lemmas.List.{set-get_or}
use Rattle.hy_words.specs.Lists.{StartsWith, Grown}
use Rattle.commons.specs.declared.view.View.{View}
use Rattle.commons.specs.Views.{IsAreaSize, IsLogSize, IsSound}
use Rattle.commons.specs.Rule.{At, IsKept}
use Rattle.commons.proofs.Rows.{at_set, set_here, set_else}
use Rattle.commons.proofs.Steps.{sound_at}
use Rattle.commons_words.specs.declared.rule.SeatView.{SeatView}
use Rattle.commons_words.specs.declared.rule.Role.{Role}
use Rattle.commons_words.specs.declared.rule.Role.TheVariants.{Process, Note, Spent}
use Rattle.commons_words.specs.Held.{Gathered, padded, Sits, IsHeld, Seated, TakesView}
use Rattle.commons_words.specs.Passes.{IsProcess}

pub not_spent : (r : Role) → r ≡ Process → r ≢ Spent
not_spent r e f = let z : Process ≡ Spent = sym e ∙ f in cc

pub starts_on : (a b c : List ℕ) → StartsWith b a → StartsWith c b → StartsWith c a
starts_on a b c f g = (f.0 ++ g.0, g.1 ∙ (ap (λ (x : List ℕ). x ++ g.0) f.1 ∙ append_assoc a f.0 g.0))

pub others : (log log' : List ℕ) (views : List View) (holder : ℕ → ℕ) (j id k : ℕ) (x w y : View) → StartsWith log' log → At views k x → holder x.pid ≡ id → j ≢ id → (role : Role) → Sits log views holder j y role
    → Sits log' (set views k w) holder j y role
others log log' views holder j id k x w y more at mine other Process h =
    let n : h.0.0 ≢ k = λ e. let same : y ≡ x = some-injective y x (sym h.0.1 ∙ (ap (get_elem? views) e ∙ at)) in other (sym h.1 ∙ (ap (λ (v : View). holder v.pid) same ∙ mine)) in ((h.0.0, set_else views k h.0.0 w n ∙ h.0.1), h.1)
others log log' views holder j id k x w y more at mine other Note h = starts_on y.known log log' h more
others log log' views holder j id k x w y more at mine other Spent h = tt

pub none_gathered : (views : List View) (holder : ℕ → ℕ) (id : ℕ) (v : View) → Gathered views holder id v []
none_gathered views holder id v = ((λ j u e. absurd (some-ne-none u (sym e))), λ j k a b e f z. absurd (some-ne-none a (sym e)))

-- a view stands where another is set
pub stand_still : (views : List View) (k : ℕ) (x w u : View) → At views k x → u.pid ≢ x.pid → (i : ℕ) × At views i u → (i : ℕ) × At (set views k w) i u
stand_still views k x w u at other t = (t.0, set_else views k t.0 w (λ e. other (ap (λ (v : View). v.pid) (some-injective u x (sym t.1 ∙ (ap (get_elem? views) e ∙ at))))) ∙ t.1)

-- the seat id takes the view w, and the words change with it
pub moves : (a l : ℕ) (s : State ℕ SeatView) (h : IsHeld a l s) (id k i n c' : ℕ) (log' area' : List ℕ) (cs : List (ℕ × ℕ)) (x : SeatView) (w : View)
    → get_elem? s.views id ≡ some x → x.role ≡ Process → At h.views k x.view → h.holder x.view.pid ≡ id → w.pid ≡ x.view.pid → StartsWith log' h.log
    → set s.words i n ≡ c' ∷ (padded l log' ++ area') → IsKept a l c' log' area' (set h.views k w) → IsHeld a l (stepped s i n id cs (record x { view = w }) keeps)
moves a l s h id k i n c' log' area' cs x w at is mine holds same more words kept = record {
  claim = c';
  log = log';
  area = area';
  views = set h.views k w;
  holder = h.holder;
  words = words;
  kept = kept;
  sizes = λ j y e live. ⊎_elim (λ (t : (j ≡ id) × (record x { view = w } ≡ y)). let z = h.sizes id x at (not_spent x.role is) in (ap (λ (u : SeatView). u.area_size) (sym t.1) ∙ z.0, ap (λ (u : SeatView). u.log_size) (sym t.1) ∙ z.1))
      (λ (t : (j ≢ id) × (get_elem? s.views j ≡ some y)). h.sizes j y t.1 live) (at_set s.views id j (record x { view = w }) y e);
  seats = λ j y e. ⊎_elim
      (λ (t : (j ≡ id) × (record x { view = w } ≡ y)).
      let me : Sits log' (set h.views k w) h.holder id w Process = ((k, set_here h.views k w x.view mine), ap h.holder same ∙ holds) in
      let me' : Sits log' (set h.views k w) h.holder j w x.role = subst (λ (r : Role). Sits log' (set h.views k w) h.holder j w r) (sym is) (subst (λ (q : ℕ). Sits log' (set h.views k w) h.holder q w Process) (sym t.0) me) in
      subst (λ (u : SeatView). Sits log' (set h.views k w) h.holder j u.view u.role) t.1 me')
      (λ (t : (j ≢ id) × (get_elem? s.views j ≡ some y)). others h.log log' h.views h.holder j id k x.view w y.view more mine holds t.0 y.role (h.seats j y t.1))
      (at_set s.views id j (record x { view = w }) y e);
  joined = λ j y e. ⊎_elim
      (λ (t : (j ≡ id) × (record x { view = w } ≡ y)).
      let g = h.joined id x at in
      let mine' : Gathered (set h.views k w) h.holder id w x.joined = ((λ i u f. let r = g.0 i u f in (stand_still h.views k x.view w u mine r.2 r.0, r.1, λ z. r.2 (z ∙ same))), g.1) in
      subst (λ (u : SeatView). Gathered (set h.views k w) h.holder j u.view u.joined) t.1 (subst (λ (q : ℕ). Gathered (set h.views k w) h.holder q w x.joined) (sym t.0) mine'))
      (λ (t : (j ≢ id) × (get_elem? s.views j ≡ some y)). let g = h.joined j y t.1 in
      ((λ i u f. let r = g.0 i u f in (stand_still h.views k x.view w u mine (λ z. t.0 (sym r.1 ∙ (ap h.holder z ∙ holds))) r.0, r.1, r.2)), g.1))
      (at_set s.views id j (record x { view = w }) y e);
}

pub seated : (a l : ℕ) (s : State ℕ SeatView) (h : IsHeld a l s) (id : ℕ) (x : SeatView) → get_elem? s.views id ≡ some x → x.role ≡ Process → ((k : ℕ) × At h.views k x.view) × (h.holder x.view.pid ≡ id)
seated a l s h id x at is = subst (λ (r : Role). Sits h.log h.views h.holder id x.view r) is (h.seats id x at)

-- a seat takes a view, and no word changes
pub stays : (a l i id : ℕ) (me : Seated) (s : State ℕ SeatView) (h : IsHeld a l s) (k : ℕ) (w : View) → get_elem? s.views id ≡ some me.0 → me.0.role ≡ Process → At h.views k me.0.view → h.holder me.0.view.pid ≡ id → w.pid ≡ me.0.view.pid
    → IsKept a l h.claim h.log h.area (set h.views k w) → IsHeld a l (stepped s i (slice_index s.words i) id me.1 (record me.0 { view = w }) keeps)
stays a l i id me s h k w at is mine holds same kept = moves a l s h id k i (slice_index s.words i) h.claim h.log h.area me.1 me.0 w at is mine holds same ([], sym (append-nil h.log)) (set-get_or s.words i 0 ∙ h.words) kept

-- the view that the seat has then
pub takes_view : (a l c k : ℕ) (log area : List ℕ) (views : List View) (me : Seated) (w : View) → IsProcess a l me.0 → IsAreaSize a × IsLogSize l → IsKept a l c log area (set views k w) → At views k me.0.view → w.told ≡ None → Grown me.0.view.seen w.seen → TakesView me w (record me.0 { view = w }, me.1)
takes_view a l c k log area views me w p sizes kept at told grown =
    let sound : IsSound a l w = sound_at a l c k log area (set views k w) w sizes.0 sizes.1 kept (set_here views k w me.0.view at) told in
    (refl, subst (λ (z : ℕ × ℕ). IsSound z.0 z.1 w) (λ i. (sym p.area_is i, sym p.log_is i)) sound, grown)
