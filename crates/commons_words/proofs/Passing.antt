-- A pass whose seat has another view.
use Rattle.std.proofs.Common.{◌≡◌, ℕ, ◌≤◌, List, [], length, sym, refl, ap, ◌∙◌, subst, false, true, arith, lit≤}
use Rattle.std.specs.Prelude.{Option, Some, None, IsSome}
use Rattle.atomic_table.specs.Table.{Me}
use Rattle.atomic_table.specs.Seated.{TableId}
use Rattle.commons.specs.declared.view.View.{View}
use Rattle.commons.specs.Views.{IsSound, IsAreaSize, IsLogSize}
use Rattle.commons.specs.Steps.{bore, born_of}
use Rattle.commons.proofs.Steps.{none_some}
use Rattle.commons_words.specs.declared.rule.SeatView.{SeatView}
use Rattle.commons_words.specs.declared.passes.WordPass.{WordPass}
use Rattle.commons_words.specs.Held.{TakesView, or_zero, told_by}
use Rattle.commons_words.specs.Passes.{IsProcess, IsPassAt, view_of}

pub some_is : (o : Option ℕ) → IsSome o → o ≡ Some (or_zero o)
some_is None h = absurd (differ h)
  where
    differ : false ≡ true → ⊥
    differ e = cc
some_is (Some q) h = refl

-- the table's key has the same sizes
pub process_at : (a l b m : ℕ) (x : SeatView) → b ≡ a → m ≡ l → IsProcess a l x → IsProcess b m x
process_at a l b m x e f h = record { role = h.role; area_is = h.area_is ∙ sym e; log_is = h.log_is ∙ sym f }

pub sound_for : (a l b m : ℕ) (v : View) → b ≡ a → m ≡ l → IsSound a l v → IsSound b m v
sound_for a l b m v e f h = subst (λ (z : ℕ × ℕ). IsSound z.0 z.1 v) (λ i. (sym e i, sym f i)) h

pub same_seat : (x : SeatView) (w : View) (xs : List (ℕ × ℕ)) → x.joined ≡ [] → xs ≡ [] → ◌≡◌ {A = Me ℕ SeatView} (record x { view = w }, xs) (record x { view = w; joined = [] }, [])
same_seat x w xs e f i = (record x { view = w; joined = e i }, f i)

pub pass_with : (id : TableId) (a l : ℕ) (p q : WordPass) (w : View) → IsPassAt id a l p → q.seat.table_id ≡ id → q.seat.me ≡ (record p.seat.me.0 { view = w; joined = [] }, []) → q.known ≡ length w.known → q.block_start ≡ w.block_start → q.block_end ≡ w.block_end → IsSound a l w
    → IsPassAt id a l q
pass_with id a l p q w h table me known start stop sound =
    let v : view_of q ≡ w = ap (λ (m : Me ℕ SeatView). m.0.view) me in record {
      table = table;
      no_slot = ap (λ (m : Me ℕ SeatView). m.1) me;
      process = record { role = ap (λ (m : Me ℕ SeatView). m.0.role) me ∙ h.process.role; area_is = ap (λ (m : Me ℕ SeatView). m.0.area_size) me ∙ h.process.area_is; log_is = ap (λ (m : Me ℕ SeatView). m.0.log_size) me ∙ h.process.log_is };
      alone = ap (λ (m : Me ℕ SeatView). m.0.joined) me;
      known = known ∙ ap (λ (x : View). length x.known) (sym v);
      start = start ∙ ap (λ (x : View). x.block_start) (sym v);
      stop = stop ∙ ap (λ (x : View). x.block_end) (sym v);
      sound = subst (λ (x : View). IsSound a l x) (sym v) sound;
    }

-- the seat took the view w at a step
pub pass_takes : (id : TableId) (a l : ℕ) (p q : WordPass) (w : View) → IsPassAt id a l p → q.seat.table_id ≡ id → TakesView p.seat.me w q.seat.me → q.known ≡ length w.known → q.block_start ≡ w.block_start → q.block_end ≡ w.block_end → IsPassAt id a l q
pass_takes id a l p q w h table t known start stop =
    pass_with id a l p q w h table (t.0 ∙ same_seat p.seat.me.0 w p.seat.me.1 h.alone h.no_slot) known start stop (subst (λ (z : ℕ × ℕ). IsSound z.0 z.1 w) (λ i. (h.process.area_is i, h.process.log_is i)) t.1)

-- a parent and its child are sound where the parent was
pub sound_bore : (a l : ℕ) (v : View) → IsSound a l v → IsSound a l (bore v (or_zero v.unborn))
sound_bore a l v h = record {
  sizes = h.sizes;
  short = h.short;
  names_entries = h.names_entries;
  settled = h.settled;
  own_known = h.own_known;
  own_late = h.own_late;
  pid_known = h.pid_known;
  unborn_own = λ q e. absurd (none_some q e);
  ordered = h.ordered;
  inside = h.inside;
  wide = h.wide;
  fits = h.fits;
}

pub sound_born : (a l : ℕ) (v : View) → v.unborn ≡ Some (or_zero v.unborn) → IsSound a l v → IsSound a l (born_of v (or_zero v.unborn))
sound_born a l v names h =
    let u = h.unborn_own (or_zero v.unborn) names in
    let early = h.own_known u.0 u.1 in
    let above = u.2 in record {
      sizes = h.sizes;
      short = h.short;
      names_entries = h.names_entries;
      settled = h.settled;
      own_known = λ place t. let b = t.1 in absurd (omega arith);
      own_late = λ place t. let b = t.1 in absurd (omega arith);
      pid_known = omega arith;
      unborn_own = λ q e. absurd (none_some q e);
      ordered = lit≤ tt;
      inside = least a;
      wide = h.wide;
      fits = h.fits;
    }
  where
    least : (n : ℕ) → 0 ≤ n
    least n = omega arith

-- a seat into which a note was joined
pub process_told : (a l b m : ℕ) (me me' : Me ℕ SeatView) (y : SeatView) → b ≡ a → m ≡ l → IsProcess a l me.0 → me' ≡ (told_by me.0 y, me.1) → IsProcess b m me'.0
process_told a l b m me me' y e f h same = process_at a l b m me'.0 e f record { role = ap (λ (t : Me ℕ SeatView). t.0.role) same ∙ h.role; area_is = ap (λ (t : Me ℕ SeatView). t.0.area_size) same ∙ h.area_is; log_is = ap (λ (t : Me ℕ SeatView). t.0.log_size) same ∙ h.log_is }

pub sizes_at : (a l b m : ℕ) → b ≡ a → m ≡ l → IsAreaSize a × IsLogSize l → IsAreaSize b × IsLogSize m
sizes_at a l b m e f h = subst (λ (z : ℕ × ℕ). IsAreaSize z.0 × IsLogSize z.1) (λ i. (sym e i, sym f i)) h
