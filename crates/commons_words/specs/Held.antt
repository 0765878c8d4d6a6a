-- The rule of the table, and what each step at it tells. The project's own.
-- Word 0 is the claim word, then come the log words, then the area words.
use Rattle.std.specs.Prelude.{◌≡◌, ◌≢◌, ℕ, ◌+◌, ◌-◌, ◌<◌, ◌≤◌, List, [], ◌∷◌, ◌++◌, length, slice_index, replicate, Option, Some, None}
use mathlib.Core.Option.{some}
use lib.ListN.{get_elem?}
use Rattle.atomic_table.specs.Table.{State, Me, Step}
use Rattle.hy_words.specs.Lists.{Grown, StartsWith}
use Rattle.commons.specs.declared.view.View.{View}
use Rattle.commons.specs.Log.{header_at}
use Rattle.commons.specs.Views.{IsSound}
use Rattle.commons.specs.Rule.{At, IsKept}
use Rattle.commons.specs.Steps.{first_view, claimed, refused_claim, wrote, read, learnt, looked, appended, bore, born_of, told_of, settled}
use Rattle.commons.specs.Changes.{child_at}
use Rattle.commons_words.specs.declared.rule.SeatView.{SeatView}
use Rattle.commons_words.specs.declared.rule.Role.{Role}
use Rattle.commons_words.specs.declared.rule.Role.TheVariants.{Process, Note, Spent}

-- the log words of the table: those that were written, and 0 for the others
abbrev pub padded : ℕ → List ℕ → List ℕ
padded log_size log = log ++ replicate (log_size - length log) 0

-- a process's seat has the view of a pass, and holds that pass; what a note has begins the log
abbrev pub Sits : (log : List ℕ) → List View → (holder : ℕ → ℕ) → (id : ℕ) → View → Role → Type 0
Sits log views holder id v Process = ((k : ℕ) × At views k v) × (holder v.pid ≡ id)
Sits log views holder id v Note = StartsWith log v.known
Sits log views holder id v Spent = Unit {0}

-- the views that were joined into a seat with the view v: each that of a pass which this seat
-- holds, and each pid once
abbrev pub Gathered : List View → (holder : ℕ → ℕ) → (id : ℕ) → View → List View → Type 0
Gathered views holder id v joined =
    ((j : ℕ) (u : View) → get_elem? joined j ≡ some u
    → ((k : ℕ) × At views k u) × (holder u.pid ≡ id) × (u.pid ≢ v.pid))
    × ((j k : ℕ) (a b : View) → get_elem? joined j ≡ some a → get_elem? joined k ≡ some b
    → a.pid ≡ b.pid → j ≡ k)

-- the rule of the commons holds of the words and of one view for each pass; a seat that isn't spent
-- knows the sizes, and each pass is held by one seat
pub record IsHeld (area_size log_size : ℕ) (s : State ℕ SeatView) : Type 0 where
  pub claim : ℕ
  pub log : List ℕ
  pub area : List ℕ
  pub views : List View
  pub holder : ℕ → ℕ
  pub words : s.words ≡ claim ∷ (padded log_size log ++ area)
  pub kept : IsKept area_size log_size claim log area views
  pub sizes : (id : ℕ) (x : SeatView) → get_elem? s.views id ≡ some x → x.role ≢ Spent
      → (x.area_size ≡ area_size) × (x.log_size ≡ log_size)
  pub seats : (id : ℕ) (x : SeatView) → get_elem? s.views id ≡ some x
      → Sits log views holder id x.view x.role
  pub joined : (id : ℕ) (x : SeatView) → get_elem? s.views id ≡ some x
      → Gathered views holder id x.view x.joined

-- the seat of the first pass
abbrev pub first_seat : (area_size log_size : ℕ) → SeatView
first_seat area_size log_size =
    record {
      role = Process;
      area_size = area_size;
      log_size = log_size;
      view = first_view area_size;
      joined = [];
    }

abbrev pub Seated : Type 0
Seated = Me ℕ SeatView

-- the seat has the view w then
abbrev pub TakesView : Seated → View → Seated → Type 0
TakesView m w m' =
    (m' ≡ (record m.0 { view = w }, m.1)) × IsSound m.0.area_size m.0.log_size w
    × Grown m.0.view.seen w.seen

abbrev pub claim_tells : Step ℕ → Seated → ℕ → Seated → Type 0
claim_tells st m found m' =
    (found + st.first ≤ m.0.area_size
    → (m.0.view.block_end ≤ found) × TakesView m (claimed m.0.view found st.first) m')
    × (m.0.area_size < found + st.first → TakesView m (refused_claim m.0.view found st.first) m')

-- of a store
abbrev pub put_tells : Step ℕ → Seated → ℕ → Seated → Type 0
put_tells st m stored m' = TakesView m (wrote m.0.view stored) m'

abbrev pub get_tells : Step ℕ → Seated → ℕ → Seated → Type 0
get_tells st m found m' =
    (found ≢ 0)
    × ((place : ℕ) → 1 + m.0.log_size + place ≡ st.word
    → TakesView m (read m.0.view place found) m')

-- of a load of the log word behind the known ones: a look was in vain only where it found 0
abbrev pub look_tells : Step ℕ → Seated → ℕ → Seated → Type 0
look_tells st m found m' =
    (found ≢ 0 → TakesView m (learnt m.0.view found) m')
    × (found ≡ 0 → TakesView m (looked m.0.view (m.0.view.looks + 1)) m')

-- of a load of word 0: a look was in vain only where the whole log is known
abbrev pub full_tells : Step ℕ → Seated → ℕ → Seated → Type 0
full_tells st m found m' =
    m.0.log_size ≤ length m.0.view.known
    → TakesView m (looked m.0.view (m.0.view.looks + 1)) m'

-- the view after an append that was won
abbrev pub won : View → (entry : ℕ) → View
won v entry =
    appended v (length v.known) entry (child_at (header_at v.seen entry) (length v.known))

abbrev pub append_tells : Step ℕ → Seated → ℕ → Seated → Type 0
append_tells st m found m' =
    (found ≢ 0 → TakesView m (learnt m.0.view found) m')
    × (found ≡ 0 → TakesView m (won m.0.view st.second) m')

-- the tries of an append so far were lost: only the known words went on
abbrev pub HasLost : View → View → Type 0
HasLost v w = (w ≡ record v { known = w.known }) × StartsWith w.known v.known

abbrev pub entry_tells : Step ℕ → Seated → ℕ → Seated → Type 0
entry_tells st m found m' =
    (m' ≡ m)
    × ((place : ℕ) → 1 + place ≡ st.word → found ≡ slice_index m.0.view.known place)

abbrev pub or_zero : Option ℕ → ℕ
or_zero None = 0
or_zero (Some q) = q

-- the seats of a parent and its child, once the child is born
abbrev pub parent_seat : SeatView → SeatView
parent_seat x = record x { view = bore x.view (or_zero x.view.unborn) }

abbrev pub child_seat : SeatView → SeatView
child_seat x = record x { view = born_of x.view (or_zero x.view.unborn); joined = [] }

-- a note has known log words alone
abbrev pub note_of : SeatView → SeatView
note_of x = record x { role = Note; joined = [] }

abbrev pub told_by : SeatView → SeatView → SeatView
told_by x y = record x { view = told_of x.view y.view.known }

-- a seat that was joined in, at whichever table
abbrev pub spent : SeatView
spent =
    record { role = Spent; area_size = 0; log_size = 0; view = first_view 0; joined = [] }

abbrev pub settle_tells : Step ℕ → Seated → ℕ → Seated → Type 0
settle_tells st m found m' =
    TakesView m (settled m.0.view) m' × StartsWith (settled m.0.view).known m.0.view.known

-- a pass is joined in at the close
abbrev pub gathered : SeatView → SeatView → SeatView
gathered x y = record x { joined = x.joined ++ y.view ∷ y.joined }
