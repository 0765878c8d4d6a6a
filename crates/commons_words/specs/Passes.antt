-- A pass, and the commons and the link that it belongs to. The project's own.
use Rattle.std.specs.Prelude.{◌≡◌, ℕ, List, [], ◌∷◌, ◌++◌, length}
use Rattle.atomic_table.specs.Seated.{TableId}
use Rattle.commons.specs.declared.view.View.{View}
use Rattle.commons.specs.Views.{IsSound}
use Rattle.commons_words.specs.declared.rule.SeatView.{SeatView}
use Rattle.commons_words.specs.declared.rule.Role.TheVariants.{Process}
use Rattle.commons_words.specs.Held.{Seated}
use Rattle.commons_words.specs.declared.passes.WordPass.{WordPass}
use Rattle.commons_words.specs.declared.word_link.WordLink.{WordLink}
use Rattle.commons_words.specs.declared.word_commons.WordCommons.{WordCommons}

-- what the pass knows, and what it did
abbrev pub view_of : WordPass → View
view_of p = p.seat.me.0.view

-- the seat of a process, at a table of these sizes
pub record IsProcess (area_size log_size : ℕ) (x : SeatView) : Type 0 where
  pub role : x.role ≡ Process
  pub area_is : x.area_size ≡ area_size
  pub log_is : x.log_size ≡ log_size

-- the pass has a seat at this table, into which no other was joined, and its numbers are those of
-- its view
pub record IsPassAt (id : TableId) (area_size log_size : ℕ) (p : WordPass) : Type 0 where
  pub table : p.seat.table_id ≡ id
  pub no_slot : p.seat.me.1 ≡ []
  pub process : IsProcess area_size log_size p.seat.me.0
  pub alone : p.seat.me.0.joined ≡ []
  pub known : p.known ≡ length (view_of p).known
  pub start : p.block_start ≡ (view_of p).block_start
  pub stop : p.block_end ≡ (view_of p).block_end
  pub sound : IsSound area_size log_size (view_of p)

-- the pass belongs to the link
abbrev pub IsPassOf : WordLink → WordPass → Type 0
IsPassOf c p = IsPassAt c.table.now.table_id c.area c.log p

-- the pass belongs to the commons
abbrev pub IsPassIn : WordCommons → WordPass → Type 0
IsPassIn c p = IsPassAt c.table.shared.table_id c.area c.log p

-- how many words the area has, and how many places the log
abbrev pub area_size_of : WordLink → ℕ
area_size_of c = c.area

abbrev pub log_size_of : WordLink → ℕ
log_size_of c = c.log

abbrev pub area_size_in : WordCommons → ℕ
area_size_in c = c.area

abbrev pub log_size_in : WordCommons → ℕ
log_size_in c = c.log

-- the link is to this commons: it has the same sizes, and the same passes belong to both
pub record IsLinkTo (c : WordCommons) (link : WordLink) : Type 0 where
  pub area_size : area_size_of link ≡ area_size_in c
  pub log_size : log_size_of link ≡ log_size_in c
  pub passes : (p : WordPass) → IsPassIn c p → IsPassOf link p
  pub passes_back : (p : WordPass) → IsPassOf link p → IsPassIn c p

-- a pass with this view was joined into the seat
abbrev pub with_joined : Seated → View → Seated
with_joined m u = (record m.0 { joined = m.0.joined ++ u ∷ [] }, m.1)

-- the seat of a pass with the view v, into which the passes with these views were joined
pub record HasGathered (v : View) (joined : List View) (m : Seated) : Type 0 where
  pub role : m.0.role ≡ Process
  pub view : m.0.view ≡ v
  pub all : m.0.joined ≡ joined
