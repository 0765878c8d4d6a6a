-- What a pass knows: its cells, the areas that fit it, and what it may put and read. The project's
-- own.
use Rattle.std.specs.Prelude.{◌≡◌, ◌⊎◌, ℕ, ◌+◌, ◌<◌, ◌≤◌, List, length, slice_index, Some, None}
use Rattle.hy_terms.specs.Labelled.{Labelled}
use Rattle.hy_words.specs.Lists.{Grown, Has, StartsWith}
use Rattle.hy_words.specs.declared.kind.Entry.TheVariants.{Print}
use Rattle.hy_words.specs.Words.{tag_of, payload_of, area_tag, tag_of_entry, area_word_of, IsHeader, IsTermHeader, IsScalar, following}
use Rattle.hy_words.specs.Stands.{Stands}
use Rattle.hy_words.specs.Names.{NamesOnly}
use Rattle.commons.specs.declared.view.View.{View}
use Rattle.commons.specs.Area.{IsWhole, IsEntryCell, IsClosed}
use Rattle.commons.specs.Log.{header_at, actor_of, text_of, prints_at, IsLog}

-- a pass knows a cell all of whose words it read or wrote, the cell of a known log word, and that
-- of an area word which it read or wrote
abbrev pub KnowsCellBy : (known seen : List ℕ) → ℕ → Type 0
KnowsCellBy known seen cell =
    IsWhole seen cell ⊎ (Has known (area_word_of cell) ⊎ Has seen (area_word_of cell))

abbrev pub KnowsCell : View → ℕ → Type 0
KnowsCell v cell = KnowsCellBy v.known v.seen cell

-- an area fits a pass where it is closed, agrees with the words that the pass read or wrote, has
-- each known cell whole, and the known words are a log over it
pub record FitsBy (capacity : ℕ) (known seen area : List ℕ) : Type 0 where
  pub sized : length area ≡ capacity
  pub closed : IsClosed area
  pub agrees : Grown seen area
  pub whole : (cell : ℕ) → KnowsCellBy known seen cell → IsWhole area cell
  pub log : IsLog (length known) known area

abbrev pub Fits : (capacity : ℕ) → View → List ℕ → Type 0
Fits capacity v area = FitsBy capacity v.known v.seen area

-- the place lies in a cell that the pass knows
abbrev pub KnowsPlace : (capacity : ℕ) → View → ℕ → Type 0
KnowsPlace capacity v place =
    (cell : ℕ) × KnowsCell v cell
    × ((area : List ℕ) → Fits capacity v area
    → (cell ≤ place) × (place ≤ cell + following (slice_index area cell)))

-- a tuple or cons that the pass knows
abbrev pub KnowsTerm : (capacity : ℕ) → View → ℕ → Type 0
KnowsTerm capacity v cell =
    KnowsCell v cell
    × ((area : List ℕ) → Fits capacity v area → IsTermHeader (slice_index area cell))

-- a value that may be put: a scalar, or the area word of a tuple or cons that the pass knows
abbrev pub MayShare : (capacity : ℕ) → View → ℕ → Type 0
MayShare capacity v word =
    IsScalar word ⊎ ((cell : ℕ) × (word ≡ area_word_of cell) × KnowsTerm capacity v cell)

-- a word that may be put: a header, or such a value
abbrev pub MayPut : (capacity : ℕ) → View → ℕ → Type 0
MayPut capacity v word = IsHeader word ⊎ MayShare capacity v word

-- each of these words may be put, or is such a value
abbrev pub MayPutAll : (capacity : ℕ) → View → List ℕ → Type 0
MayPutAll capacity v words = (k : ℕ) → k < length words → MayPut capacity v (slice_index words k)

abbrev pub MayShareAll : (capacity : ℕ) → View → List ℕ → Type 0
MayShareAll capacity v words =
    (k : ℕ) → k < length words → MayShare capacity v (slice_index words k)

-- n of the own entries are print entries, in each area that fits
abbrev pub HasPrinted : (capacity : ℕ) → View → (n : ℕ) → Type 0
HasPrinted capacity v n = (area : List ℕ) → Fits capacity v area → n ≡ prints_at area v.known v.own

-- an entry that the pass may append: whole, its own, and where it is a print, with the number of
-- the prints among its own entries
pub record MayAppend (capacity : ℕ) (v : View) (entry : ℕ) : Type 0 where
  pub names_cell : tag_of entry ≡ area_tag
  pub whole : IsEntryCell v.seen (payload_of entry)
  pub actor : actor_of v.seen entry ≡ v.pid
  pub text : tag_of (header_at v.seen entry) ≡ tag_of_entry Print
      → HasPrinted capacity v (text_of v.seen entry)

-- a view that knows no less
abbrev pub KnowsMore : View → View → Type 0
KnowsMore v w = StartsWith w.known v.known × Grown v.seen w.seen

-- in each area that fits, the word stands for a labelled term, and the area words that are in the
-- process's hands name known cells
abbrev pub StandsFor : (capacity : ℕ) (heap : List ℕ) → View → ℕ → Type 0
StandsFor capacity heap v w =
    (area : List ℕ) → Fits capacity v area → (t : Labelled) × Stands heap area t w
    × NamesOnly heap (KnowsCell v) t w

-- the sizes that a commons may have
abbrev pub IsAreaSize : ℕ → Type 0
IsAreaSize n = (256 ≤ n) × (n ≤ 67108864)

abbrev pub IsLogSize : ℕ → Type 0
IsLogSize n = (1 ≤ n) × (n ≤ 4194304)

-- what holds of each pass of a commons with such sizes, between calls
pub record IsSound (area_size log_size : ℕ) (v : View) : Type 0 where
  pub sizes : IsAreaSize area_size × IsLogSize log_size
  pub short : length v.known ≤ log_size
  pub names_entries : (k : ℕ) → k < length v.known → tag_of (slice_index v.known k) ≡ area_tag
  pub settled : v.told ≡ None
  pub own_known : (place : ℕ) → Has v.own place → place < length v.known
  pub own_late : (place : ℕ) → Has v.own place → v.pid ≤ place
  pub pid_known : v.pid ≤ length v.known
  pub unborn_own : (q : ℕ) → v.unborn ≡ Some q → (place : ℕ) × Has v.own place × (q ≡ place + 1)
  pub ordered : v.block_start ≤ v.block_end
  pub inside : v.block_end ≤ area_size
  pub wide : length v.seen ≡ area_size
  pub fits : (area : List ℕ) × Fits area_size v area
