-- The message area as a list of words, 0 where none was written: its cells, and what closes it. The
-- project's own.
use Rattle.std.specs.Prelude.{◌≡◌, ◌≢◌, ◌⊎◌, ℕ, ◌+◌, ◌<◌, ◌≤◌, List, [], slice_index}
use Rattle.hy_terms.specs.Labelled.{Labelled}
use Rattle.hy_words.specs.declared.kind.Entry.TheVariants.{Send, Spawn, Print}
use Rattle.hy_words.specs.Words.{tag_of, payload_of, area_tag, tag_of_entry, area_word_of, IsHeader, IsTermHeader, IsEntryHeader, IsValue, IsPidWord, IsCountWord, following}
use Rattle.hy_words.specs.Stands.{Stands}

-- the shape of an entry, by its header and the two words behind it: the actor, and the target, the
-- function or the text
abbrev pub HasShape : (header first second : ℕ) → Type 0
HasShape header first second =
    (tag_of header ≡ tag_of_entry Send → (payload_of header ≡ 3) × IsPidWord first
    × IsPidWord second)
    × (tag_of header ≡ tag_of_entry Spawn → (2 ≤ payload_of header) × IsPidWord first
    × IsCountWord second)
    × (tag_of header ≡ tag_of_entry Print → (payload_of header ≡ 2) × IsPidWord first
    × IsCountWord second)

-- a header, and behind it its full number of values, of the shape that an entry has
pub record IsWhole (area : List ℕ) (cell : ℕ) : Type 0 where
  pub header : IsHeader (slice_index area cell)
  pub values : (k : ℕ) → k < following (slice_index area cell)
      → IsValue (slice_index area (cell + 1 + k))
  pub shape : HasShape (slice_index area cell) (slice_index area (cell + 1))
      (slice_index area (cell + 2))

-- a whole tuple or cons
abbrev pub IsTermCell : List ℕ → ℕ → Type 0
IsTermCell area cell = IsWhole area cell × IsTermHeader (slice_index area cell)

-- a whole entry
abbrev pub IsEntryCell : List ℕ → ℕ → Type 0
IsEntryCell area cell = IsWhole area cell × IsEntryHeader (slice_index area cell)

-- the word stands for a term by the area alone
abbrev pub StandsInArea : List ℕ → ℕ → Type 0
StandsInArea area w = (t : Labelled) × Stands [] area t w

-- no word points out of the area, and each points to what is whole and stands for a term
pub record IsClosed (area : List ℕ) : Type 0 where
  pub words : (place : ℕ) → slice_index area place ≢ 0
      → IsHeader (slice_index area place) ⊎ IsValue (slice_index area place)
  pub parts : (place : ℕ) → tag_of (slice_index area place) ≡ area_tag
      → IsTermCell area (payload_of (slice_index area place))
  pub cells : (cell : ℕ) → IsTermCell area cell → StandsInArea area (area_word_of cell)
  pub messages : (cell : ℕ) → IsEntryCell area cell
      → tag_of (slice_index area cell) ≡ tag_of_entry Send
      → StandsInArea area (slice_index area (cell + 3))
  pub arguments : (cell k : ℕ) → IsEntryCell area cell
      → tag_of (slice_index area cell) ≡ tag_of_entry Spawn
      → 2 + k < following (slice_index area cell)
      → StandsInArea area (slice_index area (cell + 3 + k))
