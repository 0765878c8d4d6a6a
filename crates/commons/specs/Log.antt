-- The log as the list of its written words, each the area word of an entry: what the entries tell.
-- The project's own.
use Rattle.std.specs.Prelude.{◌≡◌, ℕ, suc, ◌+◌, ◌<◌, ◌≤◌, ◌^◌, List, [], ◌∷◌, length, take, slice_index, if◌then◌else◌, ◌==◌, ◌&&◌, Bool}
use Rattle.hy_terms.specs.declared.term.Colour.TheVariants.{Shared}
use Rattle.hy_terms.specs.Labelled.{Labelled}
use Rattle.hy_words.specs.declared.kind.Entry.TheVariants.{Send, Spawn, Print}
use Rattle.hy_words.specs.Lists.{total}
use Rattle.hy_words.specs.Words.{word_of, tag_of, payload_of, number_tag, area_tag, tag_of_entry, pid_word_of, entry_header_of}
use Rattle.hy_words.specs.Stands.{Stands, PartsStand}
use Rattle.commons.specs.Area.{IsEntryCell}

-- the header of the entry that a log word names
abbrev pub header_at : List ℕ → ℕ → ℕ
header_at area w = slice_index area (payload_of w)

-- the pid of the entry's actor
abbrev pub actor_of : List ℕ → ℕ → ℕ
actor_of area w = payload_of (slice_index area (payload_of w + 1))

-- the number of the text of a print entry
abbrev pub text_of : List ℕ → ℕ → ℕ
text_of area w = payload_of (slice_index area (payload_of w + 2))

-- the places of an actor's entries, in a log whose first place is n
abbrev pub own_places : List ℕ → ℕ → ℕ → List ℕ → List ℕ
own_places area pid n [] = []
own_places area pid n (w ∷ ws) =
    if actor_of area w == pid then n ∷ own_places area pid (suc n) ws
    else own_places area pid (suc n) ws

abbrev pub is_print_of : List ℕ → ℕ → ℕ → Bool
is_print_of area pid w =
    (actor_of area w == pid) && (tag_of (header_at area w) == tag_of_entry Print)

-- how many of the entries are print entries of this actor
abbrev pub prints : List ℕ → ℕ → List ℕ → ℕ
prints area pid log = total (λ w. if is_print_of area pid w then 1 else 0) log

-- how many of the entries at these places of the log are print entries
abbrev pub prints_at : List ℕ → List ℕ → List ℕ → ℕ
prints_at area log places =
    total
    (λ place. if tag_of (header_at area (slice_index log place)) == tag_of_entry Print then 1
    else 0)
    places

-- the event of an actor that an entry tells: a message and arguments are labelled terms, a text is
-- known by its number
pub data LogEvent : Type 0 where
  LoggedSend : (actor target : ℕ) → Labelled → LogEvent
  LoggedSpawn : (actor function : ℕ) → List Labelled → LogEvent
  LoggedPrint : (actor text : ℕ) → LogEvent

-- these words stand in a row, the first at this place
abbrev pub HasWords : List ℕ → (place : ℕ) → List ℕ → Type 0
HasWords area place words =
    (k : ℕ) → k < length words → slice_index area (place + k) ≡ slice_index words k

-- the first words of a send entry, behind which its message stands, and of a spawn entry, behind
-- which its n arguments stand
abbrev pub HasSendWords : List ℕ → (place actor target : ℕ) → Type 0
HasSendWords area place actor target =
    (slice_index area place ≡ entry_header_of Send 3)
    × (slice_index area (place + 1) ≡ pid_word_of actor)
    × (slice_index area (place + 2) ≡ pid_word_of target)

abbrev pub HasSpawnWords : List ℕ → (place actor function n : ℕ) → Type 0
HasSpawnWords area place actor function n =
    (slice_index area place ≡ entry_header_of Spawn (2 + n))
    × (slice_index area (place + 1) ≡ pid_word_of actor)
    × (slice_index area (place + 2) ≡ word_of number_tag function)

-- the words of a print entry
abbrev pub HasPrintWords : List ℕ → (place actor text : ℕ) → Type 0
HasPrintWords area place actor text =
    (slice_index area place ≡ entry_header_of Print 2)
    × (slice_index area (place + 1) ≡ pid_word_of actor)
    × (slice_index area (place + 2) ≡ word_of number_tag text)

-- the entry at this place of the area tells the event
abbrev pub Tells : List ℕ → ℕ → LogEvent → Type 0
Tells area cell (LoggedSend actor target message) =
    HasSendWords area cell actor target × Stands [] area message (slice_index area (cell + 3))
Tells area cell (LoggedSpawn actor function arguments) =
    HasSpawnWords area cell actor function (length arguments)
    × (function < 2 ^ 59)
    × PartsStand [] area Shared (cell + 3) arguments
Tells area cell (LoggedPrint actor text) =
    HasPrintWords area cell actor text × (text < 2 ^ 59)

-- the log fits, each of its words names a whole entry that tells an event, and the i-th print of an
-- actor, from 0, names its text i
pub record IsLog (log_size : ℕ) (log area : List ℕ) : Type 0 where
  pub short : length log ≤ log_size
  pub entries : (k : ℕ) → k < length log
      → (tag_of (slice_index log k) ≡ area_tag) × IsEntryCell area (payload_of (slice_index log k))
  pub events : (k : ℕ) → k < length log
      → (e : LogEvent) × Tells area (payload_of (slice_index log k)) e
  pub numbered : (k : ℕ) → k < length log
      → tag_of (header_at area (slice_index log k)) ≡ tag_of_entry Print
      → text_of area (slice_index log k)
      ≡ prints area (actor_of area (slice_index log k)) (take k log)
