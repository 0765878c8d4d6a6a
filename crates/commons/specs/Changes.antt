-- What each call changes of what a pass knows, and what it leaves of other passes. The project's
-- own.
use Rattle.std.specs.Prelude.{◌≡◌, ◌≢◌, ◌⊎◌, ℕ, ◌+◌, List, ◌++◌, length, slice_index, Option, Some, None, if◌then◌else◌, ◌==◌}
use Rattle.hy_words.specs.Lists.{Grown, StartsWith}
use Rattle.hy_words.specs.declared.kind.Entry.TheVariants.{Spawn}
use Rattle.hy_words.specs.Words.{tag_of, tag_of_entry}
use Rattle.commons.specs.declared.view.View.{View}
use Rattle.commons.specs.Log.{header_at, HasWords}
use Rattle.commons.specs.Steps.{claimed, refused_claim, put_on, knowing, looked, appended, bore, born_of, gave_up}

-- nothing changed but that more words may be read or written
abbrev pub IsSameButSeen : View → View → Type 0
IsSameButSeen v w = (w ≡ record v { seen = w.seen }) × Grown v.seen w.seen

-- the pass then owns n words from old on
abbrev pub Claims : View → (old n : ℕ) → View → Type 0
Claims v old n w = IsSameButSeen (claimed v old n) w

-- the claim of n words, which found old in the claim word, is refused; the block stays
abbrev pub Refuses : View → (old n : ℕ) → View → Type 0
Refuses v old n w = IsSameButSeen (refused_claim v old n) w

-- n words were put
abbrev pub PutsWords : View → (n : ℕ) → View → Type 0
PutsWords v n w = IsSameButSeen (put_on v n) w

-- the next word of the block is this one
abbrev pub Puts : View → ℕ → View → Type 0
Puts v word w = PutsWords v 1 w × (slice_index w.seen v.block_start ≡ word)

-- the next words of the block are these
abbrev pub PutsRow : View → List ℕ → View → Type 0
PutsRow v words w = PutsWords v (length words) w × HasWords w.seen v.block_start words

-- the word at this place was read, and was written before
abbrev pub Reads : View → (place word : ℕ) → View → Type 0
Reads v place word w = IsSameButSeen v w × (slice_index w.seen place ≡ word) × (word ≢ 0)

-- the known words go on, and nothing else changes
abbrev pub Learns : View → List ℕ → View → Type 0
Learns v known w = IsSameButSeen (knowing v known) w × StartsWith known v.known

-- a spawn entry at this place names the child one above it
abbrev pub child_at : (header place : ℕ) → Option ℕ
child_at header place = if tag_of header == tag_of_entry Spawn then Some (place + 1) else None

-- the entry stands at this place, and all words before it are known
abbrev pub Appends : View → (entry place : ℕ) → View → Type 0
Appends v entry place w =
    (between : List ℕ)
    × IsSameButSeen
    (appended (knowing v (v.known ++ between)) place entry
    (child_at (header_at v.seen entry) place)) w
    × (length w.known ≡ place + 1)

-- one more empty look, unless the count stands at the last value of 64 bits and stays there
abbrev pub LooksInVain : View → View → Type 0
LooksInVain v w =
    IsSameButSeen (looked v w.looks) w
    × ((w.looks ≡ v.looks + 1) ⊎ ((w.looks ≡ v.looks) × (v.looks ≡ 18446744073709551615)))

-- a child that was just born: it knows what its parent knows, and did nothing yet
abbrev pub IsChildOf : View → (pid : ℕ) → View → Type 0
IsChildOf v pid w = IsSameButSeen (born_of v pid) w

-- the parent names no unborn child, and has one child more
abbrev pub Bears : View → (pid : ℕ) → View → Type 0
Bears v pid w = IsSameButSeen (bore v pid) w

-- the parent names no unborn child
abbrev pub GivesUp : View → View → Type 0
GivesUp v w = IsSameButSeen (gave_up v) w

-- the call changed p into q: q is a pass of the commons after it, and each pass that was apart from
-- p still is one,
-- apart from q, and as it was
abbrev pub KeepsOthers : {C P : Type 0} → (C → P → Type 0) → (P → P → Type 0) → (C → P → View) → C
    → P → C → P → Type 0
KeepsOthers {C} {P} is_pass apart view c p d q =
    is_pass d q
    × ((r : P) → is_pass c r → apart p r → is_pass d r × apart q r
    × IsSameButSeen (view c r) (view d r))

-- what was apart from p is apart from q
abbrev pub StaysApart : {P : Type 0} → (P → P → Type 0) → P → P → Type 0
StaysApart {P} apart p q = (r : P) → apart p r → apart q r

-- a child is apart from its parent, and from each pass that was apart from its parent
abbrev pub IsApartFrom : {C P : Type 0} → (C → P → Type 0) → (P → P → Type 0) → C → P → P → P
    → Type 0
IsApartFrom {C} {P} is_pass apart c parent_old parent child =
    apart parent child × ((r : P) → is_pass c r → apart parent_old r → apart child r)
