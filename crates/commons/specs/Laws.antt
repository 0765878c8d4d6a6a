-- Laws of what a pass knows and of what entries tell. The project's own.
use Rattle.std.specs.Prelude.{◌≡◌, ℕ, ◌<◌, List, length, max, slice_index}
use Rattle.hy_words.specs.Lists.{Grown}
use Rattle.hy_words.specs.Words.{payload_of}
use Rattle.commons.specs.declared.view.View.{View}
use Rattle.commons.specs.Log.{LogEvent, Tells}
use Rattle.commons.specs.Steps.{longer}
use Rattle.commons.specs.Views.{Fits, KnowsMore, StandsFor}

-- what a word stands for stays where the pass knows more and its heap grows
abbrev pub KnowingMoreKeepsTerms : Type 0
KnowingMoreKeepsTerms =
    (capacity : ℕ) (heap more : List ℕ) (v w : View) (word : ℕ) → KnowsMore v w → Grown heap more
    → StandsFor capacity heap v word → StandsFor capacity more w word

-- in each area that fits, each known place tells an event
abbrev pub KnownPlacesTell : Type 0
KnownPlacesTell =
    (capacity : ℕ) (v : View) (area : List ℕ) (place : ℕ) → Fits capacity v area
    → place < length v.known
    → (e : LogEvent) × Tells area (payload_of (slice_index v.known place)) e

-- one entry tells one event
abbrev pub OneEntryOneEvent : Type 0
OneEntryOneEvent =
    (area : List ℕ) (cell : ℕ) (e f : LogEvent) → Tells area cell e → Tells area cell f → e ≡ f

-- the longer of two lists is as long as the longer one
abbrev pub LongerIsLongest : Type 0
LongerIsLongest = (xs ys : List ℕ) → length (longer xs ys) ≡ max (length xs) (length ys)
