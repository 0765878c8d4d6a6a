-- The number of a text is its place among the texts in the order in which they are met.
use Rattle.std.specs.Prelude.{◌≡◌, ℕ, suc, ◌≤◌, ◌^◌, List, [], ◌∷◌, ◌++◌, length, slice_get, Option, Some, None, unwrap_or, if◌then◌else◌}
use Rattle.std.specs.Str.{bytes_eq}

abbrev pub one_on : Option ℕ → Option ℕ
one_on None = None
one_on (Some k) = Some (suc k)

-- the place of a text in a table
abbrev pub place_in : List (List ℕ) → List ℕ → Option ℕ
place_in [] text = None
place_in (x ∷ xs) text = if bytes_eq x text then Some 0 else one_on (place_in xs text)

abbrev pub numbered : List (List ℕ) → List ℕ → Option ℕ → ℕ × List (List ℕ)
numbered texts text (Some k) = (k, texts)
numbered texts text None = (length texts, texts ++ text ∷ [])

-- the number of a text, and the table after it
unfoldable pub named : List (List ℕ) → List ℕ → ℕ × List (List ℕ)
named texts text = numbered texts text (place_in texts text)

-- the text of a number; one that is not below the length has the empty text
abbrev pub text_of : List (List ℕ) → ℕ → List ℕ
text_of texts number = unwrap_or (slice_get texts number) []

-- each text stands once: its place is that at which it stands
abbrev pub StandOnce : List (List ℕ) → Type 0
StandOnce texts =
    (k : ℕ) (text : List ℕ) → slice_get texts k ≡ Some text → place_in texts text ≡ Some k

-- a table of at most 2^20 texts, each once
pub record IsTable (texts : List (List ℕ)) : Type 0 where
  pub few : length texts ≤ 2 ^ 20
  pub once : StandOnce texts
