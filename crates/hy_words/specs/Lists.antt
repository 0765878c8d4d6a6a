-- Words over lists that the layouts and the rule of the commons are written in. The project's own.
use Rattle.std.specs.Prelude.{◌≡◌, ◌≢◌, ℕ, ◌+◌, ◌<◌, List, [], ◌∷◌, ◌++◌, length, slice_index}

-- each word that was written stays; 0 is a word that was not written
abbrev pub Grown : List ℕ → List ℕ → Type 0
Grown before after =
    (place : ℕ) → slice_index before place ≢ 0 → slice_index after place ≡ slice_index before place

-- the whole list begins with the first
abbrev pub StartsWith : List ℕ → List ℕ → Type 0
StartsWith whole first = (rest : List ℕ) × (whole ≡ first ++ rest)

-- x stands in the list
abbrev pub Has : List ℕ → ℕ → Type 0
Has xs x = (k : ℕ) × (k < length xs) × (slice_index xs k ≡ x)

-- f of each, added up
abbrev pub total : {A : Type 0} → (A → ℕ) → List A → ℕ
total f [] = 0
total f (x ∷ xs) = f x + total f xs
