-- Words that are read out of a closed table. The project's own.
use Rattle.std.specs.Prelude.{◌≡◌, ◌≢◌, ℕ, ◌+◌, ◌<◌, ◌≤◌, List, length, slice_index}

-- the list has n words, which stand in a row in the other, the first at this place
pub record IsRowOf (words : List ℕ) (start n : ℕ) (row : List ℕ) : Type 0 where
  pub count : length row ≡ n
  pub same : (k : ℕ) → k < n → slice_index row k ≡ slice_index words (start + k)

-- n words behind the first are written, and then comes one that isn't, or there are no more places
pub record HasWritten (words : List ℕ) (places n : ℕ) : Type 0 where
  pub within : n ≤ places
  pub written : (k : ℕ) → k < n → slice_index words (1 + k) ≢ 0
  pub ends : n < places → slice_index words (1 + n) ≡ 0
