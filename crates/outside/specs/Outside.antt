-- What sources give, what a sink holds, and how faults are counted. This project's own.
use Rattle.std.specs.Prelude.{◌≡◌, ◌⊎◌, ℕ, ◌+◌, ◌-◌, ◌^◌, ◌<◌, List, ◌++◌, take, min, count_by, Option, Some, IfSome, String}
use Rattle.std.specs.Str.{bytes_eq}
use Rattle.std.specs.String.{string_bytes}
use Rattle.std.specs.Global.{Global}

-- a source reads one byte more than a text may have, so that a text which is too long shows
abbrev pub read_limit : ℕ
read_limit = 2 ^ 20 + 1

abbrev pub first_bytes : List ℕ → List ℕ
first_bytes text = take read_limit text

-- a count of 64 bits that has come to its last value stays there
abbrev pub last_count : ℕ
last_count = 2 ^ 64 - 1

-- the number of the call behind so many
abbrev pub next_call : ℕ → ℕ
next_call calls = min (calls + 1) last_count

-- the count rose, or stands at its last value
abbrev pub Rises : ℕ → ℕ → Type 0
Rises before now = (before < now) ⊎ (now ≡ last_count)

-- where the bytes before are told, those now are they with these at the end
abbrev pub Appends : Option (List ℕ) → Option (List ℕ) → List ℕ → Type 0
Appends before now bytes = IfSome before (λ old. now ≡ Some (old ++ bytes))

-- the first of these bytes, all or fewer, stand at the end
abbrev pub AppendsPrefix : Option (List ℕ) → Option (List ℕ) → List ℕ → Type 0
AppendsPrefix before now bytes = IfSome before (λ old. (part rest : List ℕ) × (part ++ rest ≡ bytes)
    × (now ≡ Some (old ++ part)))

-- how often a name is among these
abbrev pub times : List ℕ → List (String Global) → ℕ
times name names = count_by (λ one. bytes_eq (string_bytes one) name) names
