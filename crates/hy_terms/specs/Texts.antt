-- The texts of numbers, atoms and pids; this project's own.
use Rattle.std.specs.Prelude.{ℕ, ◌+◌, ◌/◌, ◌%◌, ℤ, Bool, ◌==◌, nat_le, ◌&&◌, ◌||◌, if◌then◌else◌, List, [], ◌∷◌, ◌++◌, codes}
use Rattle.std.specs.Fmt.{decimal, signed_decimal}
use Rattle.std.specs.List.{flat_map}

-- a number in decimal, with a minus sign where it is negative
abbrev pub int_text : ℤ → List ℕ
int_text n = signed_decimal n

-- three octal digits of a byte
abbrev pub octal_digits : ℕ → List ℕ
octal_digits byte = (48 + byte / 64) ∷ (48 + byte / 8 % 8) ∷ (48 + byte % 8) ∷ []

-- a byte that stands for itself
abbrev pub is_plain : ℕ → Bool
is_plain byte = nat_le 32 byte && nat_le byte 126

-- a byte between quotes: the quote in use and `\` behind a `\`, the others from 32 to 126 as they
-- are, the rest as `\` and three octal digits
abbrev pub escaped : ℕ → ℕ → List ℕ
escaped quote byte =
    if byte == quote || byte == 92 then 92 ∷ byte ∷ []
    else (if is_plain byte then byte ∷ [] else 92 ∷ octal_digits byte)

-- a text between two quotes
abbrev pub quoted : ℕ → List ℕ → List ℕ
quoted quote text = quote ∷ (flat_map (escaped quote) text ++ quote ∷ [])

-- an atom, in single quotes
abbrev pub atom_text : List ℕ → List ℕ
atom_text text = quoted 39 text

abbrev pub pid_text : ℕ → List ℕ
pid_text pid = codes "<0." ++ decimal pid ++ codes ".0>"
