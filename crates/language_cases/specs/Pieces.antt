-- How texts and tables are written in answers. This project's own.
use Rattle.std.specs.Prelude.{ℕ, ◌-◌, Bool, ◌==◌, nat_le, if◌then◌else◌, List, [], ◌∷◌, ◌++◌, length, take, drop, codes}
use Rattle.std.specs.Fmt.{decimal}
use Rattle.std.specs.List.{flat_map}
use Rattle.hy_terms.specs.Texts.{atom_text}

-- the most bytes that are written whole, and how many of a longer text are written at each end
abbrev pub most : ℕ
most = 600

abbrev pub end : ℕ
end = 100

-- a text, or the two ends of a long one with its length between them
abbrev pub shortened : List ℕ → List ℕ
shortened text =
    if nat_le (length text) most
    then text
    else
    take end text
    ++ codes " .. "
    ++ decimal (length text)
    ++ codes " bytes .. "
    ++ drop (length text - end) text

-- what is put before a byte
abbrev pub begin_of : Bool → List ℕ
begin_of begins = if begins then 32 ∷ 32 ∷ [] else []

-- a text with each of its lines two places in, from the begin of a line or behind it
abbrev pub indented : Bool → List ℕ → List ℕ
indented begins [] = []
indented begins (b ∷ bs) = begin_of begins ++ b ∷ indented (b == 10) bs

-- a text of a table, as an atom
abbrev pub name : List ℕ → List ℕ
name text = 32 ∷ atom_text text

-- a line with the texts of a table
abbrev pub names_line : List ℕ → List (List ℕ) → List ℕ
names_line title table =
    title ++ shortened (flat_map name table) ++ 10 ∷ []

-- the most bytes that are written of what stands at a place
abbrev pub most_there : ℕ
most_there = 24
