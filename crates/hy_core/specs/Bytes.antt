-- What a byte is, where a token may begin: a part of the Core Erlang 1.0.3 report's lexical rules.
use Rattle.std.specs.Prelude.{◌≡◌, ℕ, Bool, true, false, ◌==◌, ◌||◌, ◌&&◌, nat_le, if◌then◌else◌, List, [], ◌∷◌, Option, Some, None}
use Rattle.hy_core.specs.declared.token.Symbol.{Symbol}
use Rattle.hy_core.specs.declared.token.Symbol.TheVariants as w
use Rattle.hy_core.specs.declared.token.ByteClass.{ByteClass}
use Rattle.hy_core.specs.declared.token.ByteClass.TheVariants as c

-- the mark that is this one byte: ( ) { } [ ] < > , : / = |
unfoldable pub mark_of : ℕ → Option Symbol
mark_of b =
    if b == 40 then Some w.Open
    else if b == 41 then Some w.Close
    else if b == 91 then Some w.OpenList
    else if b == 93 then Some w.CloseList
    else if b == 60 then Some w.Less
    else if b == 62 then Some w.Greater
    else if b == 44 then Some w.Comma
    else if b == 58 then Some w.Colon
    else if b == 47 then Some w.Slash
    else if b == 61 then Some w.Equals
    else if b == 123 then Some w.OpenTuple
    else if b == 125 then Some w.CloseTuple
    else if b == 124 then Some w.Bar
    else None

-- what a byte is that is no mark
unfoldable pub plain_class : ℕ → ByteClass
plain_class b =
    if b == 32 || (nat_le 9 b && nat_le b 13) then c.Space
    else if nat_le 48 b && nat_le b 57 then c.Digit
    else if nat_le 97 b && nat_le b 122 then c.Lower
    else if b == 95 || (nat_le 65 b && nat_le b 90) then c.Capital
    else if b == 39 then c.Quote
    else if b == 34 then c.DoubleQuote
    else if b == 36 then c.Dollar
    else if b == 37 then c.Percent
    else if b == 92 then c.Backslash
    else if b == 64 then c.At
    else if b == 43 then c.Plus
    else if b == 45 then c.Minus
    else c.Other

abbrev pub class_by : Option Symbol → ℕ → ByteClass
class_by (Some symbol) b = c.Mark symbol
class_by None b = plain_class b

-- what a byte is
unfoldable pub class_of : ℕ → ByteClass
class_of b = class_by (mark_of b) b

-- a byte that a quoted token may hold as it is, its own quote and \ aside
unfoldable pub is_printable : ℕ → Bool
is_printable b = nat_le 32 b && nat_le b 126

abbrev pub is_digit : ByteClass → Bool
is_digit c.Digit = true
is_digit _ = false

abbrev pub is_lower : ByteClass → Bool
is_lower c.Lower = true
is_lower _ = false

-- 0 to 7
unfoldable pub is_octal : ℕ → Bool
is_octal b = nat_le 48 b && nat_le b 55

-- a letter, a digit or _
abbrev pub is_word_part : ByteClass → Bool
is_word_part c.Digit = true
is_word_part c.Lower = true
is_word_part c.Capital = true
is_word_part _ = false

-- what may follow the first byte of a variable
abbrev pub is_variable_part : ByteClass → Bool
is_variable_part c.At = true
is_variable_part k = is_word_part k

-- each byte passes
abbrev pub Pass : (ByteClass → Bool) → List ℕ → Type 0
Pass p [] = Unit {0}
Pass p (b ∷ bs) = (p (class_of b) ≡ true) × Pass p bs

-- there is no first byte, or it doesn't pass
abbrev pub Stops : (ByteClass → Bool) → List ℕ → Type 0
Stops p [] = Unit {0}
Stops p (b ∷ bs) = p (class_of b) ≡ false
