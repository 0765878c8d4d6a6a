-- Which tokens stand in a text: those of the Core Erlang 1.0.3 report, floats aside. Which bytes a
-- quoted token may hold, and the values of escapes up to 255, are this project's own choice.
use Rattle.std.specs.Prelude.{◌≡◌, ℕ, ◌+◌, ◌-◌, ◌*◌, ◌≤◌, Bool, true, false, ◌==◌, if◌then◌else◌, List, [], ◌∷◌, ◌++◌, length, codes, Option, Some, None}
use Rattle.std.specs.List.{AllByRecursion}
use Rattle.std.specs.Str.{bytes_eq}
use Rattle.hy_core.specs.Bytes.{class_of, is_printable, is_octal, is_digit, is_lower, is_variable_part, Pass, Stops}
use Rattle.hy_core.specs.declared.token.Symbol.{Symbol}
use Rattle.hy_core.specs.declared.token.Symbol.TheVariants as w
use Rattle.hy_core.specs.declared.token.ByteClass.{ByteClass}
use Rattle.hy_core.specs.declared.token.ByteClass.TheVariants as c
use Rattle.hy_core.specs.declared.token.Sign.{Sign}
use Rattle.hy_core.specs.declared.token.Sign.TheVariants as g
use Rattle.hy_core.specs.declared.token.Token.{Token}
use Rattle.hy_core.specs.declared.token.Token.TheVariants as t
use Rattle.hy_core.specs.declared.token.Lexeme.{Lexeme}
use Rattle.hy_core.specs.declared.token.Ending.{Ending}
use Rattle.hy_core.specs.declared.token.Ending.TheVariants as e

-- the keyword that is these letters
unfoldable pub keyword : List ℕ → Option Symbol
keyword letters =
    if bytes_eq letters (codes "after") then Some w.After
    else if bytes_eq letters (codes "apply") then Some w.Apply
    else if bytes_eq letters (codes "attributes") then Some w.Attributes
    else if bytes_eq letters (codes "call") then Some w.Call
    else if bytes_eq letters (codes "case") then Some w.Case
    else if bytes_eq letters (codes "catch") then Some w.Catch
    else if bytes_eq letters (codes "do") then Some w.Do
    else if bytes_eq letters (codes "end") then Some w.End
    else if bytes_eq letters (codes "fun") then Some w.Fun
    else if bytes_eq letters (codes "in") then Some w.In
    else if bytes_eq letters (codes "let") then Some w.Let
    else if bytes_eq letters (codes "letrec") then Some w.Letrec
    else if bytes_eq letters (codes "module") then Some w.Module
    else if bytes_eq letters (codes "of") then Some w.Of
    else if bytes_eq letters (codes "primop") then Some w.Primop
    else if bytes_eq letters (codes "receive") then Some w.Receive
    else if bytes_eq letters (codes "try") then Some w.Try
    else if bytes_eq letters (codes "when") then Some w.When
    else None

-- the sign that a byte is
abbrev pub sign_of : ByteClass → Option Sign
sign_of c.Plus = Some g.Plus
sign_of c.Minus = Some g.Minus
sign_of _ = None

-- the mark of - and the byte behind it
abbrev pub mark_behind_minus : ByteClass → Option Symbol
mark_behind_minus (c.Mark w.Greater) = Some w.Arrow
mark_behind_minus (c.Mark w.Bar) = Some w.NoteBar
mark_behind_minus _ = None

-- what \ and this one byte stand for: b d e f n r s t v " ' \
unfoldable pub escaped : ℕ → Option ℕ
escaped b =
    if b == 98 then Some 8
    else if b == 100 then Some 127
    else if b == 101 then Some 27
    else if b == 102 then Some 12
    else if b == 110 then Some 10
    else if b == 114 then Some 13
    else if b == 115 then Some 32
    else if b == 116 then Some 9
    else if b == 118 then Some 11
    else if b == 34 then Some 34
    else if b == 39 then Some 39
    else if b == 92 then Some 92
    else None

-- the first byte behind is no octal digit, or there is none
abbrev pub EndsOctal : List ℕ → Type 0
EndsOctal [] = Unit {0}
EndsOctal (b ∷ bs) = is_octal b ≡ false

-- These bytes behind a \, before those, stand for this byte. As many octal digits belong to it as
-- stand there, up to three.
pub data IsEscape : List ℕ → List ℕ → ℕ → Type 0 where
  letter : {b k : ℕ} {rest : List ℕ} → escaped b ≡ Some k → IsEscape (b ∷ []) rest k
  control : {b : ℕ} {rest : List ℕ} → 64 ≤ b → b ≤ 95 → IsEscape (94 ∷ b ∷ []) rest (b - 64)
  one_digit : {b : ℕ} {rest : List ℕ} → is_octal b ≡ true → EndsOctal rest
      → IsEscape (b ∷ []) rest (b - 48)
  two_digits : {b d : ℕ} {rest : List ℕ} → is_octal b ≡ true → is_octal d ≡ true → EndsOctal rest
      → IsEscape (b ∷ d ∷ []) rest (8 * (b - 48) + (d - 48))
  three_digits : {b d h : ℕ} {rest : List ℕ} → is_octal b ≡ true → is_octal d ≡ true
      → is_octal h ≡ true → 8 * (8 * (b - 48) + (d - 48)) + (h - 48) ≤ 255
      → IsEscape (b ∷ d ∷ h ∷ []) rest (8 * (8 * (b - 48) + (d - 48)) + (h - 48))

-- the inside of an atom or a string, by the class of its quote, with the quote that ends it, and
-- the text that it stands for
pub data IsBody : ByteClass → List ℕ → List ℕ → Type 0 where
  close : {quote : ByteClass} {q : ℕ} → class_of q ≡ quote → IsBody quote (q ∷ []) []
  plain : {quote : ByteClass} {b : ℕ} {bs x : List ℕ} → is_printable b ≡ true
      → (class_of b ≡ quote → ⊥) → (class_of b ≡ c.Backslash → ⊥) → IsBody quote bs x
      → IsBody quote (b ∷ bs) (b ∷ x)
  escape : {quote : ByteClass} {b k : ℕ} {es bs x : List ℕ} → class_of b ≡ c.Backslash
      → IsEscape es bs k → IsBody quote bs x → IsBody quote (b ∷ (es ++ bs)) (k ∷ x)

-- These bytes, before those, are a token. Where a run of bytes could go on, the token goes on: so
-- the longest is taken.
pub data IsToken : List ℕ → List ℕ → Token → Type 0 where
  integer : {d : ℕ} {ds rest : List ℕ} → class_of d ≡ c.Digit → Pass is_digit ds
      → Stops is_digit rest → IsToken (d ∷ ds) rest (t.Integer g.Absent (d ∷ ds))
  signed : {b d : ℕ} {ds rest : List ℕ} {sign : Sign} → sign_of (class_of b) ≡ Some sign
      → class_of d ≡ c.Digit → Pass is_digit ds → Stops is_digit rest
      → IsToken (b ∷ d ∷ ds) rest (t.Integer sign (d ∷ ds))
  character : {q b : ℕ} {rest : List ℕ} → class_of q ≡ c.Dollar → is_printable b ≡ true
      → (class_of b ≡ c.Backslash → ⊥) → IsToken (q ∷ b ∷ []) rest (t.Character b)
  escape : {q b k : ℕ} {es rest : List ℕ} → class_of q ≡ c.Dollar → class_of b ≡ c.Backslash
      → IsEscape es rest k → IsToken (q ∷ b ∷ es) rest (t.Character k)
  atom : {q : ℕ} {bs x rest : List ℕ} → class_of q ≡ c.Quote → IsBody c.Quote bs x
      → IsToken (q ∷ bs) rest (t.Atom x)
  string : {q : ℕ} {bs x rest : List ℕ} → class_of q ≡ c.DoubleQuote → IsBody c.DoubleQuote bs x
      → IsToken (q ∷ bs) rest (t.Str x)
  variable : {u : ℕ} {us rest : List ℕ} → class_of u ≡ c.Capital → Pass is_variable_part us
      → Stops is_variable_part rest → IsToken (u ∷ us) rest (t.Variable (u ∷ us))
  a_keyword : {l : ℕ} {ls rest : List ℕ} {k : Symbol} → class_of l ≡ c.Lower → Pass is_lower ls
      → Stops is_lower rest → keyword (l ∷ ls) ≡ Some k → IsToken (l ∷ ls) rest (t.Symbol k)
  mark : {b : ℕ} {rest : List ℕ} {k : Symbol} → class_of b ≡ c.Mark k
      → IsToken (b ∷ []) rest (t.Symbol k)
  mark_of_two : {b m : ℕ} {rest : List ℕ} {k : Symbol} → class_of b ≡ c.Minus
      → mark_behind_minus (class_of m) ≡ Some k → IsToken (b ∷ m ∷ []) rest (t.Symbol k)

-- an atom, a string or a character
abbrev pub is_quoted : Token → Bool
is_quoted (t.Atom text) = true
is_quoted (t.Str text) = true
is_quoted (t.Character code) = true
is_quoted _ = false

-- some more bytes make the bytes an atom, a string or a character
abbrev pub IsOpen : List ℕ → Type 0
IsOpen bs =
    (b : ℕ) × (more : List ℕ) × (k : Token) × (is_quoted k ≡ true) × IsToken (bs ++ b ∷ more) [] k

-- no token stands in front
abbrev pub HasNoToken : List ℕ → Type 0
HasNoToken bs = (front rest : List ℕ) (k : Token) → bs ≡ front ++ rest → IsToken front rest k → ⊥

-- the inside of a comment: no line feed
abbrev pub IsRemark : List ℕ → Type 0
IsRemark bs = AllByRecursion (λ b. b ≡ 10 → ⊥) bs

-- nothing, or a line feed and what is behind it
abbrev pub EndsLine : List ℕ → Type 0
EndsLine [] = Unit {0}
EndsLine (b ∷ bs) = b ≡ 10

-- the tokens of the bytes, each with the number of bytes from it on, and what comes behind the last
pub data Lexes : List ℕ → List Lexeme → Ending → Type 0 where
  done : Lexes [] [] e.Clean
  space : {b : ℕ} {bs : List ℕ} {ls : List Lexeme} {end : Ending} → class_of b ≡ c.Space
      → Lexes bs ls end → Lexes (b ∷ bs) ls end
  comment : {b : ℕ} {rest : List ℕ} {ls : List Lexeme} {end : Ending} → (inside : List ℕ)
      → class_of b ≡ c.Percent → IsRemark inside → EndsLine rest → Lexes rest ls end
      → Lexes (b ∷ (inside ++ rest)) ls end
  token : {front rest : List ℕ} {k : Token} {ls : List Lexeme} {end : Ending} → IsToken front rest k
      → Lexes rest ls end
      → Lexes (front ++ rest) (record { left = length (front ++ rest); token = k } ∷ ls) end
  open_token : {b : ℕ} {bs : List ℕ} → HasNoToken (b ∷ bs) → IsOpen (b ∷ bs)
      → Lexes (b ∷ bs) [] e.Open
  no_token : {b : ℕ} {bs : List ℕ} → HasNoToken (b ∷ bs) → (IsOpen (b ∷ bs) → ⊥)
      → (class_of b ≡ c.Space → ⊥) → (class_of b ≡ c.Percent → ⊥)
      → Lexes (b ∷ bs) [] (e.Bad (length (b ∷ bs)))

-- each of these tokens begins inside a text of so many bytes
abbrev pub AreWithin : ℕ → List Lexeme → Type 0
AreWithin size ls = AllByRecursion (λ l. l.left ≤ size) ls

-- bytes that form no token begin inside it
abbrev pub EndsWithin : ℕ → Ending → Type 0
EndsWithin size (e.Bad left) = left ≤ size
EndsWithin size _ = Unit {0}
