-- Taking a text apart, one byte after the other.
use Rattle.std.specs.Prelude.{◌≡◌, ℕ, ◌+◌, ◌-◌, ◌*◌, Bool, true, false, ◌==◌, ◌&&◌, nat_le, if◌then◌else◌, List, [], ◌∷◌, ◌++◌, length, Option, Some, None}
use Rattle.hy_core.specs.Bytes.{class_of, is_printable, is_octal, is_digit, is_lower, is_variable_part}
use Rattle.hy_core.specs.Tokens.{keyword, mark_behind_minus, escaped}
use Rattle.hy_core.specs.declared.token.Symbol.{Symbol}
use Rattle.hy_core.specs.declared.token.ByteClass.{ByteClass}
use Rattle.hy_core.specs.declared.token.ByteClass.TheVariants as c
use Rattle.hy_core.specs.declared.token.Sign.{Sign}
use Rattle.hy_core.specs.declared.token.Sign.TheVariants as g
use Rattle.hy_core.specs.declared.token.Token.{Token}
use Rattle.hy_core.specs.declared.token.Token.TheVariants as t
use Rattle.hy_core.specs.declared.token.Lexeme.{Lexeme}
use Rattle.hy_core.specs.declared.token.Ending.{Ending}
use Rattle.hy_core.specs.declared.token.Ending.TheVariants as e
use Rattle.core_scan.specs.declared.state.Quote.{Quote}
use Rattle.core_scan.specs.declared.state.Quote.TheVariants as q
use Rattle.core_scan.specs.declared.state.Escape.{Escape}
use Rattle.core_scan.specs.declared.state.Escape.TheVariants as x
use Rattle.core_scan.specs.declared.state.Escaping.{Escaping}
use Rattle.core_scan.specs.declared.state.Escaping.TheVariants as y
use Rattle.core_scan.specs.declared.state.State.{State}
use Rattle.core_scan.specs.declared.state.State.TheVariants as s

-- a state, and the tokens that were completed
abbrev pub Step : Type 0
Step = State × List Lexeme

abbrev pub lexeme : ℕ → Token → Lexeme
lexeme n k = record { left = n; token = k }

-- a token is completed before this step
abbrev pub behind : ℕ → Token → Step → Step
behind m k next = (next.0, lexeme m k ∷ next.1)

-- the token between these quotes
abbrev pub quoted_token : Quote → List ℕ → Token
quoted_token q.Single text = t.Atom text
quoted_token q.Double text = t.Str text

-- ---- an escape

-- the value with an octal digit behind it, where it is still a byte
abbrev pub longer : ℕ → ℕ → Option ℕ
longer value b = if nat_le (8 * value + (b - 48)) 255 then Some (8 * value + (b - 48)) else None

abbrev pub by_letter : ℕ → Option ℕ → Escaping
by_letter b (Some k) = y.Closed k
by_letter b None = if is_octal b then y.Open (x.OneDigit (b - 48)) else y.Wrong

abbrev pub after_backslash : ℕ → Escaping
after_backslash b = if b == 94 then y.Open x.Control else by_letter b (escaped b)

abbrev pub after_caret : ℕ → Escaping
after_caret b = if nat_le 64 b && nat_le b 95 then y.Closed (b - 64) else y.Wrong

abbrev pub with_second : Option ℕ → Escaping
with_second None = y.Wrong
with_second (Some value) = y.Open (x.TwoDigits value)

abbrev pub with_third : Option ℕ → Escaping
with_third None = y.Wrong
with_third (Some value) = y.Closed value

abbrev pub after_digit : ℕ → ℕ → Escaping
after_digit value b = if is_octal b then with_second (longer value b) else y.Over value

abbrev pub after_digits : ℕ → ℕ → Escaping
after_digits value b = if is_octal b then with_third (longer value b) else y.Over value

-- what one more byte makes of an escape
abbrev pub escaping : Escape → ℕ → Escaping
escaping x.Begun b = after_backslash b
escaping x.Control b = after_caret b
escaping (x.OneDigit value) b = after_digit value b
escaping (x.TwoDigits value) b = after_digits value b

-- ---- one byte

-- a byte behind a token, with n bytes from it on
abbrev pub begun : ℕ → ℕ → ByteClass → Step
begun n b c.Space = (s.Gap, [])
begun n b c.Percent = (s.Comment, [])
begun n b c.Digit = (s.Integer n g.Absent (b ∷ []), [])
begun n b c.Plus = (s.Signed n g.Plus, [])
begun n b c.Minus = (s.Signed n g.Minus, [])
begun n b c.Lower = (s.Keyword n (b ∷ []), [])
begun n b c.Capital = (s.Variable n (b ∷ []), [])
begun n b c.Quote = (s.Quoted n q.Single [], [])
begun n b c.DoubleQuote = (s.Quoted n q.Double [], [])
begun n b c.Dollar = (s.Character n, [])
begun n b (c.Mark k) = (s.Gap, lexeme n (t.Symbol k) ∷ [])
begun n b _ = (s.Failed n, [])

-- a mark of two bytes has ended
abbrev pub marked : ℕ → Option Symbol → Step
marked m None = (s.Failed m, [])
marked m (Some k) = (s.Gap, lexeme m (t.Symbol k) ∷ [])

-- a byte behind a sign
abbrev pub after_sign : ℕ → Sign → ℕ → ByteClass → Step
after_sign m sign b c.Digit = (s.Integer m sign (b ∷ []), [])
after_sign m g.Minus b k = marked m (mark_behind_minus k)
after_sign m sign b _ = (s.Failed m, [])

-- a run of lower-case letters has ended
abbrev pub worded : ℕ → Option Symbol → Step → Step
worded m None next = (s.Failed m, [])
worded m (Some k) next = behind m (t.Symbol k) next

-- a byte of this class ends what this quote began
abbrev pub closes : Quote → ByteClass → Bool
closes q.Single c.Quote = true
closes q.Double c.DoubleQuote = true
closes _ _ = false

-- a byte between quotes that ends nothing
abbrev pub inside : ℕ → Quote → List ℕ → ℕ → ByteClass → Bool → Step
inside m quote text b c.Backslash _ = (s.QuotedEscape m quote text x.Begun, [])
inside m quote text b _ true = (s.Quoted m quote (text ++ b ∷ []), [])
inside m quote text b _ false = (s.Failed m, [])

-- a byte between quotes
abbrev pub in_quotes : ℕ → Quote → List ℕ → ℕ → Step
in_quotes m quote text b = if closes quote (class_of b)
    then (s.Gap, lexeme m (quoted_token quote text) ∷ []) else inside m quote text b (class_of b)
    (is_printable b)

abbrev pub in_quoted_escape : ℕ → Quote → List ℕ → ℕ → Escaping → Step
in_quoted_escape m quote text b (y.Open read) = (s.QuotedEscape m quote text read, [])
in_quoted_escape m quote text b (y.Closed k) = (s.Quoted m quote (text ++ k ∷ []), [])
in_quoted_escape m quote text b (y.Over k) = in_quotes m quote (text ++ k ∷ []) b
in_quoted_escape m quote text b y.Wrong = (s.Failed m, [])

-- the byte behind a $
abbrev pub in_character : ℕ → ℕ → ByteClass → Bool → Step
in_character m b c.Backslash _ = (s.CharacterEscape m x.Begun, [])
in_character m b _ true = (s.Gap, lexeme m (t.Character b) ∷ [])
in_character m b _ false = (s.Failed m, [])

abbrev pub in_character_escape : ℕ → Escaping → Step → Step
in_character_escape m (y.Open read) next = (s.CharacterEscape m read, [])
in_character_escape m (y.Closed k) next = (s.Gap, lexeme m (t.Character k) ∷ [])
in_character_escape m (y.Over k) next = behind m (t.Character k) next
in_character_escape m y.Wrong next = (s.Failed m, [])

abbrev pub stepped : ℕ → State → ℕ → Step
stepped n s.Gap b = begun n b (class_of b)
stepped n s.Comment b = if b == 10 then (s.Gap, []) else (s.Comment, [])
stepped n (s.Signed m sign) b = after_sign m sign b (class_of b)
stepped n (s.Integer m sign ds) b = if is_digit (class_of b)
    then (s.Integer m sign (ds ++ b ∷ []), []) else behind m (t.Integer sign ds)
    (begun n b (class_of b))
stepped n (s.Variable m text) b = if is_variable_part (class_of b)
    then (s.Variable m (text ++ b ∷ []), []) else behind m (t.Variable text)
    (begun n b (class_of b))
stepped n (s.Keyword m ls) b = if is_lower (class_of b) then (s.Keyword m (ls ++ b ∷ []), [])
    else worded m (keyword ls) (begun n b (class_of b))
stepped n (s.Quoted m quote text) b = in_quotes m quote text b
stepped n (s.QuotedEscape m quote text read) b = in_quoted_escape m quote text b (escaping read b)
stepped n (s.Character m) b = in_character m b (class_of b) (is_printable b)
stepped n (s.CharacterEscape m read) b =
    in_character_escape m (escaping read b) (begun n b (class_of b))
stepped n (s.Failed m) b = (s.Failed m, [])

-- ---- the end of the text

abbrev pub worded_last : ℕ → Option Symbol → List Lexeme × Ending
worded_last m None = ([], e.Bad m)
worded_last m (Some k) = (lexeme m (t.Symbol k) ∷ [], e.Clean)

abbrev pub escape_ended : ℕ → Escape → List Lexeme × Ending
escape_ended m (x.OneDigit k) = (lexeme m (t.Character k) ∷ [], e.Clean)
escape_ended m (x.TwoDigits k) = (lexeme m (t.Character k) ∷ [], e.Clean)
escape_ended m _ = ([], e.Open)

abbrev pub ended : State → List Lexeme × Ending
ended s.Gap = ([], e.Clean)
ended s.Comment = ([], e.Clean)
ended (s.Signed m sign) = ([], e.Bad m)
ended (s.Integer m sign ds) = (lexeme m (t.Integer sign ds) ∷ [], e.Clean)
ended (s.Variable m text) = (lexeme m (t.Variable text) ∷ [], e.Clean)
ended (s.Keyword m ls) = worded_last m (keyword ls)
ended (s.Quoted m quote text) = ([], e.Open)
ended (s.QuotedEscape m quote text read) = ([], e.Open)
ended (s.Character m) = ([], e.Open)
ended (s.CharacterEscape m read) = escape_ended m read
ended (s.Failed m) = ([], e.Bad m)

unfoldable pub scan : List ℕ → State → List Lexeme × Ending
scan [] state = ended state
scan (b ∷ bs) state =
    let r = stepped (length (b ∷ bs)) state b in
    let rest = scan bs r.0 in
    (r.1 ++ rest.0, rest.1)

-- what one step of the code gives
abbrev pub Steps : List Lexeme → List Lexeme → State → Step → Type 0
Steps old new state r = (r.0 ≡ state) × (new ≡ old ++ r.1)

abbrev pub EndsAs : List Lexeme → List Lexeme → Ending → (List Lexeme × Ending) → Type 0
EndsAs old new end r = (r.1 ≡ end) × (new ≡ old ++ r.0)
