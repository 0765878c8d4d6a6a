-- The tokens that a canonical text is made of, each with its text.
use Rattle.std.specs.Prelude.{◌≡◌, ℕ, ◌≤◌, List, [], ◌∷◌, ◌++◌, codes}
use Rattle.std.specs.List.{AllByRecursion}
use Rattle.hy_terms.specs.Texts.{atom_text, octal_digits, quoted}
use Rattle.hy_core.specs.Bytes.{class_of, is_digit, is_variable_part, Pass}
use Rattle.hy_core.specs.Marks.{Marked, IsSound}
use Rattle.hy_core.specs.declared.token.ByteClass.TheVariants as c
use Rattle.hy_core.specs.declared.token.Symbol.{Symbol}
use Rattle.hy_core.specs.declared.token.Symbol.TheVariants as w
use Rattle.hy_core.specs.declared.token.Sign.{Sign}
use Rattle.hy_core.specs.declared.token.Sign.TheVariants as g
use Rattle.hy_core.specs.declared.token.Token.{Token}
use Rattle.hy_core.specs.declared.token.Token.TheVariants as t

abbrev pub symbol_text : Symbol → List ℕ
symbol_text w.After = codes "after"
symbol_text w.Apply = codes "apply"
symbol_text w.Attributes = codes "attributes"
symbol_text w.Call = codes "call"
symbol_text w.Case = codes "case"
symbol_text w.Catch = codes "catch"
symbol_text w.Do = codes "do"
symbol_text w.End = codes "end"
symbol_text w.Fun = codes "fun"
symbol_text w.In = codes "in"
symbol_text w.Let = codes "let"
symbol_text w.Letrec = codes "letrec"
symbol_text w.Module = codes "module"
symbol_text w.Of = codes "of"
symbol_text w.Primop = codes "primop"
symbol_text w.Receive = codes "receive"
symbol_text w.Try = codes "try"
symbol_text w.When = codes "when"
symbol_text w.Open = codes "("
symbol_text w.Close = codes ")"
symbol_text w.OpenTuple = codes "{"
symbol_text w.CloseTuple = codes "}"
symbol_text w.OpenList = codes "["
symbol_text w.CloseList = codes "]"
symbol_text w.Less = codes "<"
symbol_text w.Greater = codes ">"
symbol_text w.Comma = codes ","
symbol_text w.Colon = codes ":"
symbol_text w.Slash = codes "/"
symbol_text w.Equals = codes "="
symbol_text w.Bar = codes "|"
symbol_text w.Arrow = codes "->"
symbol_text w.NoteBar = codes "-|"

abbrev pub sign_text : Sign → List ℕ
sign_text g.Absent = []
sign_text g.Plus = codes "+"
sign_text g.Minus = codes "-"

-- the text of a token, as a canonical text has it; a character, which no canonical text has, in octal
abbrev pub token_text : Token → List ℕ
token_text (t.Integer sign digits) = sign_text sign ++ digits
token_text (t.Character code) = 36 ∷ 92 ∷ octal_digits code
token_text (t.Atom text) = atom_text text
token_text (t.Str text) = quoted 34 text
token_text (t.Variable name) = name
token_text (t.Symbol symbol) = symbol_text symbol

-- tokens, each with the space before it
abbrev pub spaced : List Marked → List ℕ
spaced [] = []
spaced (m ∷ ms) = 32 ∷ (token_text m.token ++ spaced ms)

-- digits, one at least
pub data AreDigits : List ℕ → Type 0 where
  digits : {d : ℕ} {ds : List ℕ} → class_of d ≡ c.Digit → Pass is_digit ds → AreDigits (d ∷ ds)

-- the name of a variable
pub data IsVariableName : List ℕ → Type 0 where
  variable_name : {u : ℕ} {us : List ℕ} → class_of u ≡ c.Capital → Pass is_variable_part us → IsVariableName (u ∷ us)

abbrev pub AreBytes : List ℕ → Type 0
AreBytes text = AllByRecursion (λ b. b ≤ 255) text

-- a token that a text can have
abbrev pub IsWritten : Token → Type 0
IsWritten (t.Integer sign ds) = AreDigits ds
IsWritten (t.Character code) = code ≤ 255
IsWritten (t.Atom text) = AreBytes text
IsWritten (t.Str text) = AreBytes text
IsWritten (t.Variable name) = IsVariableName name
IsWritten (t.Symbol symbol) = Unit {0}

-- a token that a text can have, within the levels and its range
abbrev pub IsFine : Marked → Type 0
IsFine m = IsSound m × IsWritten m.token

abbrev pub AreFine : List Marked → Type 0
AreFine ms = AllByRecursion IsFine ms
