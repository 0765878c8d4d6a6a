-- How tokens are written in answers. This project's own.
use Rattle.std.specs.Prelude.{◌≡◌, ℕ, ◌-◌, nat_le, ◌&&◌, if◌then◌else◌, List, [], ◌∷◌, ◌++◌, codes, length}
use Rattle.std.specs.Fmt.{decimal}
use Rattle.std.specs.List.{flat_map}
use Rattle.hy_core.specs.Tokens.{Lexes}
use Rattle.hy_core.specs.declared.token.Symbol.{Symbol}
use Rattle.hy_core.specs.declared.token.Symbol.TheVariants as s
use Rattle.hy_core.specs.declared.token.Sign.{Sign}
use Rattle.hy_core.specs.declared.token.Sign.TheVariants as sign
use Rattle.hy_core.specs.declared.token.Token.{Token}
use Rattle.hy_core.specs.declared.token.Token.TheVariants as token
use Rattle.hy_core.specs.declared.token.Lexeme.{Lexeme}
use Rattle.hy_core.specs.declared.token.Ending.{Ending}
use Rattle.hy_core.specs.declared.token.Ending.TheVariants as ending
use Rattle.language_cases.specs.Pieces.{shortened}

-- a keyword or a mark as it is written
abbrev pub symbol_text : Symbol → List ℕ
symbol_text s.After = codes "after"
symbol_text s.Apply = codes "apply"
symbol_text s.Attributes = codes "attributes"
symbol_text s.Call = codes "call"
symbol_text s.Case = codes "case"
symbol_text s.Catch = codes "catch"
symbol_text s.Do = codes "do"
symbol_text s.End = codes "end"
symbol_text s.Fun = codes "fun"
symbol_text s.In = codes "in"
symbol_text s.Let = codes "let"
symbol_text s.Letrec = codes "letrec"
symbol_text s.Module = codes "module"
symbol_text s.Of = codes "of"
symbol_text s.Primop = codes "primop"
symbol_text s.Receive = codes "receive"
symbol_text s.Try = codes "try"
symbol_text s.When = codes "when"
symbol_text s.Open = codes "("
symbol_text s.Close = codes ")"
symbol_text s.OpenTuple = codes "{"
symbol_text s.CloseTuple = codes "}"
symbol_text s.OpenList = codes "["
symbol_text s.CloseList = codes "]"
symbol_text s.Less = codes "<"
symbol_text s.Greater = codes ">"
symbol_text s.Comma = codes ","
symbol_text s.Colon = codes ":"
symbol_text s.Slash = codes "/"
symbol_text s.Equals = codes "="
symbol_text s.Bar = codes "|"
symbol_text s.Arrow = codes "->"
symbol_text s.NoteBar = codes "-|"

-- the bytes 32 to 126 as they are, each other as its number between < and >
abbrev pub byte_text : ℕ → List ℕ
byte_text b = if nat_le 32 b && nat_le b 126 then b ∷ [] else codes "<" ++ decimal b ++ codes ">"

abbrev pub sign_text : Sign → List ℕ
sign_text sign.Absent = codes "int "
sign_text sign.Plus = codes "int +"
sign_text sign.Minus = codes "int -"

-- a token: its form, and what it stands for
abbrev pub token_text : Token → List ℕ
token_text (token.Integer g digits) = sign_text g ++ flat_map byte_text digits
token_text (token.Character code) = codes "char " ++ decimal code
token_text (token.Atom text) = codes "atom " ++ flat_map byte_text text
token_text (token.Str text) = codes "string " ++ flat_map byte_text text
token_text (token.Variable text) = codes "var " ++ flat_map byte_text text
token_text (token.Symbol symbol) = symbol_text symbol

-- a token of a text of so many bytes, with the place at which it begins
abbrev pub lexeme_text : ℕ → Lexeme → List ℕ
lexeme_text size lexeme =
    decimal (size - lexeme.left) ++ codes " " ++ token_text lexeme.token ++ codes "; "

-- what comes behind the last
abbrev pub ending_text : ℕ → Ending → List ℕ
ending_text size ending.Clean = codes "clean"
ending_text size ending.Open = codes "open"
ending_text size (ending.Bad left) = codes "bad " ++ decimal (size - left)

-- what is written for a text: its tokens, and what comes behind the last
pub record IsTokensAnswer (text answer : List ℕ) : Type 0 where
  pub lexemes : List Lexeme
  pub ending : Ending
  pub lexed : Lexes text lexemes ending
  pub is : answer ≡
      shortened (flat_map (lexeme_text (length text)) lexemes ++ ending_text (length text) ending)
      ++ 10 ∷ []
