-- The text that is written for a token is that token, where a space stands behind it.
use Rattle.std.proofs.Common.{◌≡◌, ℕ, Bool, true, false, ◌&&◌, List, [], ◌∷◌, ◌++◌, Some, refl}
use Rattle.std.specs.List.{list_all}
use Rattle.hy_core.specs.Bytes.{class_of, mark_of, plain_class, is_digit, is_lower, is_variable_part, Pass, Stops}
use Rattle.hy_terms.specs.Texts.{octal_digits}
use Rattle.hy_core.specs.Tokens.{keyword, IsToken, integer, signed, escape, atom, string, variable, a_keyword, mark, mark_of_two}
use Rattle.core_print.proofs.Quoting.{single, double, backslash_class, octal_escape, quote_class, quoted_body}
use Rattle.core_print.proofs.Spelling.{symbol_text, token_text, sign_text, AreDigits, digits, IsVariableName, variable_name, IsWritten}
use Rattle.hy_core.specs.declared.token.ByteClass.{ByteClass}
use Rattle.hy_core.specs.declared.token.ByteClass.TheVariants as c
use Rattle.hy_core.specs.declared.token.Symbol.{Symbol}
use Rattle.hy_core.specs.declared.token.Symbol.TheVariants as w
use Rattle.hy_core.specs.declared.token.Sign.{Sign}
use Rattle.hy_core.specs.declared.token.Sign.TheVariants as g
use Rattle.hy_core.specs.declared.token.Token.{Token}
use Rattle.hy_core.specs.declared.token.Token.TheVariants as t

-- ---- what stands behind a token

-- a space or a line feed stands first
abbrev pub BeginsGap : List ℕ → Type 0
BeginsGap [] = Unit {0}
BeginsGap (b ∷ bs) = class_of b ≡ c.Space

pub space_class : class_of 32 ≡ c.Space
unfolding class_of mark_of plain_class
space_class = refl

pub line_feed_class : class_of 10 ≡ c.Space
unfolding class_of mark_of plain_class
line_feed_class = refl

-- so a run of bytes stops there
stops : (p : ByteClass → Bool) (rest : List ℕ) → p c.Space ≡ false → BeginsGap rest → Stops p rest
stops p [] bare gap = tt
stops p (b ∷ bs) bare gap = rw gap bare

-- ---- symbols

-- letters that pass one by one do
lower_passes : (ls : List ℕ) → list_all (λ b. is_lower (class_of b)) ls ≡ true → Pass is_lower ls
lower_passes [] is = tt
lower_passes (l ∷ ls) is = at (is_lower (class_of l)) refl is (lower_passes ls)
  where
    at : (v : Bool) → is_lower (class_of l) ≡ v → (v && list_all (λ b. is_lower (class_of b)) ls) ≡ true → (list_all (λ b. is_lower (class_of b)) ls ≡ true → Pass is_lower ls) → Pass is_lower (l ∷ ls)
    at true low is behind = (low, behind is)
    at false low is behind = absurd cc

-- letters that are a keyword
keyword_token : {l : ℕ} {ls : List ℕ} {k : Symbol} (rest : List ℕ) → class_of l ≡ c.Lower → list_all (λ b. is_lower (class_of b)) ls ≡ true → keyword (l ∷ ls) ≡ Some k → BeginsGap rest → IsToken (l ∷ ls) rest (t.Symbol k)
keyword_token {ls = ls} rest first low key gap = a_keyword first (lower_passes ls low) (stops is_lower rest refl gap) key

spelled_symbol : (k : Symbol) (rest : List ℕ) → BeginsGap rest → IsToken (symbol_text k) rest (t.Symbol k)
unfolding class_of mark_of plain_class keyword
spelled_symbol w.After rest gap = keyword_token rest refl refl refl gap
spelled_symbol w.Apply rest gap = keyword_token rest refl refl refl gap
spelled_symbol w.Attributes rest gap = keyword_token rest refl refl refl gap
spelled_symbol w.Call rest gap = keyword_token rest refl refl refl gap
spelled_symbol w.Case rest gap = keyword_token rest refl refl refl gap
spelled_symbol w.Catch rest gap = keyword_token rest refl refl refl gap
spelled_symbol w.Do rest gap = keyword_token rest refl refl refl gap
spelled_symbol w.End rest gap = keyword_token rest refl refl refl gap
spelled_symbol w.Fun rest gap = keyword_token rest refl refl refl gap
spelled_symbol w.In rest gap = keyword_token rest refl refl refl gap
spelled_symbol w.Let rest gap = keyword_token rest refl refl refl gap
spelled_symbol w.Letrec rest gap = keyword_token rest refl refl refl gap
spelled_symbol w.Module rest gap = keyword_token rest refl refl refl gap
spelled_symbol w.Of rest gap = keyword_token rest refl refl refl gap
spelled_symbol w.Primop rest gap = keyword_token rest refl refl refl gap
spelled_symbol w.Receive rest gap = keyword_token rest refl refl refl gap
spelled_symbol w.Try rest gap = keyword_token rest refl refl refl gap
spelled_symbol w.When rest gap = keyword_token rest refl refl refl gap
spelled_symbol w.Open rest gap = mark refl
spelled_symbol w.Close rest gap = mark refl
spelled_symbol w.OpenTuple rest gap = mark refl
spelled_symbol w.CloseTuple rest gap = mark refl
spelled_symbol w.OpenList rest gap = mark refl
spelled_symbol w.CloseList rest gap = mark refl
spelled_symbol w.Less rest gap = mark refl
spelled_symbol w.Greater rest gap = mark refl
spelled_symbol w.Comma rest gap = mark refl
spelled_symbol w.Colon rest gap = mark refl
spelled_symbol w.Slash rest gap = mark refl
spelled_symbol w.Equals rest gap = mark refl
spelled_symbol w.Bar rest gap = mark refl
spelled_symbol w.Arrow rest gap = mark_of_two refl refl
spelled_symbol w.NoteBar rest gap = mark_of_two refl refl

-- ---- all tokens

plus_class : class_of 43 ≡ c.Plus
unfolding class_of mark_of plain_class
plus_class = refl

minus_class : class_of 45 ≡ c.Minus
unfolding class_of mark_of plain_class
minus_class = refl

dollar_class : class_of 36 ≡ c.Dollar
unfolding class_of mark_of plain_class
dollar_class = refl

spelled_number : (sign : Sign) (ds rest : List ℕ) → AreDigits ds → BeginsGap rest → IsToken (sign_text sign ++ ds) rest (t.Integer sign ds)
spelled_number g.Absent _ rest (digits is ps) gap = integer is ps (stops is_digit rest refl gap)
spelled_number g.Plus _ rest (digits is ps) gap = signed (rw plus_class refl) is ps (stops is_digit rest refl gap)
spelled_number g.Minus _ rest (digits is ps) gap = signed (rw minus_class refl) is ps (stops is_digit rest refl gap)

spelled_variable : (name rest : List ℕ) → IsVariableName name → BeginsGap rest → IsToken name rest (t.Variable name)
spelled_variable _ rest (variable_name is ps) gap = variable is ps (stops is_variable_part rest refl gap)

-- the text of a token is that token, where a space stands behind it
pub spelled_token : (k : Token) (rest : List ℕ) → IsWritten k → BeginsGap rest → IsToken (token_text k) rest k
spelled_token (t.Integer sign ds) rest is gap = spelled_number sign ds rest is gap
spelled_token (t.Character code) rest is gap = escape {es = octal_digits code} dollar_class backslash_class (octal_escape code rest is)
spelled_token (t.Atom text) rest is gap = atom (quote_class 39 c.Quote single) (quoted_body 39 c.Quote text single is)
spelled_token (t.Str text) rest is gap = string (quote_class 34 c.DoubleQuote double) (quoted_body 34 c.DoubleQuote text double is)
spelled_token (t.Variable name) rest is gap = spelled_variable name rest is gap
spelled_token (t.Symbol k) rest is gap = spelled_symbol k rest gap
