-- What the machine's tests of a token say.
use Rattle.std.proofs.Common.{◌≡◌, ℕ, Bool, true, false, List, [], ◌∷◌, Option, Some, None, if◌then◌else◌, ◌==◌, refl, sym, ap, ◌∙◌}
use Rattle.std.proofs.lemmas.Bool.{eqb-true}
use Rattle.hy_core.specs.Marks.{Marked}
use Rattle.hy_core.specs.Patterns.{IsNotBefore}
use Rattle.core_parse.specs.code.Pushdown.{code, is_symbol, symbol_in, is_next, closing}
use Rattle.hy_core.specs.declared.token.Symbol.{Symbol}
use Rattle.hy_core.specs.declared.token.Symbol.TheVariants as w
use Rattle.hy_core.specs.declared.token.Token.{Token}
use Rattle.hy_core.specs.declared.token.Token.TheVariants as t
use Rattle.core_parse.specs.declared.goal.Closer.{Closer}
use Rattle.core_parse.specs.declared.goal.Closer.TheVariants as closer

-- ---- symbols

abbrev symbol_of : ℕ → Option Symbol
symbol_of n =
    if n == 0 then Some w.After
    else if n == 1 then Some w.Apply
    else if n == 2 then Some w.Attributes
    else if n == 3 then Some w.Call
    else if n == 4 then Some w.Case
    else if n == 5 then Some w.Catch
    else if n == 6 then Some w.Do
    else if n == 7 then Some w.End
    else if n == 8 then Some w.Fun
    else if n == 9 then Some w.In
    else if n == 10 then Some w.Let
    else if n == 11 then Some w.Letrec
    else if n == 12 then Some w.Module
    else if n == 13 then Some w.Of
    else if n == 14 then Some w.Primop
    else if n == 15 then Some w.Receive
    else if n == 16 then Some w.Try
    else if n == 17 then Some w.When
    else if n == 18 then Some w.Open
    else if n == 19 then Some w.Close
    else if n == 20 then Some w.OpenTuple
    else if n == 21 then Some w.CloseTuple
    else if n == 22 then Some w.OpenList
    else if n == 23 then Some w.CloseList
    else if n == 24 then Some w.Less
    else if n == 25 then Some w.Greater
    else if n == 26 then Some w.Comma
    else if n == 27 then Some w.Colon
    else if n == 28 then Some w.Slash
    else if n == 29 then Some w.Equals
    else if n == 30 then Some w.Bar
    else if n == 31 then Some w.Arrow
    else Some w.NoteBar

symbol_of-code : (k : Symbol) → symbol_of (code k) ≡ Some k
symbol_of-code w.After = refl
symbol_of-code _ = refl

same_symbol : (a c : Symbol) → code a ≡ code c → a ≡ c
same_symbol a c h = let both : Some a ≡ Some c = sym (symbol_of-code a) ∙ ap symbol_of h ∙ symbol_of-code c in cc

pub symbol_at : (k : Symbol) (token : Token) → is_symbol k token ≡ true → token ≡ t.Symbol k
symbol_at k (t.Symbol found) h = ap t.Symbol (same_symbol found k (eqb-true (code found) (code k) h))
symbol_at k _ h = absurd cc

pub is_itself : (k : Symbol) → is_symbol k (t.Symbol k) ≡ true
is_itself w.After = refl
is_itself _ = refl

pub is_not : (k : Symbol) (token : Token) → (token ≡ t.Symbol k → ⊥) → is_symbol k token ≡ false
is_not k token never = test (is_symbol k token) refl
  where
    test : (b : Bool) → is_symbol k token ≡ b → b ≡ false
    test false h = refl
    test true h = absurd (never (symbol_at k token h))

pub not_symbol : (k : Symbol) (token : Token) → is_symbol k token ≡ false → token ≡ t.Symbol k → ⊥
not_symbol k token h is = let bad : true ≡ false = sym (ap (is_symbol k) is ∙ is_itself k) ∙ h in cc

-- ---- what closes a list of parts

abbrev pub is_closing : Symbol → Bool
is_closing w.CloseTuple = true
is_closing w.CloseList = true
is_closing w.Close = true
is_closing w.Greater = true
is_closing w.End = true
is_closing w.After = true
is_closing _ = false

abbrev pub is_closer : Token → Bool
is_closer (t.Symbol k) = is_closing k
is_closer _ = false

closing_closes : (c : Closer) → is_closing (closing c) ≡ true
closing_closes closer.Tuple = refl
closing_closes _ = refl

-- there is a first token, and it closes no list
abbrev pub Opens : List Marked → Type 0
Opens [] = ⊥
Opens (m ∷ ms) = is_closer m.token ≡ false

pub not_closing : (c : Closer) (token : Token) → is_closer token ≡ false → is_symbol (closing c) token ≡ false
not_closing c token h = is_not (closing c) token (λ is. let bad : true ≡ false = sym (ap is_closer is ∙ closing_closes c) ∙ h in cc)

-- ---- the next token

abbrev pub first_of : List Marked → Option Symbol
first_of [] = None
first_of (m ∷ ms) = symbol_in m.token

next_is : (k : Symbol) (token : Token) → is_next k (symbol_in token) ≡ is_symbol k token
next_is k (t.Symbol found) = refl
next_is k _ = refl

pub not_next : (k : Symbol) (ms : List Marked) → IsNotBefore k ms → is_next k (first_of ms) ≡ false
not_next k [] h = refl
not_next k (m ∷ ms) h = next_is k m.token ∙ is_not k m.token h

pub next_not : (k : Symbol) (ms : List Marked) → is_next k (first_of ms) ≡ false → IsNotBefore k ms
next_not k [] h = tt
next_not k (m ∷ ms) h = not_symbol k m.token (sym (next_is k m.token) ∙ h)
