-- Why a text is refused, and where. This project's own.
use Rattle.std.specs.Prelude.{◌≡◌, ℕ, ◌+◌, ◌≤◌, ◌<◌, ◌^◌, List, [], ◌∷◌, ◌++◌, length}
use Rattle.hy_core.specs.Tokens.{Lexes}
use Rattle.hy_core.specs.Marks.{Marked, tokens_of, IsShallow, Fits, AreSound}
use Rattle.hy_core.specs.Reading.{tokens_in}
use Rattle.hy_core.specs.Grammar.{IsModule}
use Rattle.hy_core.specs.declared.token.Token.{Token}
use Rattle.hy_core.specs.declared.token.Lexeme.{Lexeme}
use Rattle.hy_core.specs.declared.token.Ending.{Ending}
use Rattle.hy_core.specs.declared.token.Ending.TheVariants as e
use Rattle.hy_core.specs.declared.refusal.RefusalKind.{RefusalKind}
use Rattle.hy_core.specs.declared.refusal.RefusalKind.TheVariants as k
use Rattle.hy_core.specs.declared.tree.Module.{Module}

-- the tokens begin a module: some more make them one
abbrev pub Begins : List Token → Type 0
Begins ts = (ms more : List Marked) × (z : Module) × (tokens_of ms ≡ ts) × IsModule (ms ++ more) z

-- the tokens begin a module, and none of them is wrong
abbrev pub Goes : List Token → Type 0
Goes ts = (ms more : List Marked) × (z : Module) × (tokens_of ms ≡ ts) × AreSound ms
    × IsModule (ms ++ more) z

-- behind tokens of which none is wrong, this one stands in a module with such a mark
abbrev pub Stands : (Marked → Type 0) → List Token → Token → Type 0
Stands Is before t = (ms more : List Marked) × (m : Marked) × (z : Module) × (tokens_of ms ≡ before)
    × (m.token ≡ t) × AreSound ms × Is m × IsModule (ms ++ m ∷ more) z

-- up to this token the tokens begin no module
abbrev pub IsUnexpected : List Token → Token → Type 0
IsUnexpected before t = Goes before × (Begins (before ++ t ∷ []) → ⊥)

-- this token begins a construct of level 401
abbrev pub IsTooDeep : List Token → Token → Type 0
IsTooDeep = Stands (λ m. 400 < m.level)

-- this token is a number that is too large or too small where it stands
abbrev pub IsOutOfRange : List Token → Token → Type 0
IsOutOfRange = Stands (λ m. IsShallow m × (Fits m.role m.token → ⊥))

-- all tokens are a proper prefix of a module
abbrev pub HasEnded : List Token → Type 0
HasEnded ts = (ms more : List Marked) × (m : Marked) × (z : Module) × (tokens_of ms ≡ ts)
    × AreSound ms × IsModule (ms ++ m ∷ more) z

-- This lexeme is the first that is wrong, and begins at this place of a text of so many bytes.
abbrev pub IsFirstWrong : (List Token → Token → Type 0) → ℕ → List Lexeme → ℕ → Type 0
IsFirstWrong IsWrong size ls place = (before after : List Lexeme) × (l : Lexeme)
    × (ls ≡ before ++ l ∷ after) × (place + l.left ≡ size) × IsWrong (tokens_in before) l.token

-- the text ends early: behind whole tokens, or inside one
abbrev pub EndsEarly : Ending → List Token → Type 0
EndsEarly e.Clean ts = HasEnded ts
EndsEarly e.Open ts = Goes ts
EndsEarly (e.Bad left) ts = ⊥

-- a text of so many bytes, with these tokens and this ending, is refused at this place
abbrev pub IsRefusedBy : RefusalKind → ℕ → List Lexeme → Ending → ℕ → Type 0
IsRefusedBy k.BadToken size ls end place =
    (left : ℕ) × (end ≡ e.Bad left) × (place + left ≡ size) × Goes (tokens_in ls)
IsRefusedBy k.Unexpected size ls end place = IsFirstWrong IsUnexpected size ls place
IsRefusedBy k.Ended size ls end place = (place ≡ size) × EndsEarly end (tokens_in ls)
IsRefusedBy k.NumberRange size ls end place = IsFirstWrong IsOutOfRange size ls place
IsRefusedBy k.TooDeep size ls end place = IsFirstWrong IsTooDeep size ls place
IsRefusedBy k.TooLong size ls end place = ⊥

-- the text is refused at this place: it is too long, or it isn't and something in it is wrong
abbrev pub IsRefusedText : List ℕ → RefusalKind → ℕ → Type 0
IsRefusedText bytes k.TooLong place = (2 ^ 20 < length bytes) × (place ≡ 2 ^ 20)
IsRefusedText bytes kind place = (length bytes ≤ 2 ^ 20) × (ls : List Lexeme) × (end : Ending)
    × Lexes bytes ls end × IsRefusedBy kind (length bytes) ls end place
