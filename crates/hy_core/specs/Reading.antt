-- Which texts are a module, and its tree.
use Rattle.std.specs.Prelude.{◌≡◌, ℕ, ◌≤◌, ◌^◌, List, length, map}
use Rattle.hy_core.specs.Tokens.{Lexes}
use Rattle.hy_core.specs.Marks.{Marked, tokens_of, AreSound}
use Rattle.hy_core.specs.Grammar.{IsModule}
use Rattle.hy_core.specs.declared.token.Token.{Token}
use Rattle.hy_core.specs.declared.token.Lexeme.{Lexeme}
use Rattle.hy_core.specs.declared.token.Ending.TheVariants.{Clean}
use Rattle.hy_core.specs.declared.tree.Module.{Module}

abbrev pub tokens_in : List Lexeme → List Token
tokens_in ls = map (λ l. l.token) ls

-- the tokens are a module of this tree, within the levels and the range of numbers
abbrev pub Reads : List Token → Module → Type 0
Reads ts z = (ms : List Marked) × (tokens_of ms ≡ ts) × AreSound ms × IsModule ms z

-- the grammar gives the text this tree, however long it is
abbrev pub HasTree : List ℕ → Module → Type 0
HasTree bytes z = (ls : List Lexeme) × Lexes bytes ls Clean × Reads (tokens_in ls) z

-- the text is a module of this tree: at most 2^20 bytes, whose tokens are one
abbrev pub IsModuleText : List ℕ → Module → Type 0
IsModuleText bytes z = (length bytes ≤ 2 ^ 20) × HasTree bytes z
