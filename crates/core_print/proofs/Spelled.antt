-- The tokens of a text can be written, and tokens that are written are the tokens of their text.
use Rattle.std.proofs.Common.{◌≡◌, ℕ, List, [], ◌∷◌, ◌++◌, length, refl, sym, ap, subst, append_assoc}
use Rattle.std.specs.List.{AllByRecursion}
use Rattle.hy_core.specs.Tokens.{Lexes, done, space, comment, token, open_token, no_token}
use Rattle.hy_core.specs.Marks.{Marked, tokens_of}
use Rattle.hy_core.specs.Reading.{tokens_in}
use Rattle.core_print.proofs.SpelledTokens.{BeginsGap, line_feed_class, space_class, spelled_token}
use Rattle.core_print.proofs.Written.{token_written}
use Rattle.core_print.proofs.Spelling.{token_text, spaced, IsWritten, IsFine, AreFine}
use Rattle.hy_core.specs.declared.token.Token.{Token}
use Rattle.hy_core.specs.declared.token.Lexeme.{Lexeme}
use Rattle.hy_core.specs.declared.token.Ending.{Ending}
use Rattle.hy_core.specs.declared.token.Ending.TheVariants.{Clean}

-- each token of a text is one that can be written
pub lexed_written : (bytes : List ℕ) (ls : List Lexeme) (end : Ending) → Lexes bytes ls end → AllByRecursion IsWritten (tokens_in ls)
lexed_written _ _ _ done = tt
lexed_written _ _ _ (space {bs = bs} {ls = ls} {end = end} is d) = lexed_written bs ls end d
lexed_written _ _ _ (comment {rest = rest} {ls = ls} {end = end} inside is ps st d) = lexed_written rest ls end d
lexed_written _ _ _ (token {front = front} {rest = rest} {k = k} {ls = ls} {end = end} is d) = (token_written front rest k is, lexed_written rest ls end d)
lexed_written _ _ _ (open_token bare opened) = tt
lexed_written _ _ _ (no_token bare opened gap remark) = tt

-- behind a token stands a space or the line feed
spaced_gap : (ns : List Marked) → BeginsGap (spaced ns ++ 10 ∷ [])
spaced_gap [] = line_feed_class
spaced_gap (m ∷ ms) = space_class

-- the text has these tokens
abbrev pub HasTokens : List ℕ → List Marked → Type 0
HasTokens text ns = (ls : List Lexeme) × Lexes text ls Clean × (tokens_in ls ≡ tokens_of ns)

-- a token before a text whose tokens are known
token_before : (m : Marked) (ms : List Marked) → IsFine m → HasTokens (spaced ms ++ 10 ∷ []) ms → HasTokens (token_text m.token ++ (spaced ms ++ 10 ∷ [])) (m ∷ ms)
token_before m ms fine (ls, d, same) =
    let rest = spaced ms ++ 10 ∷ [] in
    (record { left = length (token_text m.token ++ rest); token = m.token } ∷ ls, token (spelled_token m.token rest fine.1 (spaced_gap ms)) d, ap (λ (ts : List Token). m.token ∷ ts) same)

-- tokens with a space before each, and a line feed behind the last
spaced_lexes : (ns : List Marked) → AreFine ns → HasTokens (spaced ns ++ 10 ∷ []) ns
spaced_lexes [] fine = ([], space line_feed_class done, refl)
spaced_lexes (m ∷ ms) fine =
    let (ls, d, same) = token_before m ms fine.0 (spaced_lexes ms fine.1) in
    (ls, space space_class (rw append_assoc d), same)

-- a text that is tokens with a space between two and a line feed behind the last has these tokens
pub spelled_lexes : (ns : List Marked) (text : List ℕ) → AreFine ns → 32 ∷ text ≡ spaced ns ++ 10 ∷ [] → (ls : List Lexeme) × Lexes text ls Clean × (tokens_in ls ≡ tokens_of ns)
spelled_lexes [] text fine is = absurd cc
spelled_lexes (m ∷ ms) text fine is =
    let whole : text ≡ token_text m.token ++ (spaced ms ++ 10 ∷ []) = rw append_assoc at (let same : text ≡ (token_text m.token ++ spaced ms) ++ 10 ∷ [] = cc in same) in
    subst (λ (bs : List ℕ). HasTokens bs (m ∷ ms)) (sym whole) (token_before m ms fine.0 (spaced_lexes ms fine.1))
