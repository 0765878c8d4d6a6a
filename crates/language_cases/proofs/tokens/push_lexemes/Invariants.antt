use Rattle.std.proofs.Common.{◌≡◌, ◌++◌, drop}
use Rattle.std.specs.List.{flat_map}
use Rattle.language_cases.specs.Tokens.{lexeme_text}
use Rattle.language_cases.proofs.tokens.push_lexemes.Given as goal

abbrev pub invariant-loop-lexeme : goal.invariant-loop-lexeme
invariant-loop-lexeme l =
    l.line.items ++ flat_map (lexeme_text l.size) (drop l.lexeme-index l.lexemes)
    ≡ l.fn.line.items ++ flat_map (lexeme_text l.size) l.lexemes
