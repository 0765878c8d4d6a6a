use Rattle.std.proofs.Common.{◌≤◌, ◌^◌, List, length, subst, arith}
use Rattle.hy_core.specs.declared.token.Lexeme.{Lexeme}
use Rattle.core_parse.specs.code.Verdicts.{of_tokens, GivesTokens}
use Rattle.core_parse.proofs.read.read_text.Goals as goal

pub returns : goal.returns
returns c =
    let few : length c.args.bytes.now ≤ 2 ^ 20 = omega arith in
    of_tokens c.in_ok-lexed.lexed.lexemes c.in_ok-lexed.lexed.ending few c.in_ok-lexed.ensures.tokens c.in_ok-lexed.ensures.within.0 c.in_ok-lexed.ensures.within.1
    (subst (λ (ls : List Lexeme). GivesTokens c.read_lexemes.result c.args.bytes.now ls c.in_ok-lexed.lexed.ending) c.as_slice.ensures c.read_lexemes.ensures)
