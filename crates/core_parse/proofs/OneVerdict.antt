-- No text both is a module and is refused, and none is refused in two ways.
use Rattle.std.proofs.Common.{◌≡◌, ℕ, ◌≤◌, ◌<◌, ◌^◌, List, length, Result, Ok, Err, ◌⊎◌, inl, inr, refl, sym, ap, subst, ◌∙◌, arith}
use Rattle.hy_core.specs.Tokens.{Lexes}
use Rattle.hy_core.specs.Reading.{tokens_in, IsModuleText}
use Rattle.hy_core.specs.Refusals.{IsRefusedBy, IsRefusedText}
use Rattle.hy_core.specs.declared.token.Lexeme.{Lexeme}
use Rattle.hy_core.specs.declared.token.Ending.{Ending}
use Rattle.hy_core.specs.declared.token.Ending.TheVariants as ends
use Rattle.hy_core.specs.declared.refusal.RefusalKind.{RefusalKind}
use Rattle.hy_core.specs.declared.refusal.RefusalKind.TheVariants as k
use Rattle.hy_core.specs.declared.tree.Module.{Module}
use Rattle.core_scan.proofs.OneLexing.{one_lexing}
use Rattle.core_parse.specs.code.Pushdown.{run, start}
use Rattle.core_parse.specs.Answers.{Verdict}
use Rattle.core_parse.specs.code.Verdicts.{verdict}
use Rattle.core_parse.proofs.WholeText.{reads_run, exactly}

-- the text is too long, or refused by its tokens
abbrev IsTooLong : List ℕ → RefusalKind → ℕ → Type 0
IsTooLong bytes kind place = (kind ≡ k.TooLong) × (place ≡ 2 ^ 20) × (2 ^ 20 < length bytes)

abbrev IsRefusedByTokens : List ℕ → RefusalKind → ℕ → Type 0
IsRefusedByTokens bytes kind place = (length bytes ≤ 2 ^ 20) × (ls : List Lexeme) × (end : Ending) × Lexes bytes ls end × IsRefusedBy kind (length bytes) ls end place

why : (bytes : List ℕ) (kind : RefusalKind) (place : ℕ) → IsRefusedText bytes kind place → IsTooLong bytes kind place ⊎ IsRefusedByTokens bytes kind place
why bytes k.BadToken place h = inr h
why bytes k.Unexpected place h = inr h
why bytes k.Ended place h = inr h
why bytes k.NumberRange place h = inr h
why bytes k.TooDeep place h = inr h
why bytes k.TooLong place h = inl (refl, h.1, h.0)

-- the verdict on the tokens of any lexing
refused_verdict : (bytes : List ℕ) (kind : RefusalKind) (place : ℕ) (ls : List Lexeme) (end : Ending) → Lexes bytes ls end → IsRefusedByTokens bytes kind place → verdict (length bytes) ls end (run 0 (tokens_in ls) start) ≡ Err (kind, place)
refused_verdict bytes kind place ls end lexes (few, os, last, other, refused) =
    let one = one_lexing bytes os ls last end other lexes in
    exactly kind (length bytes) ls end place (subst (λ (u : List Lexeme). IsRefusedBy kind (length bytes) u end place) one.0 (subst (λ (o : Ending). IsRefusedBy kind (length bytes) os o place) one.1 refused))

abbrev tree_verdict : Module → Verdict
tree_verdict z = Ok z

abbrev refusal_verdict : RefusalKind → ℕ → Verdict
refusal_verdict kind place = Err (kind, place)

pub no_module_is_refused : (bytes : List ℕ) (z : Module) (kind : RefusalKind) (place : ℕ) → IsModuleText bytes z → IsRefusedText bytes kind place → ⊥
no_module_is_refused bytes z kind place (few, (ls, lexes, reads)) h = by (why bytes kind place h)
  where
    by : IsTooLong bytes kind place ⊎ IsRefusedByTokens bytes kind place → ⊥
    by (inl (is, at, long)) = absurd (omega (arith, long, few))
    by (inr refused) =
        let both : tree_verdict z ≡ refusal_verdict kind place = sym (ap (verdict (length bytes) ls ends.Clean) (reads_run (tokens_in ls) z reads)) ∙ refused_verdict bytes kind place ls ends.Clean lexes refused in
        absurd cc

abbrev told_kind : Verdict → RefusalKind → RefusalKind
told_kind (Ok z) kind = kind
told_kind (Err fault) kind = fault.0

abbrev told_place : Verdict → ℕ → ℕ
told_place (Ok z) place = place
told_place (Err fault) place = fault.1

pub one_refusal : (bytes : List ℕ) (kind other : RefusalKind) (place there : ℕ) → IsRefusedText bytes kind place → IsRefusedText bytes other there → (kind ≡ other) × (place ≡ there)
one_refusal bytes kind other place there h g = by (why bytes kind place h) (why bytes other there g)
  where
    by : IsTooLong bytes kind place ⊎ IsRefusedByTokens bytes kind place → IsTooLong bytes other there ⊎ IsRefusedByTokens bytes other there → (kind ≡ other) × (place ≡ there)
    by (inl (is, at, long)) (inl (same, here, longer)) = (is ∙ sym same, at ∙ sym here)
    by (inl (is, at, long)) (inr again) = let few = again.0 in absurd (omega (arith, long, few))
    by (inr refused) (inl (same, here, long)) = let few = refused.0 in absurd (omega (arith, long, few))
    by (inr (few, ls, end, lexes, refused)) (inr again) =
        let both : refusal_verdict kind place ≡ refusal_verdict other there = sym (refused_verdict bytes kind place ls end lexes (few, ls, end, lexes, refused)) ∙ refused_verdict bytes other there ls end lexes again in
        (ap (λ (v : Verdict). told_kind v kind) both, ap (λ (v : Verdict). told_place v place) both)
