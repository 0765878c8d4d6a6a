-- The loop over the tokens runs the machine.
use Rattle.std.proofs.Common.{◌≡◌, ℕ, suc, ◌+◌, ◌<◌, List, [], ◌∷◌, drop, length, get_or, Ok, Err, refl, sym, ap, ◌∙◌, add-one}
use Rattle.std.proofs.Math.Seq.{drop-cons, drop-length}
use Rattle.std.proofs.lemmas.List.{drop-map}
use Rattle.hy_core.specs.Reading.{tokens_in}
use Rattle.core_parse.specs.code.Pushdown.{stepped, ended, ended_at, Reading, run}
use Rattle.hy_core.specs.declared.token.Token.{Token}
use Rattle.hy_core.specs.declared.token.Lexeme.{Lexeme}
use Rattle.hy_core.specs.declared.refusal.RefusalKind.{RefusalKind}
use Rattle.core_parse.specs.declared.state.State.{State}

-- the tokens from a place on
cut : (ls : List Lexeme) (d : Lexeme) (i : ℕ) → i < length ls → d ≡ get_or ls i d → drop i (tokens_in ls) ≡ d.token ∷ drop (suc i) (tokens_in ls)
cut ls d i lt is =
    let token : Lexeme → Token = λ (l : Lexeme). l.token in
    drop-map token i ls ∙ ap tokens_in (drop-cons ls i d lt) ∙ ap (λ (l : Lexeme). l.token ∷ tokens_in (drop (suc i) ls)) (sym is) ∙ ap (λ (ts : List Token). d.token ∷ ts) (sym (drop-map token (suc i) ls))

pub step_at : (ls : List Lexeme) (d : Lexeme) (i : ℕ) (r next : State) (whole : Reading) → i < length ls → d ≡ get_or ls i d → stepped r d.token ≡ Ok next
    → run i (drop i (tokens_in ls)) r ≡ whole → run (i + 1) (drop (i + 1) (tokens_in ls)) next ≡ whole
unfolding run
step_at ls d i r next whole lt is h so_far =
    let one : run i (drop i (tokens_in ls)) r ≡ run (suc i) (drop (suc i) (tokens_in ls)) next = rw (cut ls d i lt is, h) refl in
    rw add-one (sym one ∙ so_far)

-- the first token that isn't taken
pub fault_at : (ls : List Lexeme) (d : Lexeme) (i : ℕ) (r : State) (kind : RefusalKind) (whole : Reading) → i < length ls → d ≡ get_or ls i d → stepped r d.token ≡ Err kind
    → run i (drop i (tokens_in ls)) r ≡ whole → whole ≡ Err (kind, i)
unfolding run
fault_at ls d i r kind whole lt is h so_far =
    let one : run i (drop i (tokens_in ls)) r ≡ Err (kind, i) = rw (cut ls d i lt is, h) refl in
    sym so_far ∙ one

pub over_at : (ls : List Lexeme) (i : ℕ) (r : State) (whole : Reading) → i ≡ length ls → run i (drop i (tokens_in ls)) r ≡ whole → whole ≡ ended_at (length ls) (ended r)
unfolding run
over_at ls i r whole is so_far =
    let nothing : drop (length ls) (tokens_in ls) ≡ [] = drop-map (λ (l : Lexeme). l.token) (length ls) ls ∙ ap tokens_in (drop-length ls) in
    let one : run i (drop i (tokens_in ls)) r ≡ ended_at (length ls) (ended r) = rw (is, nothing) refl in
    sym so_far ∙ one
