-- Back in a scope that was left.
use Rattle.std.proofs.Common.{◌≡◌, ℕ, ◌-◌, List, [], ◌∷◌, ◌++◌, length, drop, ap, refl, ◌∙◌, arith}
use Rattle.std.proofs.Common.{length-append}
use Rattle.hy_core.specs.Scopes.{Scope}
use Rattle.captured_facts.proofs.Places.{Within}

pub behind_front : {A : Type 0} (n : ℕ) (front s : List A) → n ≡ length front
    → drop n (front ++ s) ≡ s
behind_front n [] s h = ap (λ n. drop n s) h
behind_front n (x ∷ front) s h =
    ap (λ n. drop n (x ∷ front ++ s)) h ∙ behind_front (length front) front s refl

-- back in the scope that another one goes on from
pub back_within : {s t : Scope} → Within s t → drop (length t - length s) t ≡ s
back_within {s} w =
    let sum = length-append w.front s in
    ap (λ t. drop (length t - length s) t) w.is
    ∙ behind_front (length (w.front ++ s) - length s) w.front s (omega (arith, sum))
