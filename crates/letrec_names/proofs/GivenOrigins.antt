-- Origins, put behind others one after another.
use Rattle.std.proofs.Common.{◌≡◌, ℕ, suc, ◌+◌, ◌-◌, ◌<◌, List, [], ◌∷◌, ◌++◌, length, replicate}
use Rattle.std.proofs.Common.{ap, ◌∙◌, arith, append_assoc}
use Rattle.std.proofs.lemmas.List.{replicate-append-replicate}
use Rattle.hy_core.specs.Syntax.{Syntax}
use Rattle.lifted_syntax.specs.LiftedSyntax.{count}
use Rattle.letrec_names.specs.Origins.{upwards}
use Rattle.letrec_names.specs.code.Passed.{passed}
use Rattle.letrec_names.proofs.Passing.{counts_length, passed_is}

-- once more
pub once_more : (xs : List ℕ) (n k : ℕ) → (xs ++ replicate n k) ++ k ∷ [] ≡ xs ++ replicate (n + 1) k
once_more xs n k =
    append_assoc xs (replicate n k) (k ∷ []) ∙ ap (λ ys. xs ++ ys) (replicate-append-replicate n 1 k)

-- the next of so many numbers
pub next_number : (xs : List ℕ) (k many : ℕ) → k < many
    → (xs ++ k ∷ []) ++ upwards (k + 1) (many - (k + 1)) ≡ xs ++ upwards k (many - k)
next_number xs k many below =
    let next : k + 1 ≡ suc k = omega arith in
    let left : suc (many - (k + 1)) ≡ many - k = omega (arith, below) in
    append_assoc xs (k ∷ []) (upwards (k + 1) (many - (k + 1)))
    ∙ ap (λ (n : ℕ). xs ++ k ∷ upwards n (many - (k + 1))) next
    ∙ ap (λ (n : ℕ). xs ++ upwards k n) left

-- as many counts are passed as functions stand in the text
pub passed_length : (e : Syntax) → length (passed [] e) ≡ count e
passed_length e = ap length (passed_is e []) ∙ counts_length e
