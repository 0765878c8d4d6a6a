-- Registers one after another.
use Rattle.std.proofs.Common.{◌≡◌, ℕ, zero, suc, ◌+◌, List, [], ◌∷◌, ◌++◌, arith, ap, ◌∙◌}
use Rattle.lowered_code.specs.Builder.{registers_from}

pub registers_more : (k n m : ℕ) → m ≡ k + n → registers_from k (n + 1) ≡ registers_from k n ++ m ∷ []
registers_more k zero m e = let e' : k ≡ m = omega (arith, e) in ap (λ x. x ∷ []) e'
registers_more k (suc n) m e =
    let e' : suc n + 1 ≡ suc (n + 1) = omega arith in
    ap (registers_from k) e' ∙ ap (◌∷◌ k) (registers_more (suc k) n m (omega (arith, e)))
