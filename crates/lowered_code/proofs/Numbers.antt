-- Registers that are given out one after another.
use Rattle.std.proofs.Common.{◌≡◌, ℕ, zero, suc, ◌+◌, ◌<◌, List, [], ◌∷◌, ◌++◌, length, refl}
use Rattle.std.proofs.Common.{ap, ◌∙◌, arith}
use Rattle.lifted_program.proofs.Variables.{Out}
use Rattle.program_code.proofs.RegisterLemmas.{NoTwice}
use Rattle.program_code.specs.ProgramCode.{parameter_registers}
use Rattle.lowered_code.specs.Builder.{registers_from}

pub numbers_append : (k n m j : ℕ) → j ≡ k + n
    → registers_from k (n + m) ≡ registers_from k n ++ registers_from j m
numbers_append k zero m j e =
    let z : zero + m ≡ m = omega arith in
    let e' : k ≡ j = omega (arith, e) in
    ap (registers_from k) z ∙ ap (λ q. registers_from q m) e'
numbers_append k (suc n) m j e =
    let z : suc n + m ≡ suc (n + m) = omega arith in
    ap (registers_from k) z ∙ ap (◌∷◌ k) (numbers_append (suc k) n m j (omega (arith, e)))

-- the first of them
pub numbers_first : (k n m : ℕ) → n ≡ m + 1
    → registers_from k n ≡ k ∷ registers_from (k + 1) m
numbers_first k n m e =
    let a : n ≡ suc m = omega (arith, e) in
    let b : suc k ≡ k + 1 = omega arith in
    ap (registers_from k) a ∙ ap (λ q. k ∷ registers_from q m) b

pub length_numbers : (k n : ℕ) → length (registers_from k n) ≡ n
length_numbers k zero = refl
length_numbers k (suc n) = ap suc (length_numbers (suc k) n)

-- those of parameters
pub parameters_are : (k : ℕ) (xs : List ℕ)
    → parameter_registers k xs ≡ registers_from k (length xs)
parameters_are k [] = refl
parameters_are k (x ∷ xs) = ap (◌∷◌ k) (parameters_are (suc k) xs)

pub length_parameters : (k : ℕ) (xs : List ℕ) → length (parameter_registers k xs) ≡ length xs
length_parameters k [] = refl
length_parameters k (x ∷ xs) = ap suc (length_parameters (suc k) xs)

-- none stands twice

above : (q k n : ℕ) → q < k → Out q (registers_from k n)
above q k zero h = tt
above q k (suc n) h = (λ e. omega (arith, h, e), above q (suc k) n (omega (arith, h)))

pub numbers_once : (k n : ℕ) → NoTwice (registers_from k n)
numbers_once k zero = tt
numbers_once k (suc n) = (above k (suc k) n (omega arith), numbers_once (suc k) n)

-- one more, before others
pub counted : (n l k m : ℕ) → n ≡ l + m → l ≡ k + 1 → n ≡ k + suc m
counted n l k m e f = omega (arith, e, f)

pub one_less : (n m : ℕ) → suc n ≡ suc m → n ≡ m
one_less n m e = omega (arith, e)
