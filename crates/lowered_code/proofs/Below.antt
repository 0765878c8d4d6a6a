-- Registers that are in use: those below the next one.
use Rattle.std.proofs.Common.{◌≡◌, ℕ, zero, suc, ◌+◌, ◌<◌, ◌≤◌, List, [], ◌∷◌, ◌++◌, length, Bool}
use Rattle.std.proofs.Common.{Some, true, false, true≢false, sym, arith}
use Rattle.std.specs.Prelude.{◌==◌, ◌||◌, if◌then◌else◌, unwrap_or}
use Rattle.std.specs.List.{All}
use Rattle.std.proofs.lemmas.List.Elements.{All-nil, All-cons, All-head, All-tail, All-push}
use Rattle.std.proofs.lemmas.List.Elements.{All-append, All-weaker}
use Rattle.hy_core.specs.Scopes.{is_bound}
use Rattle.program_code.specs.HeldRegisters.{Held, register_of}
use Rattle.program_code.specs.ProgramCode.{parameter_registers}
use Rattle.lowered_code.specs.Builder.{registers_from, first, rest}
use Rattle.lowered_code.specs.LoweredGuards.{bound_to, register_in}
use Rattle.lowered_code.proofs.Numbers.{one_less}
use Rattle.lowered_code.proofs.Tests.{variables_of}

abbrev pub AllBelow : ℕ → List ℕ → Type 0
AllBelow m rs = All (λ r. r < m) rs

pub below_none : (m : ℕ) → AllBelow m []
below_none m = All-nil (λ r. r < m)

pub below_more : (m n : ℕ) (rs : List ℕ) → m ≤ n → AllBelow m rs → AllBelow n rs
below_more m n rs h all = All-weaker (λ r. r < m) (λ r. r < n) (λ r less. omega (arith, h, less)) rs
    all

pub below_push : (m : ℕ) (rs : List ℕ) (r : ℕ) → AllBelow m rs → r < m → AllBelow m (rs ++ r ∷ [])
below_push m rs r h less = All-push (λ q. q < m) rs r h less

pub below_both : (m : ℕ) (rs ss : List ℕ) → AllBelow m rs → AllBelow m ss → AllBelow m (rs ++ ss)
below_both m rs ss h k = All-append (λ r. r < m) rs ss h k

pub below_cons : (m r : ℕ) (rs : List ℕ) → r < m → AllBelow m rs → AllBelow m (r ∷ rs)
below_cons m r rs h k = All-cons (λ q. q < m) r rs h k

pub numbers_below : (k n m : ℕ) → k + n ≤ m → AllBelow m (registers_from k n)
numbers_below k zero m h = below_none m
numbers_below k (suc n) m h =
    below_cons m k (registers_from (suc k) n) (omega (arith, h))
    (numbers_below (suc k) n m (omega (arith, h)))

pub first_below : (m : ℕ) (rs : List ℕ) → 1 ≤ length rs → AllBelow m rs → first rs < m
first_below m [] h k = absurd (no h)
  where
    no : 1 ≤ zero → ⊥
    no e = omega (arith, e)
first_below m (r ∷ rs) h k = All-head (λ q. q < m) r rs k

pub rest_below : (m : ℕ) (rs : List ℕ) → AllBelow m rs → AllBelow m (rest rs)
rest_below m [] k = k
rest_below m (r ∷ rs) k = All-tail (λ q. q < m) r rs k

pub rest_length : (n : ℕ) (rs : List ℕ) → suc n ≤ length rs → n ≤ length (rest rs)
rest_length n [] h = absurd (no h)
  where
    no : suc n ≤ zero → ⊥
    no e = omega (arith, e)
rest_length n (r ∷ rs) h = omega (arith, h)

-- the registers of variables

abbrev pub HeldBelow : ℕ → Held → Type 0
HeldBelow m [] = Unit {0}
HeldBelow m (b ∷ held) = (b.1 < m) × HeldBelow m held

pub held_more : (m n : ℕ) (held : Held) → m ≤ n → HeldBelow m held → HeldBelow n held
held_more m n [] h k = tt
held_more m n (b ∷ held) h k =
    let less = k.0 in (omega (arith, h, less), held_more m n held h k.1)

pub found_below : (m x : ℕ) (held : Held) → is_bound x (variables_of held) ≡ true
    → HeldBelow m held → register_in held x < m
found_below m x [] h k = absurd (true≢false (sym h))
found_below m x (b ∷ held) h k = go (λ p. found_below m x held p k.1) (x == b.0) h
  where
    go : (is_bound x (variables_of held) ≡ true → register_in held x < m) → (c : Bool)
        → (c || is_bound x (variables_of held)) ≡ true
        → unwrap_or (if c then Some b.1 else register_of x held) 0 < m
    go others true p = k.0
    go others false p = others p

pub bound_below : (m : ℕ) (xs rs : List ℕ) (held : Held) → length rs ≡ length xs
    → AllBelow m rs → HeldBelow m held → HeldBelow m (bound_to xs rs held)
bound_below m [] rs held e h k = k
bound_below m (x ∷ xs) [] held e h k = absurd (no (length xs) e)
  where
    no : (n : ℕ) → zero ≡ suc n → ⊥
    no n h = omega (arith, h)
bound_below m (x ∷ xs) (r ∷ rs) held e h k =
    bound_below m xs rs ((x, r) ∷ held) (one_less (length rs) (length xs) e)
    (All-tail (λ q. q < m) r rs h) (All-head (λ q. q < m) r rs h, k)

pub parameters_below : (k m : ℕ) (xs : List ℕ) → k + length xs ≤ m
    → AllBelow m (parameter_registers k xs)
parameters_below k m [] h = below_none m
parameters_below k m (x ∷ xs) h =
    below_cons m k (parameter_registers (suc k) xs) (omega (arith, h))
    (parameters_below (suc k) m xs (omega (arith, h)))
