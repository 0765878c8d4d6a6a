-- Registers: what a write changes, and lists of registers with none in common.
use Rattle.std.proofs.Common.{◌≡◌, ◌≢◌, ℕ, zero, suc, List, [], ◌∷◌, ◌++◌, length, true, false}
use Rattle.std.proofs.Common.{refl, sym, ap, ◌∙◌}
use Rattle.std.specs.Prelude.{◌==◌, if◌then◌else◌}
use Rattle.std.specs.List.{AllByRecursion, IsDistinct}
use Rattle.std.proofs.lemmas.Bool.{eq-eqb, ne_eqb}
use Rattle.hy_terms.specs.Labelled.{Labelled}
use Rattle.hy_ir.specs.Registers.{Registers, set, gets, sets}
use Rattle.lifted_program.proofs.Variables.{Out, AllOut}

pub set_same : (r : ℕ) (t : Labelled) (regs : Registers) → set r t regs r ≡ t
set_same r t regs = ap (λ b. if b then t else regs r) (eq-eqb r r refl)

pub set_other : (r q : ℕ) (t : Labelled) (regs : Registers) → q ≢ r → set r t regs q ≡ regs q
set_other r q t regs h = ap (λ b. if b then t else regs q) (ne_eqb q r h)

-- no register stands twice
abbrev pub NoTwice : List ℕ → Type 0
NoTwice [] = Unit {0}
NoTwice (w ∷ ws) = Out w ws × NoTwice ws

-- the other registers keep their terms
abbrev pub Keeps : List ℕ → Registers → Registers → Type 0
Keeps ws regs regs' = (q : ℕ) → Out q ws → regs' q ≡ regs q

pub out_front : (q : ℕ) (a b : List ℕ) → Out q (a ++ b) → Out q a
out_front q [] b h = tt
out_front q (w ∷ a) b h = (h.0, out_front q a b h.1)

pub out_back : (q : ℕ) (a b : List ℕ) → Out q (a ++ b) → Out q b
out_back q [] b h = h
out_back q (w ∷ a) b h = out_back q a b h.1

pub all_front : (rs a b : List ℕ) → AllOut rs (a ++ b) → AllOut rs a
all_front [] a b h = tt
all_front (r ∷ rs) a b h = (out_front r a b h.0, all_front rs a b h.1)

pub all_back : (rs a b : List ℕ) → AllOut rs (a ++ b) → AllOut rs b
all_back [] a b h = tt
all_back (r ∷ rs) a b h = (out_back r a b h.0, all_back rs a b h.1)

pub twice_front : (a b : List ℕ) → NoTwice (a ++ b) → NoTwice a
twice_front [] b h = tt
twice_front (w ∷ a) b h = (out_front w a b h.0, twice_front a b h.1)

pub twice_back : (a b : List ℕ) → NoTwice (a ++ b) → NoTwice b
twice_back [] b h = h
twice_back (w ∷ a) b h = twice_back a b h.1

pub twice_apart : (a b : List ℕ) → NoTwice (a ++ b) → AllOut a b
twice_apart [] b h = tt
twice_apart (w ∷ a) b h = (out_back w a b h.0, twice_apart a b h.1)

-- a list without one register twice

other_register : (q w : ℕ) → (q == w) ≡ false → q ≢ w
other_register q w e h = not_false (sym (eq-eqb q w h) ∙ e)
  where
    not_false : true ≡ false → ⊥
    not_false p = cc

all_others : (q : ℕ) (ws : List ℕ) → AllByRecursion (λ w. (q == w) ≡ false) ws → Out q ws
all_others q [] h = tt
all_others q (w ∷ ws) h = (other_register q w h.0, all_others q ws h.1)

pub no_twice : (ws : List ℕ) → IsDistinct ◌==◌ ws → NoTwice ws
unfolding IsDistinct
no_twice [] h = tt
no_twice (w ∷ ws) h = (all_others w ws h.0, no_twice ws h.1)

-- what is kept

pub gets_keep : (rs ws : List ℕ) (regs regs' : Registers) → AllOut rs ws → Keeps ws regs regs'
    → gets rs regs' ≡ gets rs regs
gets_keep [] ws regs regs' h k = refl
gets_keep (r ∷ rs) ws regs regs' h k = λ i. k r h.0 i ∷ gets_keep rs ws regs regs' h.1 k i

pub keeps_on : (a b : List ℕ) (x y z : Registers) → Keeps a x y → Keeps b y z → Keeps (a ++ b) x z
keeps_on a b x y z h k = λ q o. k q (out_back q a b o) ∙ h q (out_front q a b o)

pub keeps_left : (a b : List ℕ) (x y : Registers) → Keeps a x y → Keeps (a ++ b) x y
keeps_left a b x y k = λ q o. k q (out_front q a b o)

pub keeps_set : (r : ℕ) (t : Labelled) (regs : Registers) → Keeps (r ∷ []) regs (set r t regs)
keeps_set r t regs = λ q o. set_other r q t regs o.0

pub gets_append : (rs ss : List ℕ) (regs : Registers)
    → gets (rs ++ ss) regs ≡ gets rs regs ++ gets ss regs
gets_append [] ss regs = refl
gets_append (r ∷ rs) ss regs = ap (◌∷◌ (regs r)) (gets_append rs ss regs)

-- a list of registers is filled
pub keeps_sets : (rs : List ℕ) (ts : List Labelled) (regs : Registers)
    → Keeps rs regs (sets rs ts regs)
keeps_sets [] ts regs = λ q o. refl
keeps_sets (r ∷ rs) [] regs = λ q o. refl
keeps_sets (r ∷ rs) (t ∷ ts) regs = λ q o. keeps_sets rs ts (set r t regs) q o.1 ∙ set_other r q t
    regs o.0

pub gets_sets : (rs : List ℕ) (ts : List Labelled) (regs : Registers) → length ts ≡ length rs
    → NoTwice rs → gets rs (sets rs ts regs) ≡ ts
gets_sets [] [] regs e h = refl
gets_sets [] (t ∷ ts) regs e h = absurd (suc_zero e)
  where
    suc_zero : {n : ℕ} → suc n ≡ zero → ⊥
    suc_zero p = cc
gets_sets (r ∷ rs) [] regs e h = absurd (zero_suc e)
  where
    zero_suc : {n : ℕ} → zero ≡ suc n → ⊥
    zero_suc p = cc
gets_sets (r ∷ rs) (t ∷ ts) regs e h =
    let here = keeps_sets rs ts (set r t regs) r h.0 ∙ set_same r t regs in
    let less : length ts ≡ length rs = cc in
    λ i. here i ∷ gets_sets rs ts (set r t regs) less h.1 i
