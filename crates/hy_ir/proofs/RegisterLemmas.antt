-- Registers read in order are as many as their numbers.
use Rattle.std.proofs.Common.{◌≡◌, ℕ, suc, List, [], ◌∷◌, length, refl, ap}
use Rattle.hy_ir.specs.Registers.{Registers, gets}

pub gets_length : (rs : List ℕ) (regs : Registers) → length (gets rs regs) ≡ length rs
gets_length [] regs = refl
gets_length (r ∷ rs) regs = ap suc (gets_length rs regs)
