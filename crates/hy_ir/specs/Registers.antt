-- The registers of a function that is carried out: each holds a labelled term. This project's own.
use Rattle.std.specs.Prelude.{ℕ, ◌==◌, List, [], ◌∷◌, if◌then◌else◌, slice_index_or}
use Rattle.hy_terms.specs.Labelled.{Labelled, Nil}

abbrev pub Registers : Type 0
Registers = ℕ → Labelled

-- the first registers hold the arguments; a register that nothing has written holds nil
abbrev pub entering : (arguments : List Labelled) → Registers
entering ts r = slice_index_or ts r Nil

abbrev pub set : ℕ → Labelled → Registers → Registers
set out t regs r = if r == out then t else regs r

abbrev pub gets : List ℕ → Registers → List Labelled
gets [] regs = []
gets (r ∷ rs) regs = regs r ∷ gets rs regs

-- one value for each register, in order
abbrev pub sets : List ℕ → List Labelled → Registers → Registers
sets [] ts regs = regs
sets (r ∷ rs) [] regs = regs
sets (r ∷ rs) (t ∷ ts) regs = sets rs ts (set r t regs)
