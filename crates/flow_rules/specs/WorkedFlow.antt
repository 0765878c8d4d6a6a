-- The flow of the program whose state is passed round, site by site.
use Rattle.std.specs.Prelude.{◌≡◌, ◌⊎◌, ◌↔◌, ℕ, List, [], ◌∷◌, Contains}
use Rattle.flow_sets.specs.declared.inclusion.FlowSet.{FlowSet}
use Rattle.flow_sets.specs.declared.inclusion.FlowSet.TheVariants.{Only, Register, Result, Field}
use Rattle.flow_sets.specs.declared.inclusion.FlowSet.TheVariants.{Message, Sent}
use Rattle.hy_ir.specs.Inclusions.{FlowOf}
use Rattle.hy_ir.specs.WorkedCodes.{loop_code}

-- a site is in a set
pub record Place : Type 0 where
  pub set : FlowSet
  pub site : ℕ

abbrev pub at : FlowSet → (site : ℕ) → Place
at X s = record { set = X; site = s }

-- in the two functions of the program; both states are sent
abbrev pub own_places : List Place
own_places =
    at (Register 0 3) 0 ∷ at (Register 1 10) 1 ∷ at (Register 1 1) 0 ∷ at (Register 1 1) 1
    ∷ at (Register 1 4) 0 ∷ at (Register 1 4) 1 ∷ at (Result 1) 0 ∷ at (Result 1) 1
    ∷ at (Result 0) 0 ∷ at (Result 0) 1 ∷ at Message 0 ∷ at Message 1 ∷ at Sent 0 ∷ at Sent 1 ∷ []

-- in the functions that each program has, which this one does not call
abbrev pub loop_places : List Place
loop_places =
    at (Register 2 7) 2 ∷ at (Result 2) 2 ∷ at (Register 2 6) 2 ∷ at (Field 2 2) 2
    ∷ at (Result 5) 2 ∷ at (Register 4 6) 3 ∷ at (Register 4 1) 3 ∷ at (Field 3 2) 3
    ∷ at (Result 4) 3 ∷ at (Result 3) 3 ∷ own_places

abbrev pub WorkedFlow : Type 0
WorkedFlow =
    (X : FlowSet) (s : ℕ)
    → FlowOf loop_code.functions X s ↔ ((X ≡ Only s) ⊎ Contains loop_places (at X s))
