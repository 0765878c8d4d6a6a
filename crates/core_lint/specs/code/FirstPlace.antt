-- The first place of a list at which a test holds, and the first fault of modules one after
-- another.
use Rattle.std.specs.Prelude.{ℕ, suc, Bool, if◌then◌else◌, List, [], ◌∷◌, Option, Some, None}
use Rattle.hy_core.specs.declared.fault.LintFault.{LintFault}
use Rattle.hy_core.specs.declared.tree.Module.{Module}
use Rattle.core_walk.specs.First.{or_later}

-- from place k on
abbrev pub first_where : {A : Type 0} → (ℕ → A → Bool) → (k : ℕ) → List A → Option ℕ
first_where test k [] = None
first_where test k (x ∷ xs) = if test k x then Some k else first_where test (suc k) xs

-- the fault of a place, where there is one
abbrev pub fault_at : (ℕ → LintFault) → Option ℕ → Option LintFault
fault_at fault None = None
fault_at fault (Some k) = Some (fault k)

-- the first fault in modules, from place i on, by what is the first in each
abbrev pub first_by_module : (ℕ → Module → Option LintFault) → (i : ℕ) → List Module
    → Option LintFault
first_by_module first i [] = None
first_by_module first i (m ∷ ms) = or_later (first i m) (first_by_module first (suc i) ms)
