-- The least sets of sites that are closed under inclusions. This project's own.
use Rattle.std.specs.Prelude.{ℕ}
use Rattle.flow_sets.specs.declared.inclusion.FlowSet.{FlowSet}
use Rattle.flow_sets.specs.declared.inclusion.FlowSet.TheVariants.{Only, Field}
use Rattle.flow_sets.specs.declared.inclusion.Inclusion.{Inclusion}
use Rattle.flow_sets.specs.declared.inclusion.Inclusion.TheVariants.{Whole, Part, Parts}

-- a site is in a set of the least family that is closed under the given inclusions
pub data Flows (given : Inclusion → Type 0) : FlowSet → (site : ℕ) → Type 0 where
  itself : {s : ℕ} → Flows given (Only s) s
  along : {from to : FlowSet} {s : ℕ} → given (Whole from to) → Flows given from s
      → Flows given to s
  by_field : {base to : FlowSet} {field s t : ℕ} → given (Part base field to)
      → Flows given base s → Flows given (Field s field) t → Flows given to t
  by_any : {base to : FlowSet} {field s t : ℕ} → given (Part base field to)
      → Flows given base s → Flows given (Field s 0) t → Flows given to t
  by_each : {base to : FlowSet} {field s t : ℕ} → given (Parts base to)
      → Flows given base s → Flows given (Field s field) t → Flows given to t

-- a family of sets: which sites are in which set
abbrev pub Family : Type 1
Family = FlowSet → (site : ℕ) → Type 0

-- an inclusion holds in a family
abbrev pub Closes : Family → Inclusion → Type 0
Closes F (Whole from to) = (s : ℕ) → F from s → F to s
Closes F (Part base field to) =
    (s t : ℕ) → F base s → (F (Field s field) t → F to t) × (F (Field s 0) t → F to t)
Closes F (Parts base to) = (s field t : ℕ) → F base s → F (Field s field) t → F to t

-- a family is closed under the given inclusions, and has the sets of one site
pub record IsClosed (given : Inclusion → Type 0) (F : Family) : Type 0 where
  pub itself : (s : ℕ) → F (Only s) s
  pub closes : (i : Inclusion) → given i → Closes F i
