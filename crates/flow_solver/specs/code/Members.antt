-- Members of sets, in the order in which they came.
use Rattle.std.specs.Prelude.{◌≡◌, ◌⊎◌, ℕ, List, ◌++◌}
use Rattle.std.specs.List.{All, Contains}
use Rattle.flow_sets.specs.declared.inclusion.FlowSet.{FlowSet}
use Rattle.flow_sets.specs.declared.inclusion.FlowSet.TheVariants.{Only}
use Rattle.flow_solver.specs.declared.members.Member.{Member}

-- ys are xs and further items, of each of which P holds
pub record Appends {X : Type 0} (P : X → Type 0) (xs ys : List X) : Type 0 where
  pub more : List X
  pub is : ys ≡ xs ++ more
  pub each : All P more

-- ys are xs, with x behind them where it is new
pub record Adds {X : Type 0} (x : X) (xs ys : List X) : Type 0 where
  pub grown : Appends (λ y. y ≡ x) xs ys
  pub there : Contains ys x

-- ys are xs, with what f makes of zs behind them where it is new
pub record AddsEach {X Z : Type 0} (f : Z → X) (zs : List Z) (xs ys : List X) : Type 0 where
  pub grown : Appends (λ y. (z : Z) × Contains zs z × (y ≡ f z)) xs ys
  pub there : (z : Z) → Contains zs z → Contains ys (f z)

-- a site is in a set by these members
abbrev pub IsIn : List Member → FlowSet → ℕ → Type 0
IsIn members X s = Contains members (record { set = X; site = s }) ⊎ (X ≡ Only s)
