-- What the steps of the worklist change.
use Rattle.std.specs.Prelude.{◌≡◌, ℕ, [], ◌∷◌, ◌++◌, if◌then◌else◌}
use Rattle.flow_sets.specs.declared.inclusion.FlowSet.{FlowSet}
use Rattle.flow_sets.specs.declared.inclusion.FlowSet.TheVariants.{Field}
use Rattle.flow_sets.specs.declared.inclusion.Inclusion.{Inclusion}
use Rattle.flow_sets.specs.declared.inclusion.Inclusion.TheVariants.{Whole, Part, Parts}
use Rattle.flow_solver.specs.declared.fields.FieldSet.{FieldSet}
use Rattle.flow_solver.specs.declared.fields.FieldSet.TheVariants.{One, All}
use Rattle.flow_solver.specs.code.Tables.{State}
use Rattle.flow_solver.specs.code.Members.{Adds, AddsEach}
use Rattle.flow_solver.specs.code.Tables.{is_fields}

-- the fields go into one set more, and so do the sites that they have
pub record Links (p : FieldSet) (to : FlowSet) (w w' : State) : Type 0 where
  pub members : AddsEach (λ s. record { set = to; site = s }) (w.sites p) w.members w'.members
  pub targets : (q : FieldSet) → w'.targets q
      ≡ (if is_fields p q then w.targets q ++ to ∷ [] else w.targets q)
  pub sites : w'.sites ≡ w.sites

-- the fields have one site more, and so have the sets that they go into
pub record Passes (p : FieldSet) (s : ℕ) (w w' : State) : Type 0 where
  pub members : AddsEach (λ to. record { set = to; site = s }) (w.targets p) w.members w'.members
  pub sites : (q : FieldSet) → w'.sites q
      ≡ (if is_fields p q then w.sites q ++ s ∷ [] else w.sites q)
  pub targets : w'.targets ≡ w.targets

-- one member more
pub record AddsTo (X : FlowSet) (s : ℕ) (w w' : State) : Type 0 where
  pub members : Adds (record { set = X; site = s }) w.members w'.members
  pub sites : w'.sites ≡ w.sites
  pub targets : w'.targets ≡ w.targets

-- a site of the set that the inclusion reads is carried by it
abbrev pub FollowsBy : Inclusion → ℕ → State → State → Type 0
FollowsBy (Whole from to) s w w' = AddsTo to s w w'
FollowsBy (Part base field to) s w w' =
    (v : State) × Links (One s field) to w v × Links (One s 0) to v w'
FollowsBy (Parts base to) s w w' = Links (All s) to w w'

-- a site of a set of fields is carried to what reads the fields
abbrev pub PassesOn : FlowSet → ℕ → State → State → Type 0
PassesOn (Field s field) t w w' = (v : State) × Passes (One s field) t w v × Passes (All s) t v w'
PassesOn X t w w' = w' ≡ w
