-- What stays true of the worklist, and what carrying a member achieves.
use Rattle.std.specs.Prelude.{◌≡◌, ℕ, List}
use Rattle.std.specs.List.{All as Each, Contains}
use Rattle.flow_sets.specs.Least.{Flows}
use Rattle.flow_sets.specs.declared.inclusion.FlowSet.{FlowSet}
use Rattle.flow_sets.specs.declared.inclusion.FlowSet.TheVariants.{Field}
use Rattle.flow_sets.specs.declared.inclusion.Inclusion.{Inclusion}
use Rattle.flow_sets.specs.declared.inclusion.Inclusion.TheVariants.{Whole, Part, Parts}
use Rattle.indexmap.specs.IndexMap.{IndexMap}
use Rattle.flow_solver.specs.declared.fields.FieldSet.{FieldSet}
use Rattle.flow_solver.specs.declared.fields.FieldSet.TheVariants.{One, All}
use Rattle.flow_solver.specs.declared.members.Member.{Member}
use Rattle.flow_solver.specs.code.Tables.{State}
use Rattle.flow_solver.specs.code.Lists.{listed}
use Rattle.flow_solver.specs.code.Members.{Appends}
use Rattle.flow_solver.specs.code.Readers.{is_set, source}

module _ {S : Type 0} (readers : IndexMap FlowSet (List Inclusion) S) where
  -- an inclusion is among the readers of its set
  abbrev pub Reads : Inclusion → Type 0
  Reads r = Contains (listed is_set readers (source r)) r

  -- and of no other set
  abbrev pub AreIndexed : Type 0
  AreIndexed = (X : FlowSet) (r : Inclusion) → Contains (listed is_set readers X) r → source r ≡ X

module _ (given : Inclusion → Type 0) where
  -- a site is in one of the fields
  abbrev pub Held : FieldSet → ℕ → Type 0
  Held (One s field) t = Flows given (Field s field) t
  Held (All s) t = (field : ℕ) × Flows given (Field s field) t

  -- nothing is in a set without cause, and the sites of fields are in the sets that the fields go
  -- into
  pub record Steady (w : State) : Type 0 where
    pub sound : Each (λ m. Flows given m.set m.site) w.members
    pub valid : (p : FieldSet) (to : FlowSet) → Contains (w.targets p) to → (t : ℕ) → Held p t
        → Flows given to t
    pub held : (p : FieldSet) (s : ℕ) → Contains (w.sites p) s → Held p s
    pub joined : (p : FieldSet) (s : ℕ) (to : FlowSet) → Contains (w.sites p) s
        → Contains (w.targets p) to → Contains w.members (record { set = to; site = s })

-- nothing is lost, and members keep their places
pub record Grows (w w' : State) : Type 0 where
  pub members : Appends (λ _. Unit {0}) w.members w'.members
  pub targets : (p : FieldSet) (to : FlowSet) → Contains (w.targets p) to
      → Contains (w'.targets p) to
  pub sites : (p : FieldSet) (s : ℕ) → Contains (w.sites p) s → Contains (w'.sites p) s

-- a site of the set that the inclusion reads has been carried by it
abbrev pub Followed : State → Inclusion → ℕ → Type 0
Followed w (Whole from to) s = Contains w.members (record { set = to; site = s })
Followed w (Part base field to) s =
    Contains (w.targets (One s field)) to × Contains (w.targets (One s 0)) to
Followed w (Parts base to) s = Contains (w.targets (All s)) to

-- a site of a set of fields has been carried to the fields
abbrev pub Passed : State → FlowSet → ℕ → Type 0
Passed w (Field s field) t = Contains (w.sites (One s field)) t × Contains (w.sites (All s)) t
Passed w X t = Unit {0}

-- a member has been carried on
pub record Carried {S : Type 0} (readers : IndexMap FlowSet (List Inclusion) S) (w : State)
    (m : Member) : Type 0 where
  pub followed : (r : Inclusion) → Contains (listed is_set readers m.set) r → Followed w r m.site
  pub passed : Passed w m.set m.site
