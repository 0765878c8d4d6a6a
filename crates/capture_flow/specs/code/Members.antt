-- Members, in the order in which they came.
use Rattle.std.specs.Prelude.{◌≡◌, ℕ, ◌≤◌, nat_le, List, ◌++◌, if◌then◌else◌}
use Rattle.std.specs.List.{Contains}
use Rattle.indexmap.specs.IndexMap.{IndexMap}
use Rattle.indexmap.specs.IndexSet.{insert_key}
use Rattle.capture_flow.specs.Least.{is_member}
use Rattle.capture_flow.specs.code.Edges.{edges_at}
use Rattle.capture_flow.specs.declared.fact.Edge.{Edge}
use Rattle.capture_flow.specs.declared.fact.Fact.{Fact}
use Rattle.capture_flow.specs.declared.fact.Fact.TheVariants.{Occurs, Uses}
use Rattle.capture_flow.specs.declared.fact.Member.{Member}

-- with the member of a fact
abbrev pub seeded : List Member → Fact → List Member
seeded ms (Occurs m) = insert_key is_member ms m
seeded ms (Uses e) = ms

-- what a function has by a member of one that it uses
abbrev pub moved : Member → Edge → Member
moved m e = record { function = e.function; variable = m.variable; place = m.place }

abbrev pub passed : Member → List Member → Edge → List Member
passed m ms e = if nat_le m.place e.depth then insert_key is_member ms (moved m e) else ms

-- ys are xs and further items
pub record Extends {X : Type 0} (xs ys : List X) : Type 0 where
  pub more : List X
  pub is : ys ≡ xs ++ more

module _ {S : Type 0} (edges : IndexMap ℕ (List Edge) S) where
  -- the facts of these edges and members
  abbrev pub Given : List Member → Fact → Type 0
  Given ms (Occurs m) = Contains ms m
  Given ms (Uses e) =
      (a : Edge) × Contains (edges_at edges e.used) a × (a.function ≡ e.function)
      × (a.depth ≡ e.depth)

  -- a member has been carried along each edge
  abbrev pub IsCarried : List Member → Member → Type 0
  IsCarried ms m =
      (e : Edge) → Contains (edges_at edges m.function) e → m.place ≤ e.depth
      → Contains ms (moved m e)
