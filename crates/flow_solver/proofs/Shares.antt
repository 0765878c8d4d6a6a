-- Where each inclusion is in a share that has carried all members by it, the members are all of the
-- least sets.
use Rattle.std.proofs.Common.{◌≡◌, ℕ, List, refl, subst, inl, inr}
use Rattle.std.specs.List.{Contains}
use Rattle.flow_sets.specs.Least.{Flows, itself, along, by_field, by_any, by_each}
use Rattle.flow_sets.specs.declared.inclusion.FlowSet.{FlowSet}
use Rattle.flow_sets.specs.declared.inclusion.FlowSet.TheVariants.{Field}
use Rattle.flow_sets.specs.declared.inclusion.Inclusion.{Inclusion}
use Rattle.flow_sets.specs.declared.inclusion.Inclusion.TheVariants.{Whole, Part, Parts}
use Rattle.flow_solver.specs.declared.fields.FieldSet.{FieldSet}
use Rattle.flow_solver.specs.declared.fields.FieldSet.TheVariants.{One, All}
use Rattle.flow_solver.specs.declared.members.Member.{Member}
use Rattle.flow_solver.specs.code.Tables.{State}
use Rattle.flow_solver.specs.code.Carries.{Followed, Passed}
use Rattle.flow_solver.specs.code.Members.{IsIn}
use Rattle.flow_solver.specs.code.Readers.{source}

module _ (members : List Member) where
  -- a share with these members has carried them to their fields, and by this inclusion
  pub record HasCarried (w : State) (r : Inclusion) : Type 0 where
    pub same : w.members ≡ members
    pub joined : (p : FieldSet) (s : ℕ) (to : FlowSet) → Contains (w.sites p) s
        → Contains (w.targets p) to → Contains w.members (record { set = to; site = s })
    pub passed : (s field t : ℕ) → IsIn members (Field s field) t → Passed w (Field s field) t
    pub followed : (s : ℕ) → IsIn members (source r) s → Followed w r s

  module _ (given : Inclusion → Type 0)
      (shared : (r : Inclusion) → given r → (w : State) × HasCarried w r) where
    there : (w : State) (to : FlowSet) (s : ℕ) → w.members ≡ members
        → Contains w.members (record { set = to; site = s }) → IsIn members to s
    there w to s e h = inl (subst (λ ms. Contains ms (record { set = to; site = s })) e h)

    pub complete-by-shares : {X : FlowSet} {s : ℕ} → Flows given X s → IsIn members X s
    complete-by-shares itself = inr refl
    complete-by-shares (along {from} {to} {s} g d) =
        let h = shared (Whole from to) g in
        let k = h.1 in
        there h.0 to s k.same (k.followed s (complete-by-shares d))
    complete-by-shares (by_field {base} {to} {field} {s} {t} g d e) =
        let h = shared (Part base field to) g in
        let k = h.1 in
        there h.0 to t k.same
        (k.joined (One s field) t to (k.passed s field t (complete-by-shares e)).0
        (k.followed s (complete-by-shares d)).0)
    complete-by-shares (by_any {base} {to} {field} {s} {t} g d e) =
        let h = shared (Part base field to) g in
        let k = h.1 in
        there h.0 to t k.same
        (k.joined (One s 0) t to (k.passed s 0 t (complete-by-shares e)).0
        (k.followed s (complete-by-shares d)).1)
    complete-by-shares (by_each {base} {to} {field} {s} {t} g d e) =
        let h = shared (Parts base to) g in
        let k = h.1 in
        there h.0 to t k.same
        (k.joined (All s) t to (k.passed s field t (complete-by-shares e)).1
        (k.followed s (complete-by-shares d)))
