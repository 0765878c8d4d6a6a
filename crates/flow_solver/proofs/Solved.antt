-- Where all members are carried, they are those of the least sets.
use Rattle.std.proofs.Common.{◌≡◌, ◌⊎◌, ◌↔◌, ℕ, ◌+◌, ◌<◌, ◌≤◌, List, [], ◌∷◌, ◌++◌, length, take}
use Rattle.std.proofs.Common.{get_or, filter, refl, sym, ap, ◌∙◌, subst, inl, inr}
use Rattle.std.specs.List.{All as Each, Contains}
use Rattle.std.proofs.lemmas.List.{take_more, take_all, flat_map_more}
use Rattle.std.proofs.lemmas.List.Elements.{All-contains, All-nil, Contains-append_left}
use Rattle.std.proofs.lemmas.List.Elements.{Contains-append_right, Contains-append_cases}
use Rattle.flow_sets.specs.Least.{Flows, itself, along, by_field, by_any, by_each}
use Rattle.flow_sets.specs.declared.inclusion.FlowSet.{FlowSet}
use Rattle.flow_sets.specs.declared.inclusion.FlowSet.TheVariants.{Only, Register, Result, Field}
use Rattle.flow_sets.specs.declared.inclusion.FlowSet.TheVariants.{Message, Sent}
use Rattle.flow_sets.specs.declared.inclusion.Inclusion.{Inclusion}
use Rattle.indexmap.specs.IndexMap.{IndexMap}
use Rattle.flow_solver.specs.declared.fields.FieldSet.{FieldSet}
use Rattle.flow_solver.specs.declared.members.Member.{Member}
use Rattle.flow_solver.specs.code.Tables.{State}
use Rattle.flow_solver.specs.code.Carries.{Steady, Carried, Followed, Passed, Reads, AreIndexed}
use Rattle.flow_solver.specs.code.Lists.{listed}
use Rattle.flow_solver.specs.code.Members.{IsIn, AddsEach}
use Rattle.flow_solver.specs.code.Readers.{is_set, source, seeds, seed_of}
use Rattle.flow_solver.proofs.Appending.{adds_each-append, appends-all, appends-weaker}
use Rattle.flow_solver.proofs.Appending.{contains-nil, contains-filtered, contains-filter}
use Rattle.flow_solver.proofs.Appending.{contains-cons_cases, contains-head}
use Rattle.flow_solver.proofs.Shares.{complete-by-shares}
use Rattle.flow_solver.proofs.Same.{is_set-same, is_set-itself}

pub flows-weaker : {A B : Inclusion → Type 0} → ((r : Inclusion) → A r → B r)
    → {X : FlowSet} {s : ℕ} → Flows A X s → Flows B X s
flows-weaker f itself = itself
flows-weaker f (along g d) = along (f _ g) (flows-weaker f d)
flows-weaker f (by_field g d e) = by_field (f _ g) (flows-weaker f d) (flows-weaker f e)
flows-weaker f (by_any g d e) = by_any (f _ g) (flows-weaker f d) (flows-weaker f e)
flows-weaker f (by_each g d e) = by_each (f _ g) (flows-weaker f d) (flows-weaker f e)

seed-there : (X : FlowSet) (s : ℕ) → X ≡ Only s
    → Contains (seed_of X) (record { set = Only s; site = s })
seed-there X s e =
    subst (λ Y. Contains (seed_of Y) (record { set = Only s; site = s })) (sym e)
    (contains-head (record { set = Only s; site = s }) [])

pub seeds-there : (rules : List Inclusion) (r : Inclusion) (s : ℕ) → Contains rules r → source r
    ≡ Only s → Contains (seeds rules) (record { set = Only s; site = s })
seeds-there [] r s h e = absurd (contains-nil r h)
seeds-there (q ∷ rs) r s h e = by (contains-cons_cases q rs r h) (λ c. seeds-there rs r s c e)
  where
    by : (q ≡ r) ⊎ Contains rs r
        → (Contains rs r → Contains (seeds rs) (record { set = Only s; site = s }))
        → Contains (seed_of (source q) ++ seeds rs) (record { set = Only s; site = s })
    by (inl i) rest =
        Contains-append_left (seed_of (source q)) (seeds rs) _
        (seed-there (source q) s (ap source i ∙ e))
    by (inr c) rest = Contains-append_right (seed_of (source q)) (seeds rs) _ (rest c)

pub seeds-more : (rules : List Inclusion) (i : ℕ) (d : Inclusion) → i < length rules
    → seeds (take (i + 1) rules) ≡ seeds (take i rules) ++ seed_of (source (get_or rules i d))
seeds-more rules i d h =
    ap seeds (take_more rules i d h)
    ∙ sym (flat_map_more (λ r. seed_of (source r)) [] (take i rules) (get_or rules i d))

abbrev pub Seeds : List Member → List Member → List Member → Type 0
Seeds zs xs ys = AddsEach {X = Member} (λ (m : Member). m) zs xs ys

pub seeds-more-added : (rules : List Inclusion) (i : ℕ) (d : Inclusion) (xs ys ws : List Member)
    → i < length rules → Seeds (seeds (take i rules)) xs ys
    → Seeds (seed_of (source (get_or rules i d))) ys ws → Seeds (seeds (take (i + 1) rules)) xs ws
seeds-more-added rules i d xs ys ws h a b =
    subst (λ l. Seeds l xs ws) (sym (seeds-more rules i d h))
    (adds_each-append (λ (m : Member). m) (seeds (take i rules))
    (seed_of (source (get_or rules i d))) xs ys ws a b)

pub seeds-all : (rules : List Inclusion) (i : ℕ) (xs ys : List Member) → length rules ≤ i
    → Seeds (seeds (take i rules)) xs ys → Seeds (seeds rules) xs ys
seeds-all rules i xs ys h a = subst (λ l. Seeds (seeds l) xs ys) (take_all i rules h) a

only-itself : (X : FlowSet) (m : Member) → Contains (seed_of X) m → (s : ℕ)
    × (m ≡ record { set = Only s; site = s })
only-itself (Only s) m h = by (contains-cons_cases _ [] m h)
  where
    by : (◌≡◌ {A = Member} (record { set = Only s; site = s }) m) ⊎ Contains [] m → (t : ℕ)
        × (m ≡ record { set = Only t; site = t })
    by (inl e) = (s, sym e)
    by (inr c) = absurd (contains-nil m c)
only-itself (Register f r) m h = absurd (contains-nil m h)
only-itself (Result f) m h = absurd (contains-nil m h)
only-itself (Field s field) m h = absurd (contains-nil m h)
only-itself Message m h = absurd (contains-nil m h)
only-itself Sent m h = absurd (contains-nil m h)

seeds-itself : (rules : List Inclusion) (m : Member) → Contains (seeds rules) m → (s : ℕ)
    × (m ≡ record { set = Only s; site = s })
seeds-itself [] m h = absurd (contains-nil m h)
seeds-itself (q ∷ rs) m h =
    by (Contains-append_cases (seed_of (source q)) (seeds rs) m h) (λ c. seeds-itself rs m c)
  where
    by : Contains (seed_of (source q)) m ⊎ Contains (seeds rs) m
        → (Contains (seeds rs) m → (s : ℕ) × (m ≡ record { set = Only s; site = s })) → (s : ℕ)
        × (m ≡ record { set = Only s; site = s })
    by (inl c) rest = only-itself (source q) m c
    by (inr c) rest = rest c

-- the seeds alone are without cause in no set
pub seeds-sound : (given : Inclusion → Type 0) (rules : List Inclusion) (xs ys : List Member) → xs
    ≡ [] → AddsEach {X = Member} (λ (m : Member). m) (seeds rules) xs ys
    → Each (λ (m : Member). Flows given m.set m.site) ys
seeds-sound given rules xs ys none a =
    appends-all {P = λ (m : Member). Flows given m.set m.site}
    (appends-weaker a.grown
    (λ m (z, c, e). let p = seeds-itself rules z c in subst
    (λ (n : Member). Flows given n.set n.site) (sym (e ∙ p.1)) itself))
    (subst (Each (λ (m : Member). Flows given m.set m.site)) (sym none)
    (All-nil (λ (m : Member). Flows given m.set m.site)))

module _ {S : Type 0} (readers : IndexMap FlowSet (List Inclusion) S) (rules : List Inclusion)
    (is : (q : FlowSet) → listed is_set readers q ≡ filter (λ r. is_set (source r) q) rules) where
  pub are_indexed : AreIndexed readers
  are_indexed X r h =
      is_set-same (source r) X
      (contains-filtered (λ q. is_set (source q) X) rules r (subst (λ l. Contains l r) (is X) h)).1

  pub reads-given : (r : Inclusion) → Reads readers r → Contains rules r
  reads-given r h =
      (contains-filtered (λ q. is_set (source q) (source r)) rules r
      (subst (λ l. Contains l r) (is (source r)) h)).0

  pub given-reads : (r : Inclusion) → Contains rules r → Reads readers r
  given-reads r h =
      subst (λ l. Contains l r) (sym (is (source r)))
      (contains-filter (λ q. is_set (source q) (source r)) rules r h (is_set-itself (source r)))

  module _ (w : State) (steady : Steady (Reads readers) w)
      (all : Each (Carried readers w) w.members)
      (seeded : (r : Inclusion) (s : ℕ) → Reads readers r → source r ≡ Only s
      → Contains w.members (record { set = Only s; site = s })) where
    carried_at : (X : FlowSet) (s : ℕ) → Contains w.members (record { set = X; site = s })
        → Carried readers w (record { set = X; site = s })
    carried_at X s c =
        All-contains (Carried readers w) w.members (record { set = X; site = s }) all c

    followed : (r : Inclusion) (s : ℕ) → Reads readers r → IsIn w.members (source r) s
        → Followed w r s
    followed r s g (inl c) = (carried_at (source r) s c).followed r g
    followed r s g (inr e) =
        let c =
        subst (λ X. Contains w.members (record { set = X; site = s })) (sym e) (seeded r s g e) in
        (carried_at (source r) s c).followed r g

    passed : (s field t : ℕ) → IsIn w.members (Field s field) t → Passed w (Field s field) t
    passed s field t (inl c) = (carried_at (Field s field) t c).passed
    passed s field t (inr e) = absurd cc

    complete : {X : FlowSet} {s : ℕ} → Flows (Reads readers) X s → IsIn w.members X s
    complete d =
        complete-by-shares w.members (Reads readers)
        (λ r g. (
          w,
          record {
            same = refl;
            joined = steady.joined;
            passed = passed;
            followed = λ s h. followed r s g h;
          },
        )) d

    sound : (X : FlowSet) (s : ℕ) → IsIn w.members X s → Flows (Reads readers) X s
    sound X s (inl c) =
        All-contains (λ (m : Member). Flows (Reads readers) m.set m.site) w.members
        (record { set = X; site = s }) steady.sound c
    sound X s (inr e) = subst (λ Y. Flows (Reads readers) Y s) (sym e) itself

    pub solved : (X : FlowSet) (s : ℕ) → IsIn w.members X s ↔ Flows (Contains rules) X s
    solved X s =
        (λ h. flows-weaker reads-given (sound X s h), λ d. complete (flows-weaker given-reads d))

-- where nothing is in any fields, and no fields go into any set
pub begins-steady : (given : Inclusion → Type 0) (w : State)
    → Each (λ (m : Member). Flows given m.set m.site) w.members
    → ((p : FieldSet) → w.targets p ≡ []) → ((p : FieldSet) → w.sites p ≡ []) → Steady given w
begins-steady given w all targets sites = record {
  sound = all;
  valid = λ p to h. absurd (contains-nil to (subst (λ l. Contains l to) (targets p) h));
  held = λ p s h. absurd (contains-nil s (subst (λ l. Contains l s) (sites p) h));
  joined = λ p s to h k. absurd (contains-nil s (subst (λ l. Contains l s) (sites p) h));
}
