-- Where all members have been carried, they are those of the least sets.
use Rattle.std.proofs.Common.{◌≡◌, ◌⊎◌, ◌↔◌, ℕ, ◌+◌, ◌<◌, ◌≤◌, Bool, true, false, if◌then◌else◌}
use Rattle.std.proofs.Common.{List, [], ◌∷◌, ◌++◌, length, take, get_or, refl, sym, ap, ◌∙◌, subst}
use Rattle.std.proofs.Common.{inl, inr, arith, eqb-true, eq-eqb}
use Rattle.std.specs.Prelude.{◌==◌, fold}
use Rattle.std.specs.List.{All, Contains, flat_map}
use Rattle.std.proofs.lemmas.List.{take-append-le, take_all}
use Rattle.std.proofs.lemmas.List.Elements.{All-contains, All-contains_itself, All-more}
use Rattle.std.proofs.lemmas.List.Elements.{All-nil, All-weaker}
use Rattle.std.proofs.lemmas.List.Elements.{Contains-append_left, Contains-append_right}
use Rattle.std.proofs.lemmas.List.Elements.{Contains-append_cases}
use Rattle.indexmap.specs.IndexMap.{IndexMap}
use Rattle.capture_flow.specs.Least.{Has, IsHad, occurs, uses}
use Rattle.capture_flow.specs.code.Edges.{edge_if, edge_to, edges_at}
use Rattle.capture_flow.specs.code.Members.{Extends, Given, IsCarried, moved, passed, seeded}
use Rattle.capture_flow.specs.declared.fact.Edge.{Edge}
use Rattle.capture_flow.specs.declared.fact.Fact.{Fact}
use Rattle.capture_flow.specs.declared.fact.Fact.TheVariants.{Occurs, Uses}
use Rattle.capture_flow.specs.declared.fact.Member.{Member}
use Rattle.capture_flow.proofs.Extending.{contains-cons_cases, contains-head, contains-nil}
use Rattle.capture_flow.proofs.Extending.{contains-tail, carried-all, carried-extends}
use Rattle.capture_flow.proofs.Extending.{carried-there, extends-at, extends-keeps, extends-length}
use Rattle.capture_flow.proofs.Extending.{extends-then, seeds-all, seeds-there}

-- the loop over the members
module _ {S : Type 0} (edges : IndexMap ℕ (List Edge) S) (seeds : List Member) where
  pub record Steady (ms : List Member) (next : ℕ) : Type 0 where
    pub sound : All (IsHad (Given edges seeds)) ms
    pub grows : Extends seeds ms
    pub within : next ≤ length ms
    pub carried : All (IsCarried edges ms) (take next ms)

  pub steady-begins : Extends seeds seeds → Steady seeds 0
  steady-begins e = record {
    sound =
        All-weaker (Contains seeds) (IsHad (Given edges seeds))
        (λ m c. occurs {f = m.function} {x = m.variable} {p = m.place} c) seeds
        (All-contains_itself seeds);
    grows = e;
    within = omega arith;
    carried = All-nil (IsCarried edges seeds);
  }

  pub steady-more : (ms ns : List Member) (next : ℕ) (d : Member) (es : List Edge)
      → next < length ms → es ≡ edges_at edges (get_or ms next d).function
      → ns ≡ fold (passed (get_or ms next d)) ms es → Steady ms next → Steady ns (next + 1)
  steady-more ms ns next d es l here is s =
      let m = get_or ms next d in
      let more : Extends ms ns =
      subst (Extends ms) (sym is) (carried-extends m ms es) in
      let had : IsHad (Given edges seeds) m = s.sound next d l in
      let longer = extends-length more in
      record {
        sound =
            subst (All (IsHad (Given edges seeds))) (sym is)
            (carried-all m (IsHad (Given edges seeds)) ms es
            (λ e c below. uses (e, subst (λ l. Contains l e) here c, refl, refl) below had)
            s.sound);
        grows = extends-then s.grows more;
        within = omega (arith, l, longer);
        carried =
            All-more (IsCarried edges ns) ns next d (omega (arith, l, longer))
            (subst (All (IsCarried edges ns))
            (sym (ap (take next) more.is ∙ take-append-le next ms more.more (omega (arith, l))))
            (All-weaker (IsCarried edges ms) (IsCarried edges ns)
            (λ x h e c b. extends-keeps more (moved x e) (h e c b)) (take next ms) s.carried))
            (subst (IsCarried edges ns) (sym (extends-at more next d l))
            (λ e c b. subst (λ l. Contains l (moved m e)) (sym is)
            (carried-there m ms es e (subst (λ l. Contains l e) (sym here) c) b)));
      }

  pub steady-ends : (ms : List Member) (next : ℕ) → length ms ≤ next → Steady ms next
      → All (IsCarried edges ms) ms
  steady-ends ms next l s = subst (All (IsCarried edges ms)) (take_all next ms l) s.carried

-- the edges under a function are those of facts
edge_if-is : (f : ℕ) (e a : Edge) → Contains (edge_if f e) a → (e ≡ a) × (e.used ≡ f)
edge_if-is f e a h = by (e.used == f) refl h
  where
    by : (b : Bool) → e.used == f ≡ b → Contains (if b then e ∷ [] else []) a
        → (e ≡ a) × (e.used ≡ f)
    by true i c = (one (contains-cons_cases e [] a c), eqb-true e.used f i)
      where
        one : (e ≡ a) ⊎ Contains [] a → e ≡ a
        one (inl s) = s
        one (inr n) = absurd (contains-nil a n)
    by false i c = absurd (contains-nil a c)

edges-from : (f : ℕ) (fs : List Fact) (a : Edge) → Contains (flat_map (edge_to f) fs) a
    → Contains fs (Uses a) × (a.used ≡ f)
edges-from f [] a h = absurd (contains-nil a h)
edges-from f (Occurs m ∷ fs) a h =
    let r = edges-from f fs a h in (contains-tail (Occurs m) fs (Uses a) r.0, r.1)
edges-from f (Uses e ∷ fs) a h =
    by (Contains-append_cases (edge_if f e) (flat_map (edge_to f) fs) a h)
    (λ c. edges-from f fs a c)
  where
    by : Contains (edge_if f e) a ⊎ Contains (flat_map (edge_to f) fs) a
        → (Contains (flat_map (edge_to f) fs) a → Contains fs (Uses a) × (a.used ≡ f))
        → Contains (Uses e ∷ fs) (Uses a) × (a.used ≡ f)
    by (inl c) rest =
        let i = edge_if-is f e a c in (
          subst (λ a. Contains (Uses e ∷ fs) (Uses a)) i.0 (contains-head (Uses e) fs),
          ap (λ (a : Edge). a.used) (sym i.0) ∙ i.1,
        )
    by (inr c) rest = let r = rest c in (contains-tail (Uses e) fs (Uses a) r.0, r.1)

edges-have : (fs : List Fact) (e : Edge) → Contains fs (Uses e)
    → Contains (flat_map (edge_to e.used) fs) e
edges-have [] e h = absurd (contains-nil (Uses e) h)
edges-have (g ∷ fs) e h =
    by (contains-cons_cases g fs (Uses e) h) (λ c. edges-have fs e c)
  where
    here : Contains (edge_if e.used e) e
    here =
        subst (λ b. Contains (if b then e ∷ [] else []) e) (sym (eq-eqb e.used e.used refl))
        (contains-head e [])

    by : (g ≡ Uses e) ⊎ Contains fs (Uses e)
        → (Contains fs (Uses e) → Contains (flat_map (edge_to e.used) fs) e)
        → Contains (edge_to e.used g ++ flat_map (edge_to e.used) fs) e
    by (inl s) rest =
        subst (λ g. Contains (edge_to e.used g ++ flat_map (edge_to e.used) fs) e) (sym s)
        (Contains-append_left (edge_if e.used e) (flat_map (edge_to e.used) fs) e here)
    by (inr c) rest =
        Contains-append_right (edge_to e.used g) (flat_map (edge_to e.used) fs) e (rest c)

-- from the edges and the members of facts on
module _ {S : Type 0} (edges : IndexMap ℕ (List Edge) S) (fs : List Fact) (seeds : List Member)
    (are : (f : ℕ) → edges_at edges f ≡ flat_map (edge_to f) fs)
    (begin : seeds ≡ fold seeded [] fs) where
  given_fact : (u : Fact) → Given edges seeds u → Contains fs u
  given_fact (Occurs m) h =
      All-contains (λ m. Contains fs (Occurs m)) (fold seeded [] fs) m
      (seeds-all (λ m. Contains fs (Occurs m)) [] fs (λ m c. c)
      (All-nil (λ m. Contains fs (Occurs m))))
      (subst (λ l. Contains l m) begin h)
  given_fact (Uses e) h =
      let a = h.0 in
      let from = edges-from e.used fs a (subst (λ l. Contains l a) (are e.used) h.1) in
      subst (λ (e : Edge). Contains fs (Uses e))
      (λ i. record { function = h.2 i; used = from.1 i; depth = h.3 i }) from.0

  had : {f x p : ℕ} → Has (Given edges seeds) f x p → Has (Contains fs) f x p
  had (occurs g) = occurs (given_fact _ g)
  had (uses g l h) = uses (given_fact _ g) l (had h)

  module _ (ms : List Member) (sound : All (IsHad (Given edges seeds)) ms)
      (grows : Extends seeds ms) (carried : All (IsCarried edges ms) ms) where
    there : {f x p : ℕ} → Has (Contains fs) f x p
        → Contains ms (record { function = f; variable = x; place = p })
    there (occurs {f} {x} {p} g) =
        let m : Member = record { function = f; variable = x; place = p } in
        extends-keeps grows m (subst (λ l. Contains l m) (sym begin) (seeds-there [] fs m g))
    there (uses {f} {g} {x} {p} {d} fact l h) =
        let e : Edge = record { function = f; used = g; depth = d } in
        All-contains (IsCarried edges ms) ms (record { function = g; variable = x; place = p })
        carried (there h) e (subst (λ l. Contains l e) (sym (are g)) (edges-have fs e fact)) l

    pub solved : (m : Member) → Contains ms m ↔ IsHad (Contains fs) m
    solved m =
        (λ h. had (All-contains (IsHad (Given edges seeds)) ms m sound h), λ h. there h)
