-- Each step of the worklist keeps it steady and loses nothing.
use Rattle.std.proofs.Common.{◌≡◌, ◌⊎◌, ℕ, Bool, true, false, if◌then◌else◌, List, [], ◌∷◌, ◌++◌}
use Rattle.std.proofs.Common.{refl, sym, ap, ◌∙◌, subst, inl, inr}
use Rattle.std.specs.List.{Contains}
use Rattle.std.proofs.lemmas.List.Elements.{Contains-append_left, Contains-push}
use Rattle.std.proofs.lemmas.List.Elements.{Contains-push_cases}
use Rattle.flow_sets.specs.Least.{Flows, along, by_field, by_any, by_each}
use Rattle.flow_sets.specs.declared.inclusion.FlowSet.{FlowSet}
use Rattle.flow_sets.specs.declared.inclusion.FlowSet.TheVariants.{Only, Register, Result, Field}
use Rattle.flow_sets.specs.declared.inclusion.FlowSet.TheVariants.{Message, Sent}
use Rattle.flow_sets.specs.declared.inclusion.Inclusion.{Inclusion}
use Rattle.flow_sets.specs.declared.inclusion.Inclusion.TheVariants.{Whole, Part, Parts}
use Rattle.indexmap.specs.IndexMap.{IndexMap}
use Rattle.flow_solver.specs.declared.fields.FieldSet.{FieldSet}
use Rattle.flow_solver.specs.declared.fields.FieldSet.TheVariants.{One, All}
use Rattle.flow_solver.specs.declared.members.Member.{Member}
use Rattle.flow_solver.specs.code.Tables.{State}
use Rattle.flow_solver.specs.code.Carries.{Held, Steady, Grows, Followed, Passed, Carried}
use Rattle.flow_solver.specs.code.Effects.{Links, Passes, AddsTo, FollowsBy, PassesOn}
use Rattle.flow_solver.specs.code.Readers.{source}
use Rattle.flow_solver.specs.code.Tables.{is_fields}
use Rattle.flow_solver.proofs.Appending.{appends-none, appends-then, appends-weaker, appends-keeps}
use Rattle.flow_solver.proofs.Appending.{appends-all}
use Rattle.flow_solver.proofs.Same.{is_fields-same, is_fields-itself}

-- one item more under a key
module _ {V : Type 0} (p q : FieldSet) (xs ys : List V) (v : V)
    (is : ys ≡ (if is_fields p q then xs ++ v ∷ [] else xs)) where
  pushed-cases : (w : V) → Contains ys w → Contains xs w ⊎ ((p ≡ q) × (v ≡ w))
  pushed-cases w h = by (is_fields p q) refl (subst (λ l. Contains l w) is h)
    where
      by : (b : Bool) → is_fields p q ≡ b → Contains (if b then xs ++ v ∷ [] else xs) w
          → Contains xs w ⊎ ((p ≡ q) × (v ≡ w))
      by true e c = last (Contains-push_cases xs v w c)
        where
          last : Contains xs w ⊎ (v ≡ w) → Contains xs w ⊎ ((p ≡ q) × (v ≡ w))
          last (inl d) = inl d
          last (inr s) = inr (is_fields-same p q e, s)
      by false e c = inl c

  pushed-keeps : (w : V) → Contains xs w → Contains ys w
  pushed-keeps w h = subst (λ l. Contains l w) (sym is) (by (is_fields p q))
    where
      by : (b : Bool) → Contains (if b then xs ++ v ∷ [] else xs) w
      by true = Contains-append_left xs (v ∷ []) w h
      by false = h

pushed-there : {V : Type 0} (p : FieldSet) (xs ys : List V) (v : V) → ys
    ≡ (if is_fields p p then xs ++ v ∷ [] else xs) → Contains ys v
pushed-there p xs ys v is =
    subst (λ l. Contains l v)
    (sym (is ∙ ap (λ b. if b then xs ++ v ∷ [] else xs) (is_fields-itself p))) (Contains-push xs v)

pub grows-none : (w : State) → Grows w w
grows-none w =
    record { members = appends-none _ w.members; targets = λ p to h. h; sites = λ p s h. h }

pub grows-then : {u v w : State} → Grows u v → Grows v w → Grows u w
grows-then a b = record {
  members = appends-then a.members b.members;
  targets = λ p to h. b.targets p to (a.targets p to h);
  sites = λ p s h. b.sites p s (a.sites p s h);
}

sites-same : (w w' : State) → w'.sites ≡ w.sites → (p : FieldSet) → w'.sites p ≡ w.sites p
sites-same w w' e p = ap (λ l. l p) e

targets-same : (w w' : State) → w'.targets ≡ w.targets → (p : FieldSet) → w'.targets p ≡ w.targets p
targets-same w w' e p = ap (λ l. l p) e

module _ {p : FieldSet} {to : FlowSet} {w w' : State} (l : Links p to w w') where
  pub links-grows : Grows w w'
  links-grows = record {
    members = appends-weaker l.members.grown (λ _ _. tt);
    targets = λ q x h. pushed-keeps p q (w.targets q) (w'.targets q) to (l.targets q) x h;
    sites = λ q s h. subst (λ xs. Contains xs s) (sym (sites-same w w' l.sites q)) h;
  }

  pub links-there : Contains (w'.targets p) to
  links-there = pushed-there p (w.targets p) (w'.targets p) to (l.targets p)

  pub links-steady : {given : Inclusion → Type 0} → ((t : ℕ) → Held given p t → Flows given to t)
      → Steady given w → Steady given w'
  links-steady {given} valid steady = record {
    sound =
        appends-all
        (appends-weaker l.members.grown
        (λ m (s, c, e). subst (λ (n : Member). Flows given n.set n.site) (sym e)
        (valid s (steady.held p s c)))) steady.sound;
    valid = λ q x h. now q x (pushed-cases p q (w.targets q) (w'.targets q) to (l.targets q) x h);
    held = λ q s h. steady.held q s (before q s h);
    joined =
        λ q s x hs hx. join q s x (before q s hs)
        (pushed-cases p q (w.targets q) (w'.targets q) to (l.targets q) x hx);
  }
    where
      before : (q : FieldSet) (s : ℕ) → Contains (w'.sites q) s → Contains (w.sites q) s
      before q s h = subst (λ xs. Contains xs s) (sites-same w w' l.sites q) h

      now : (q : FieldSet) (x : FlowSet) → Contains (w.targets q) x ⊎ ((p ≡ q) × (to ≡ x)) → (t : ℕ)
          → Held given q t → Flows given x t
      now q x (inl c) t h = steady.valid q x c t h
      now q x (inr e) t h =
          subst (λ y. Flows given y t) e.1 (valid t (subst (λ r. Held given r t) (sym e.0) h))

      join : (q : FieldSet) (s : ℕ) (x : FlowSet) → Contains (w.sites q) s
          → Contains (w.targets q) x ⊎ ((p ≡ q) × (to ≡ x))
          → Contains w'.members (record { set = x; site = s })
      join q s x h (inl c) =
          appends-keeps l.members.grown (record { set = x; site = s }) (steady.joined q s x h c)
      join q s x h (inr e) =
          subst (λ y. Contains w'.members (record { set = y; site = s })) e.1
          (l.members.there s (subst (λ r. Contains (w.sites r) s) (sym e.0) h))

module _ {p : FieldSet} {s : ℕ} {w w' : State} (l : Passes p s w w') where
  pub passes-grows : Grows w w'
  passes-grows = record {
    members = appends-weaker l.members.grown (λ _ _. tt);
    targets = λ q x h. subst (λ xs. Contains xs x) (sym (targets-same w w' l.targets q)) h;
    sites = λ q t h. pushed-keeps p q (w.sites q) (w'.sites q) s (l.sites q) t h;
  }

  pub passes-there : Contains (w'.sites p) s
  passes-there = pushed-there p (w.sites p) (w'.sites p) s (l.sites p)

  pub passes-steady : {given : Inclusion → Type 0} → Held given p s → Steady given w
      → Steady given w'
  passes-steady {given} here steady = record {
    sound =
        appends-all
        (appends-weaker l.members.grown
        (λ m (x, c, e). subst (λ (n : Member). Flows given n.set n.site) (sym e)
        (steady.valid p x c s here))) steady.sound;
    valid = λ q x h. steady.valid q x (before q x h);
    held = λ q t h. now q t (pushed-cases p q (w.sites q) (w'.sites q) s (l.sites q) t h);
    joined =
        λ q t x ht hx. join q t x (before q x hx)
        (pushed-cases p q (w.sites q) (w'.sites q) s (l.sites q) t ht);
  }
    where
      before : (q : FieldSet) (x : FlowSet) → Contains (w'.targets q) x → Contains (w.targets q) x
      before q x h = subst (λ xs. Contains xs x) (targets-same w w' l.targets q) h

      now : (q : FieldSet) (t : ℕ) → Contains (w.sites q) t ⊎ ((p ≡ q) × (s ≡ t)) → Held given q t
      now q t (inl c) = steady.held q t c
      now q t (inr e) = subst (λ u. Held given q u) e.1 (subst (λ r. Held given r s) e.0 here)

      join : (q : FieldSet) (t : ℕ) (x : FlowSet) → Contains (w.targets q) x
          → Contains (w.sites q) t ⊎ ((p ≡ q) × (s ≡ t))
          → Contains w'.members (record { set = x; site = t })
      join q t x h (inl c) =
          appends-keeps l.members.grown (record { set = x; site = t }) (steady.joined q t x c h)
      join q t x h (inr e) =
          subst (λ u. Contains w'.members (record { set = x; site = u })) e.1
          (l.members.there x (subst (λ r. Contains (w.targets r) x) (sym e.0) h))

module _ {to : FlowSet} {s : ℕ} {w w' : State} (l : AddsTo to s w w') where
  pub adds_to-grows : Grows w w'
  adds_to-grows = record {
    members = appends-weaker l.members.grown (λ _ _. tt);
    targets = λ q x h. subst (λ xs. Contains xs x) (sym (targets-same w w' l.targets q)) h;
    sites = λ q t h. subst (λ xs. Contains xs t) (sym (sites-same w w' l.sites q)) h;
  }

  pub adds_to-steady : {given : Inclusion → Type 0} → Flows given to s → Steady given w
      → Steady given w'
  adds_to-steady {given} here steady = record {
    sound =
        appends-all
        (appends-weaker l.members.grown
        (λ m e. subst (λ (n : Member). Flows given n.set n.site) (sym e) here)) steady.sound;
    valid =
        λ q x h. steady.valid q x (subst (λ xs. Contains xs x) (targets-same w w' l.targets q) h);
    held = λ q t h. steady.held q t (subst (λ xs. Contains xs t) (sites-same w w' l.sites q) h);
    joined = λ q t x ht hx.
        appends-keeps l.members.grown (record { set = x; site = t })
        (steady.joined q t x (subst (λ xs. Contains xs t) (sites-same w w' l.sites q) ht)
        (subst (λ xs. Contains xs x) (targets-same w w' l.targets q) hx));
  }

pub follows-grows : (r : Inclusion) (s : ℕ) (w w' : State) → FollowsBy r s w w' → Grows w w'
follows-grows (Whole from to) s w w' l = adds_to-grows l
follows-grows (Part base field to) s w w' l = grows-then (links-grows l.1) (links-grows l.2)
follows-grows (Parts base to) s w w' l = links-grows l

pub follows-followed : (r : Inclusion) (s : ℕ) (w w' : State) → FollowsBy r s w w' → Followed w' r s
follows-followed (Whole from to) s w w' l = l.members.there
follows-followed (Part base field to) s w w' l =
    ((links-grows l.2).targets (One s field) to (links-there l.1), links-there l.2)
follows-followed (Parts base to) s w w' l = links-there l

pub follows-steady : (given : Inclusion → Type 0) (r : Inclusion) (s : ℕ) (w w' : State) → given r
    → Flows given (source r) s → FollowsBy r s w w' → Steady given w → Steady given w'
follows-steady given (Whole from to) s w w' g d l h = adds_to-steady l (along g d) h
follows-steady given (Part base field to) s w w' g d l h =
    links-steady l.2 (λ t e. by_any g d e) (links-steady l.1 (λ t e. by_field g d e) h)
follows-steady given (Parts base to) s w w' g d l h = links-steady l (λ t e. by_each g d e.1) h

pub passes_on-grows : (X : FlowSet) (t : ℕ) (w w' : State) → PassesOn X t w w' → Grows w w'
passes_on-grows (Field s field) t w w' l = grows-then (passes-grows l.1) (passes-grows l.2)
passes_on-grows (Only s) t w w' l = subst (Grows w) (sym l) (grows-none w)
passes_on-grows (Register f r) t w w' l = subst (Grows w) (sym l) (grows-none w)
passes_on-grows (Result f) t w w' l = subst (Grows w) (sym l) (grows-none w)
passes_on-grows Message t w w' l = subst (Grows w) (sym l) (grows-none w)
passes_on-grows Sent t w w' l = subst (Grows w) (sym l) (grows-none w)

pub passes_on-passed : (X : FlowSet) (t : ℕ) (w w' : State) → PassesOn X t w w' → Passed w' X t
passes_on-passed (Field s field) t w w' l =
    ((passes-grows l.2).sites (One s field) t (passes-there l.1), passes-there l.2)
passes_on-passed X t w w' l = tt

pub passes_on-steady : (given : Inclusion → Type 0) (X : FlowSet) (t : ℕ) (w w' : State)
    → Flows given X t → PassesOn X t w w' → Steady given w → Steady given w'
passes_on-steady given (Field s field) t w w' d l h =
    passes-steady l.2 (field, d) (passes-steady l.1 d h)
passes_on-steady given (Only s) t w w' d l h = subst (Steady given) (sym l) h
passes_on-steady given (Register f r) t w w' d l h = subst (Steady given) (sym l) h
passes_on-steady given (Result f) t w w' d l h = subst (Steady given) (sym l) h
passes_on-steady given Message t w w' d l h = subst (Steady given) (sym l) h
passes_on-steady given Sent t w w' d l h = subst (Steady given) (sym l) h

pub followed-grows : {w w' : State} → Grows w w' → (r : Inclusion) (s : ℕ) → Followed w r s
    → Followed w' r s
followed-grows g (Whole from to) s h = appends-keeps g.members _ h
followed-grows g (Part base field to) s h =
    (g.targets (One s field) to h.0, g.targets (One s 0) to h.1)
followed-grows g (Parts base to) s h = g.targets (All s) to h

pub passed-grows : {w w' : State} → Grows w w' → (X : FlowSet) (s : ℕ) → Passed w X s
    → Passed w' X s
passed-grows g (Field s field) t h = (g.sites (One s field) t h.0, g.sites (All s) t h.1)
passed-grows g X t h = tt

pub carried-grows : {S : Type 0} {readers : IndexMap FlowSet (List Inclusion) S} {w w' : State}
    {m : Member} → Grows w w' → Carried readers w m → Carried readers w' m
carried-grows {m = m} g c = record {
  followed = λ r h. followed-grows g r m.site (c.followed r h);
  passed = passed-grows g m.set m.site c.passed;
}
