-- Lists of places that are closed under inclusions, and places that inclusions give.
use Rattle.std.proofs.Common.{◌≡◌, ◌⊎◌, ℕ, Bool, true, false, ◌&&◌, ◌||◌, List, [], ◌∷◌, refl, sym}
use Rattle.std.proofs.Common.{ap, subst, inl, inr, eqb, eqb-true, eq-eqb, true≢false}
use Rattle.std.specs.List.{All, Contains, list_all, list_any}
use Rattle.std.proofs.lemmas.Bool.{and_parts}
use Rattle.std.proofs.lemmas.List.Elements.{All-nil, All-cons, All-contains}
use Rattle.std.proofs.lemmas.List.Elements.{Contains-append_left, Contains-append_right}
use Rattle.std.proofs.lemmas.List.Elements.{Contains-push}
use Rattle.flow_sets.specs.Least.{Closes, Flows, along, itself}
use Rattle.flow_sets.specs.Table.{is_of}
use Rattle.flow_sets.specs.declared.inclusion.FlowSet.{FlowSet}
use Rattle.flow_sets.specs.declared.inclusion.FlowSet.TheVariants.{Only, Register, Result, Field}
use Rattle.flow_sets.specs.declared.inclusion.FlowSet.TheVariants.{Message, Sent}
use Rattle.flow_sets.specs.declared.inclusion.Inclusion.{Inclusion}
use Rattle.flow_sets.specs.declared.inclusion.Inclusion.TheVariants.{Whole, Part, Parts}
use Rattle.flow_sets.proofs.Least.{Flows-least}
use Rattle.flow_rules.specs.WorkedFlow.{Place, at}

-- tests

abbrev implies : Bool → Bool → Bool
implies true b = b
implies false b = true

holds_then : (a b : Bool) → implies a b ≡ true → a ≡ true → b ≡ true
holds_then true b h e = h
holds_then false b h e = absurd (true≢false (sym e))

one_holds : (a b : Bool) → (a || b) ≡ true → (a ≡ true) ⊎ (b ≡ true)
one_holds true b h = inl refl
one_holds false b h = inr h

all_pass : {X : Type 0} (p : X → Bool) (xs : List X) → list_all p xs ≡ true
    → All (λ x. p x ≡ true) xs
all_pass p [] h = All-nil (λ x. p x ≡ true)
all_pass p (x ∷ xs) h =
    let q = and_parts (p x) (list_all p xs) h in
    All-cons (λ x. p x ≡ true) x xs q.0 (all_pass p xs q.1)

passes : {X : Type 0} (p : X → Bool) (xs : List X) → list_all p xs ≡ true → (x : X)
    → Contains xs x → p x ≡ true
passes p xs h x c = All-contains (λ x. p x ≡ true) xs x (all_pass p xs h) c

found : {X : Type 0} (p : X → Bool) (xs : List X) → list_any p xs ≡ true
    → (x : X) × Contains xs x × (p x ≡ true)
found p [] h = absurd (true≢false (sym h))
found {X} p (x ∷ xs) h = by (one_holds (p x) (list_any p xs) h) (λ e. found p xs e)
  where
    by : (p x ≡ true) ⊎ (list_any p xs ≡ true)
        → (list_any p xs ≡ true → (y : X) × Contains xs y × (p y ≡ true))
        → (y : X) × Contains (x ∷ xs) y × (p y ≡ true)
    by (inl e) more = (x, Contains-append_left (x ∷ []) xs x (Contains-push [] x), e)
    by (inr e) more =
        let m = more e in (m.0, Contains-append_right (x ∷ []) xs m.0 m.1, m.2)

-- places

two : (a b c d : ℕ) → (eqb a b && eqb c d) ≡ true → (a ≡ b) × (c ≡ d)
two a b c d h = let p = and_parts (eqb a b) (eqb c d) h in (eqb-true a b p.0, eqb-true c d p.1)

three : (a b c d e f : ℕ) → (eqb a b && eqb c d && eqb e f) ≡ true
    → (a ≡ b) × (c ≡ d) × (e ≡ f)
three a b c d e f h =
    let p = and_parts (eqb a b && eqb c d) (eqb e f) h in
    let q = two a b c d p.0 in (q.0, q.1, eqb-true e f p.1)

same : (X : FlowSet) (s : ℕ) (Y : FlowSet) (t : ℕ) → is_of X s Y t ≡ true → (X ≡ Y) × (s ≡ t)
same (Only u) s (Only v) t h = let p = two u v s t h in (ap Only p.0, p.1)
same (Register f r) s (Register g q) t h =
    let p = three f g r q s t h in ((λ i. Register (p.0 i) (p.1 i)), p.2)
same (Result f) s (Result g) t h = let p = two f g s t h in (ap Result p.0, p.1)
same (Field a i) s (Field b j) t h =
    let p = three a b i j s t h in ((λ k. Field (p.0 k) (p.1 k)), p.2)
same Message s Message t h = (refl, eqb-true s t h)
same Sent s Sent t h = (refl, eqb-true s t h)
same X s Y t h = absurd (true≢false (sym h))

abbrev is_only : FlowSet → ℕ → Bool
is_only (Only u) s = eqb u s
is_only X s = false

only_same : (X : FlowSet) (s : ℕ) → is_only X s ≡ true → X ≡ Only s
only_same (Only u) s h = ap Only (eqb-true u s h)
only_same X s h = absurd (true≢false (sym h))

abbrev is_field_of : ℕ → FlowSet → Bool
is_field_of s (Field t i) = eqb s t
is_field_of s X = false

module _ (ps : List Place) where
  abbrev pub is_in : FlowSet → ℕ → Bool
  is_in X s = is_only X s || list_any (λ (p : Place). is_of p.set p.site X s) ps

  in_cases : (X : FlowSet) (s : ℕ) → is_in X s ≡ true → (X ≡ Only s) ⊎ Contains ps (at X s)
  in_cases X s h = by (one_holds (is_only X s) _ h)
    where
      by : (is_only X s ≡ true) ⊎ (list_any (λ (p : Place). is_of p.set p.site X s) ps ≡ true)
          → (X ≡ Only s) ⊎ Contains ps (at X s)
      by (inl e) = inl (only_same X s e)
      by (inr e) =
          let m = found (λ (p : Place). is_of p.set p.site X s) ps e in
          let q = same m.0.set m.0.site X s m.2 in
          inr (subst (Contains ps) (λ i. record { set = q.0 i; site = q.1 i }) m.1)

  -- each site of a set passes
  abbrev only_passes : FlowSet → (ℕ → Bool) → Bool
  only_passes (Only u) pass = pass u
  only_passes X pass = true

  abbrev places_pass : FlowSet → (ℕ → Bool) → Bool
  places_pass X pass =
      list_all (λ (p : Place). implies (is_of p.set p.site X p.site) (pass p.site)) ps

  abbrev for_each : FlowSet → (ℕ → Bool) → Bool
  for_each X pass = only_passes X pass && places_pass X pass

  itself_of : (X : FlowSet) (s : ℕ) → is_of X s X s ≡ true
  itself_of (Only u) s = λ i. eq-eqb u u refl i && eq-eqb s s refl i
  itself_of (Register f r) s =
      λ i. eq-eqb f f refl i && eq-eqb r r refl i && eq-eqb s s refl i
  itself_of (Result f) s = λ i. eq-eqb f f refl i && eq-eqb s s refl i
  itself_of (Field a j) s =
      λ i. eq-eqb a a refl i && eq-eqb j j refl i && eq-eqb s s refl i
  itself_of Message s = eq-eqb s s refl
  itself_of Sent s = eq-eqb s s refl

  passes_at : (X : FlowSet) (pass : ℕ → Bool) → for_each X pass ≡ true → (s : ℕ)
      → is_in X s ≡ true → pass s ≡ true
  passes_at X pass h s d =
      by (and_parts (only_passes X pass) (places_pass X pass) h) (in_cases X s d)
    where
      by : (only_passes X pass ≡ true) × (places_pass X pass ≡ true)
          → (X ≡ Only s) ⊎ Contains ps (at X s) → pass s ≡ true
      by q (inl e) = subst (λ Y. only_passes Y pass ≡ true) e q.0
      by q (inr c) =
          holds_then (is_of X s X s) (pass s)
          (passes (λ (p : Place). implies (is_of p.set p.site X p.site) (pass p.site)) ps q.1
          (at X s) c) (itself_of X s)

  -- an inclusion holds of the places
  abbrev pub holds : Inclusion → Bool
  holds (Whole from to) = for_each from (λ s. is_in to s)
  holds (Part base field to) =
      for_each base
      (λ s. for_each (Field s field) (λ t. is_in to t) && for_each (Field s 0) (λ t. is_in to t))
  holds (Parts base to) =
      for_each base
      (λ s. list_all (λ (p : Place). implies (is_field_of s p.set) (is_in to p.site)) ps)

  closes : (i : Inclusion) → holds i ≡ true → Closes (λ X s. is_in X s ≡ true) i
  closes (Whole from to) h = λ s d. passes_at from (λ s. is_in to s) h s d
  closes (Part base field to) h = λ s t d.
      let q =
      and_parts (for_each (Field s field) (λ t. is_in to t)) _ (passes_at base _ h s d) in (
        λ e. passes_at (Field s field) (λ t. is_in to t) q.0 t e,
        λ e. passes_at (Field s 0) (λ t. is_in to t) q.1 t e,
      )
  closes (Parts base to) h = λ s field t d e. by s field t d (in_cases (Field s field) t e)
    where
      by : (s field t : ℕ) → is_in base s ≡ true
          → (Field s field ≡ Only t) ⊎ Contains ps (at (Field s field) t) → is_in to t ≡ true
      by s field t d (inl e) = absurd cc
      by s field t d (inr c) =
          holds_then (eqb s s) (is_in to t)
          (passes (λ (p : Place). implies (is_field_of s p.set) (is_in to p.site)) ps
          (passes_at base _ h s d) (at (Field s field) t) c)
          (eq-eqb s s refl)

  -- the least sets are among places that are closed
  pub flows_in : (rules : List Inclusion) → list_all holds rules ≡ true → (X : FlowSet) (s : ℕ)
      → Flows (Contains rules) X s → (X ≡ Only s) ⊎ Contains ps (at X s)
  flows_in rules h X s d =
      in_cases X s
      (Flows-least (Contains rules) (λ X s. is_in X s ≡ true)
      (record {
        itself =
            λ s. ap (λ b. b || list_any (λ (p : Place). is_of p.set p.site (Only s) s) ps)
            (eq-eqb s s refl);
        closes = λ i c. closes i (passes holds rules h i c);
      }) d)

-- places that follow one after another, each by an inclusion from those before
module _ (rules : List Inclusion) where
  abbrev gives : List Place → Place → Inclusion → Bool
  gives before p (Whole from to) = is_of to p.site p.set p.site && is_in before from p.site
  gives before p i = false

  abbrev pub follow : List Place → List Place → Bool
  follow before [] = true
  follow before (p ∷ ps) = list_any (gives before p) rules && follow (p ∷ before) ps

  abbrev FlowsAt : Place → Type 0
  FlowsAt p = Flows (Contains rules) p.set p.site

  given_flows : (before : List Place) (p : Place) (i : Inclusion) → All FlowsAt before
      → Contains rules i → gives before p i ≡ true → FlowsAt p
  given_flows before p (Whole from to) all c h =
      let q = and_parts (is_of to p.site p.set p.site) (is_in before from p.site) h in
      let e = (same to p.site p.set p.site q.0).0 in
      subst (λ X. Flows (Contains rules) X p.site) e
      (along c (by (in_cases before from p.site q.1)))
    where
      by : (from ≡ Only p.site) ⊎ Contains before (at from p.site)
          → Flows (Contains rules) from p.site
      by (inl e) = subst (λ X. Flows (Contains rules) X p.site) (sym e) itself
      by (inr c) = All-contains FlowsAt before (at from p.site) all c
  given_flows before p (Part base field to) all c h = absurd (true≢false (sym h))
  given_flows before p (Parts base to) all c h = absurd (true≢false (sym h))

  followers_flow : (before ps : List Place) → All FlowsAt before → follow before ps ≡ true
      → All FlowsAt ps
  followers_flow before [] all h = All-nil FlowsAt
  followers_flow before (p ∷ ps) all h =
      let q = and_parts (list_any (gives before p) rules) (follow (p ∷ before) ps) h in
      let m = found (gives before p) rules q.0 in
      let here = given_flows before p m.0 all m.1 m.2 in
      All-cons FlowsAt p ps here
      (followers_flow (p ∷ before) ps (All-cons FlowsAt p before here all) q.1)

  pub places_flow : (ps : List Place) → follow [] ps ≡ true → (X : FlowSet) (s : ℕ)
      → (X ≡ Only s) ⊎ Contains ps (at X s) → Flows (Contains rules) X s
  places_flow ps h X s (inl e) = subst (λ Y. Flows (Contains rules) Y s) (sym e) itself
  places_flow ps h X s (inr c) =
      All-contains FlowsAt ps (at X s) (followers_flow [] ps (All-nil FlowsAt) h) c
