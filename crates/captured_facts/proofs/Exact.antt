-- What functions have by the facts of a program is what is free in them.
use Rattle.std.proofs.Common.{◌≡◌, ◌⊎◌, ℕ, List, length, true}
use Rattle.std.proofs.Common.{refl, sym, ap, ◌∙◌, subst, arith, inl, inr}
use Rattle.std.specs.Prelude.{slice_get}
use Rattle.std.proofs.lemmas.Option.{same_Some}
use Rattle.hy_core.specs.Resolved.{FunctionTree}
use Rattle.hy_core.specs.Scopes.{is_bound}
use Rattle.capture_flow.specs.Least as least
use Rattle.capture_flow.specs.Least.{Has}
use Rattle.capture_flow.specs.declared.fact.Fact.{Fact}
use Rattle.lifted_program.specs.Captured.{Use, OfVariable, OfFunction, Definition, definitions_of}
use Rattle.lifted_program.specs.Captured.{IsDefined, IsFree, occurs, passed}
use Rattle.lifted_program.proofs.ReadyLemmas.{HaveAll, have_from}
use Rattle.lifted_program.proofs.Variables.{In, contained_in, in_contained}
use Rattle.captured_facts.specs.Facts.{first_place, facts_of}
use Rattle.captured_facts.proofs.FactsComplete.{AllPass, have_at, program_complete}
use Rattle.captured_facts.proofs.FactsSound.{Joined, Valid, program_sound}
use Rattle.captured_facts.proofs.Places.{Placed, bound_placed, place_held, place_kept}
use Rattle.captured_facts.proofs.Places.{placed_bound}

module _ (program : List FunctionTree) where
  abbrev D : ℕ → Definition → Type 0
  D = IsDefined program

  abbrev start : ℕ
  start = length program

  pub one : (f : ℕ) (d c : Definition) → D f d → D f c → d ≡ c
  one f d c h k =
      let a = h.1 in
      let b = k.1 in
      let e : h.0 ≡ k.0 = omega (arith, a, b) in
      same_Some d c
      (sym h.2 ∙ ap (slice_get (definitions_of (length program) program)) e ∙ k.2)

  defined : HaveAll D start (definitions_of start program)
  defined = have_from D start (definitions_of start program) (λ j d e. (j, refl, e))

  -- what a function has is free in it
  pub record Free (f x p : ℕ) : Type 0 where
    pub definition : Definition
    pub at : D f definition
    pub placed : Placed definition.scope x p
    pub free : IsFree program f x

  -- what is free in a function that is used is free in the one that uses it
  carried : (d c : Definition) (f g x : ℕ) → D f d → D g c → is_bound x d.scope ≡ true
      → (In (OfFunction g) d.uses ⊎ ((u : Use) → In u c.uses → In u d.uses)) → IsFree program g x
      → IsFree program f x
  carried d c f g x at there b (inl i) h = passed d g at b (in_contained (OfFunction g) d.uses i) h
  carried d c f g x at there b (inr i) (occurs e k bound u) =
      let own = subst (λ (e : Definition). In (OfVariable x) e.uses) (one g e c k there)
      (contained_in (OfVariable x) e.uses u) in
      occurs d at b (in_contained (OfVariable x) d.uses (i (OfVariable x) own))
  carried d c f g x at there b (inr i) (passed e g' k bound u h) =
      let own = subst (λ (e : Definition). In (OfFunction g') e.uses) (one g e c k there)
      (contained_in (OfFunction g') e.uses u) in
      passed d g' at b (in_contained (OfFunction g') d.uses (i (OfFunction g') own)) h

  module _ (given : Fact → Type 0)
      (true_facts : (u : Fact) → given u → In u (facts_of start program)) where
    valid : (u : Fact) → given u → Valid D one u
    valid u g = program_sound D one program start defined u (true_facts u g)

    pub free_of : {f x p : ℕ} → Has given f x p → Free f x p
    free_of {f} {x} {p} (least.occurs g) =
        let v = valid _ g in record {
          definition = v.0;
          at = v.1;
          placed = v.2;
          free = occurs v.0 v.1 (placed_bound v.0.scope x p v.2)
              (in_contained (OfVariable x) v.0.uses v.3);
        }
    free_of {f} {x} {p} (least.uses {g = g} fact below h) =
        let v = valid _ fact in
        let other = free_of h in
        let d = v.0 in
        let c = other.definition in
        let j : Joined D one d c g = v.3 c other.at in
        let placed = place_held x p j.1 (place_kept x p j.2 other.placed)
        (let e = v.2 in omega (arith, e, below)) in
        record {
          definition = d;
          at = v.1;
          placed = placed;
          free = carried d c f g x v.1 other.at (placed_bound d.scope x p placed) j.3 other.free;
        }

  module _ (given : Fact → Type 0)
      (all_facts : (u : Fact) → In u (facts_of start program) → given u) where
    passes : (f : ℕ) (d : Definition) → D f d → AllPass D one given f d
    passes f d h =
        subst (λ f. AllPass D one given f d) (sym h.1)
        (have_at (AllPass D one given) start (definitions_of start program) h.0 d h.2
        (program_complete D one given program start defined all_facts))

    has_of : {f x : ℕ} → IsFree program f x → (d : Definition) → D f d → (p : ℕ)
        → Placed d.scope x p → Has given f x p
    has_of {f} {x} (occurs e at b u) d h p k =
        let i = subst (λ (e : Definition). In (OfVariable x) e.uses) (one f e d at h)
        (contained_in (OfVariable x) e.uses u) in
        passes f d h (OfVariable x) i p k
    has_of {f} {x} (passed e g at b u other) d h p k =
        let i = subst (λ (e : Definition). In (OfFunction g) e.uses) (one f e d at h)
        (contained_in (OfFunction g) e.uses u) in
        by other (λ c there q l. has_of other c there q l) i
      where
        by : IsFree program g x
            → ((c : Definition) → D g c → (q : ℕ) → Placed c.scope x q → Has given g x q)
            → In (OfFunction g) d.uses → Has given f x p
        by (occurs c there bound v) rest i =
            passes f d h (OfFunction g) i c there x p k bound (rest c there)
        by (passed c g' there bound v o) rest i =
            passes f d h (OfFunction g) i c there x p k bound (rest c there)

    pub free_has : (f x : ℕ) → IsFree program f x → (p : ℕ) × Has given f x p
    free_has f x h = by h
      where
        by : IsFree program f x → (p : ℕ) × Has given f x p
        by (occurs e at b u) =
            let q = first_place e.scope x in
            (q, has_of h e at q (refl, bound_placed e.scope x b))
        by (passed e g at b u o) =
            let q = first_place e.scope x in
            (q, has_of h e at q (refl, bound_placed e.scope x b))
