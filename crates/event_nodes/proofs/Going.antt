-- What a part of a walk adds to what was found before: owners and nodes of events, and how many
-- functions of letrecs.
use Rattle.std.proofs.Common.{◌≡◌, ℕ, suc, ◌+◌, Bool, true, false, if◌then◌else◌, List, [], ◌∷◌}
use Rattle.std.proofs.Common.{◌++◌, map, length, refl, sym, ap, ◌∙◌, subst, arith, append_assoc}
use Rattle.std.proofs.Common.{append-nil, length-append}
use Rattle.std.proofs.lemmas.List.{map-append}
use Rattle.hy_core.specs.ProgramTrees.{true_places}
use Rattle.event_nodes.specs.code.Walked.{Walk, back, defined, stepped}
use Rattle.event_nodes.specs.declared.events.Event.{Event}

abbrev pub owners_of : List Event → List ℕ
owners_of = map (λ e. e.owner)

abbrev pub nodes_of : List Event → List ℕ
nodes_of = map (λ e. e.node)

pub true_places-append : (n : ℕ) (bs ds : List Bool)
    → true_places n (bs ++ ds) ≡ true_places n bs ++ true_places (n + length bs) ds
true_places-append n [] ds =
    let same : n ≡ n + 0 = omega arith in ap (λ n. true_places n ds) same
true_places-append n (true ∷ bs) ds =
    let same : suc n + length bs ≡ n + suc (length bs) = omega arith in
    ap (λ l. n ∷ l)
    (true_places-append (suc n) bs ds
    ∙ ap (λ m. true_places (suc n) bs ++ true_places m ds) same)
true_places-append n (false ∷ bs) ds =
    let same : suc n + length bs ≡ n + suc (length bs) = omega arith in
    true_places-append (suc n) bs ds
    ∙ ap (λ m. true_places (suc n) bs ++ true_places m ds) same

-- flags of a list that has none
pub no_places : {A : Type 0} (n : ℕ) (qs : List A) (bs : List Bool)
    → true_places n (map (λ q. false) qs ++ bs) ≡ true_places (n + length qs) bs
no_places n [] bs = let same : n ≡ n + 0 = omega arith in ap (λ n. true_places n bs) same
no_places n (q ∷ qs) bs =
    let same : suc n + length qs ≡ n + suc (length qs) = omega arith in
    no_places (suc n) qs bs ∙ ap (λ m. true_places m bs) same

no_flags : {A : Type 0} (qs : List A) → length (map (λ q. false) qs) ≡ length qs
no_flags [] = refl
no_flags (q ∷ qs) = ap (λ n. suc n) (no_flags qs)

-- from a walk w to a walk v: the owners of events, for each node whether it is one, and how many
-- functions of letrecs
pub record Goes (w v : Walk) (os : List ℕ) (bs : List Bool) (many : ℕ) : Type 0 where
  pub function : v.function ≡ w.function
  pub node : v.node ≡ w.node + length bs
  pub next : v.next ≡ w.next + many
  pub owners : owners_of v.found ≡ owners_of w.found ++ os
  pub nodes : nodes_of v.found ≡ nodes_of w.found ++ true_places w.node bs

pub stays : (w : Walk) → Goes w w [] [] 0
stays w = record {
  function = refl;
  node = omega arith;
  next = omega arith;
  owners = sym (append-nil (owners_of w.found));
  nodes = sym (append-nil (nodes_of w.found));
}

pub both : {w v u : Walk} {os ps : List ℕ} {bs ds : List Bool} {c d : ℕ} → Goes w v os bs c
    → Goes v u ps ds d → Goes w u (os ++ ps) (bs ++ ds) (c + d)
both {w} {v} {u} {os} {ps} {bs} {ds} {c} {d} h g =
    let long = length-append bs ds in
    let first = h.node in
    let second = g.node in
    let before = h.next in
    let behind = g.next in record {
      function = g.function ∙ h.function;
      node = omega (arith, long, first, second);
      next = omega (arith, before, behind);
      owners =
          g.owners ∙ ap (λ l. l ++ ps) h.owners ∙ append_assoc (owners_of w.found) os ps;
      nodes =
          g.nodes ∙ (λ i. h.nodes i ++ true_places (first i) ds)
          ∙ append_assoc (nodes_of w.found) (true_places w.node bs)
          (true_places (w.node + length bs) ds)
          ∙ ap (λ l. nodes_of w.found ++ l) (sym (true_places-append w.node bs ds));
    }

-- a part, and behind it another one, where functions are numbered behind those of the first
pub onward : {w v u : Walk} {os : List ℕ} {bs ds : List Bool} {c d : ℕ} (f : ℕ → List ℕ)
    → Goes w v os bs c → Goes v u (f v.next) ds d
    → Goes w u (os ++ f (w.next + c)) (bs ++ ds) (c + d)
onward {w} {v} {u} {os} {bs} {ds} {c} {d} f h g =
    subst (λ n. Goes w u (os ++ f n) (bs ++ ds) (c + d)) h.next (both h g)

none_before : {w v : Walk} {os : List ℕ} {bs : List Bool} (c : ℕ) → Goes w v os bs (0 + c)
    → Goes w v os bs c
none_before {w} {v} {os} {bs} c h =
    let same : 0 + c ≡ c = omega arith in subst (λ n. Goes w v os bs n) same h

-- a part that has no functions of letrecs, and behind it another one
pub beside : {w v u : Walk} {os ps : List ℕ} {bs ds : List Bool} {d : ℕ} → Goes w v os bs 0
    → Goes v u ps ds d → Goes w u (os ++ ps) (bs ++ ds) d
beside {d = d} h g = none_before d (both h g)

steps : (b : Bool) (k : ℕ) (w : Walk)
    → Goes w (stepped b k w) (if b then k ∷ [] else []) (b ∷ []) 0
steps true k w =
    let event : Event = record { owner = k; node = w.node } in record {
      function = refl;
      node = refl;
      next = omega arith;
      owners = map-append (λ (e : Event). e.owner) w.found (event ∷ []);
      nodes = map-append (λ (e : Event). e.node) w.found (event ∷ []);
    }
steps false k w = record {
  function = refl;
  node = refl;
  next = omega arith;
  owners = sym (append-nil (owners_of w.found));
  nodes = sym (append-nil (nodes_of w.found));
}

-- an expression's own node, and behind it its parts
pub begins : (b : Bool) (k : ℕ) (w : Walk) {v : Walk} {os : List ℕ} {bs : List Bool} {c : ℕ}
    → Goes (stepped b k w) v os bs c
    → Goes w v ((if b then k ∷ [] else []) ++ os) (b ∷ bs) c
begins b k w h = beside (steps b k w) h

-- what is walked aside
pub put_back : {w v : Walk} {os : List ℕ} {bs : List Bool} {c : ℕ} → Goes w v os bs c
    → Goes w (back w.next v) os bs 0
put_back h = record {
  function = h.function;
  node = h.node;
  next = omega arith;
  owners = h.owners;
  nodes = h.nodes;
}

-- a part, and behind it another one that is walked aside from where the first begins
pub elsewhere : {w u v : Walk} {os ps : List ℕ} {bs ds : List Bool} {c d : ℕ} → Goes w u os bs c
    → Goes (back w.next u) v ps ds d → Goes w (back u.next v) (os ++ ps) (bs ++ ds) c
elsewhere {w} {u} {v} {os} {ps} {bs} {ds} {c} {d} h g =
    let first : Goes w (back w.next u) os bs 0 = put_back h in
    let whole = both first g in record {
      function = whole.function;
      node = whole.node;
      next = h.next;
      owners = whole.owners;
      nodes = whole.nodes;
    }

pub same_flags : {w v : Walk} {os : List ℕ} {bs ds : List Bool} {c : ℕ} → bs ≡ ds
    → Goes w v os bs c → Goes w v os ds c
same_flags {w} {v} {os} {bs} {ds} {c} is h = subst (λ l. Goes w v os l c) is h

-- owners of three parts
pub flat : {w v : Walk} {bs : List Bool} {c : ℕ} (os ps qs : List ℕ)
    → Goes w v ((os ++ ps) ++ qs) bs c → Goes w v (os ++ (ps ++ qs)) bs c
flat {w} {v} {bs} {c} os ps qs h = subst (λ l. Goes w v l bs c) (append_assoc os ps qs) h

-- the body of a function of a letrec, and behind it others
pub within : {w v u : Walk} {bs ds : List Bool} {c d : ℕ} (f g : ℕ → List ℕ)
    → Goes (defined w) v (f (w.next + 1)) bs c → Goes v u (g v.next) ds d
    → Goes w u (f (suc w.next) ++ g (suc (w.next + c))) (bs ++ ds) (suc (c + d))
within {w} {v} {u} {bs} {ds} {c} {d} f g h j =
    let after = h.next in
    let first : Goes w v (f (w.next + 1)) bs (suc c) = record {
      function = h.function;
      node = h.node;
      next = omega (arith, after);
      owners = h.owners;
      nodes = h.nodes;
    } in
    let one : w.next + 1 ≡ suc w.next = omega arith in
    let behind : w.next + suc c ≡ suc (w.next + c) = omega arith in
    let many : suc c + d ≡ suc (c + d) = omega arith in
    subst (λ n. Goes w u (f (suc w.next) ++ g (suc (w.next + c))) (bs ++ ds) n) many
    (subst (λ n. Goes w u (f (suc w.next) ++ g n) (bs ++ ds) (suc c + d)) behind
    (subst (λ n. Goes w u (f n ++ g (w.next + suc c)) (bs ++ ds) (suc c + d)) one
    (onward g first j)))

-- behind nodes that are no events
pub skips : {A : Type 0} {w v : Walk} {os : List ℕ} {bs : List Bool} {c : ℕ} (qs : List A)
    → Goes (record w { node = w.node + length qs }) v os bs c
    → Goes w v os (map (λ q. false) qs ++ bs) c
skips {A} {w} {v} {os} {bs} {c} qs h =
    let own = no_flags qs in
    let long = length-append (map (λ q. false) qs) bs in
    let place = h.node in record {
      function = h.function;
      node = omega (arith, own, long, place);
      next = h.next;
      owners = h.owners;
      nodes = h.nodes ∙ ap (λ l. nodes_of w.found ++ l) (sym (no_places w.node qs bs));
    }
