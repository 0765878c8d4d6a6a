-- The events of a tree that is supplied with numbers are the first that are supplied.
use Rattle.std.proofs.Common.{◌≡◌, ℕ, suc, ◌+◌, ◌≤◌, List, [], ◌∷◌, ◌++◌, length, take, drop, arith}
use Rattle.std.proofs.Common.{refl, sym, ap, ◌∙◌}
use Rattle.std.proofs.Math.Seq.{take-add, take-length}
use Rattle.std.proofs.lemmas.List.{length-append}
use Rattle.hy_core.specs.Resolved as r
use Rattle.hy_core.specs.Resolved.{Head, Expression, Expressions, NoExpressions, MoreExpressions}
use Rattle.hy_core.specs.Resolved.{Clauses, NoClauses, MoreClauses}
use Rattle.hy_core.specs.Resolved.{Functions, NoFunctions, MoreFunctions}
use Rattle.hy_core.specs.Supplied.{Supply, all_supplied, behind, behind_all, behind_clauses}
use Rattle.hy_core.specs.Supplied.{behind_functions, behind_head, behind_sites, clauses_supplied}
use Rattle.hy_core.specs.Supplied.{expression_count, functions_supplied, supplied, supplied_head}
use Rattle.lifted_numbers.specs.TreeNumbers.{all_numbers, clauses_numbers, functions_numbers}
use Rattle.lifted_numbers.specs.TreeNumbers.{head_numbers, numbers}
use Rattle.lifted_program.specs.LetrecNumbers.{count, count_all, count_clauses, count_functions}
use Rattle.number_owners.specs.EventOwners.{all_event_owners, clauses_event_owners, event_owners}
use Rattle.number_owners.specs.EventOwners.{functions_event_owners, head_event_owners}
use Rattle.std.proofs.lemmas.List.{drop-drop, length-drop}

-- the events of what is supplied in a part, the supply that it leaves, and the owners of the events
pub record Takes (made : Supply → List ℕ) (after : Supply → Supply) (owners : (k n : ℕ) → List ℕ)
    : Type 0 where
  pub many : ℕ
  pub owned : (k n : ℕ) → length (owners k n) ≡ many
  pub left : (s : Supply) → (after s).events ≡ drop many s.events
  pub events : (s : Supply) → many ≤ length s.events → made s ≡ take many s.events

takes_none : Takes (λ s. []) (λ s. s) (λ k n. [])
takes_none = record {
  many = 0;
  owned = λ k n. refl;
  left = λ s. refl;
  events = λ s low. refl;
}

-- behind some sites
takes_sites : {made : Supply → List ℕ} {after : Supply → Supply} {owners : (k n : ℕ) → List ℕ}
    (sites : ℕ) → Takes made after owners
    → Takes (λ s. made (behind_sites sites s)) (λ s. after (behind_sites sites s)) owners
takes_sites sites h = record {
  many = h.many;
  owned = h.owned;
  left = λ s. h.left (behind_sites sites s);
  events = λ s low. h.events (behind_sites sites s) low;
}

takes_both : {f g : Supply → List ℕ} {a b : Supply → Supply} {p q : (k n : ℕ) → List ℕ}
    (shift : ℕ) → Takes f a p → Takes g b q
    → Takes (λ s. f s ++ g (a s)) (λ s. b (a s)) (λ k n. p k n ++ q k (n + shift))
takes_both {a = a} {p = p} {q = q} shift h g = record {
  many = h.many + g.many;
  owned = λ k n.
      length-append (p k n) (q k (n + shift))
      ∙ (λ i. h.owned k n i + g.owned k (n + shift) i);
  left = λ s.
      g.left (a s) ∙ ap (drop g.many) (h.left s) ∙ drop-drop g.many h.many s.events;
  events = λ s low.
      let rest = ap length (h.left s) ∙ length-drop h.many s.events in
      (λ i. h.events s (omega (arith, low)) i
      ++ (g.events (a s) (omega (arith, low, rest)) ∙ ap (take g.many) (h.left s)) i)
      ∙ sym (take-add h.many g.many s.events);
}

-- an event
one_event : (head : Head) → (made : (xs ys : List ℕ) → 1 ≤ length xs
    → (head_numbers (supplied_head head (record { events = xs; sites = ys }))).events ≡ take 1 xs)
    → ((s : Supply) → (behind_head head s).events ≡ drop 1 s.events)
    → ((k : ℕ) → length (head_event_owners k head) ≡ 1)
    → Takes (λ s. (head_numbers (supplied_head head s)).events) (behind_head head)
    (λ k n. head_event_owners k head)
one_event head made left one = record {
  many = 1;
  owned = λ k n. one k;
  left = left;
  events = λ s low. made s.events s.sites low;
}

no_event : (head : Head) → ((s : Supply) → (head_numbers (supplied_head head s)).events ≡ [])
    → ((s : Supply) → (behind_head head s).events ≡ s.events)
    → ((k : ℕ) → length (head_event_owners k head) ≡ 0)
    → Takes (λ s. (head_numbers (supplied_head head s)).events) (behind_head head)
    (λ k n. head_event_owners k head)
no_event head made left none = record {
  many = 0;
  owned = λ k n. none k;
  left = left;
  events = λ s low. made s;
}

send_made : (node : ℕ) (xs ys : List ℕ) → 1 ≤ length xs
    → (head_numbers (supplied_head (r.Send node) (record { events = xs; sites = ys }))).events
    ≡ take 1 xs
send_made node [] ys low = absurd (omega (arith, low))
send_made node (x ∷ xs) ys low = refl

spawn_made : (node f : ℕ) (xs ys : List ℕ) → 1 ≤ length xs
    → (head_numbers (supplied_head (r.Spawn node f) (record { events = xs; sites = ys }))).events
    ≡ take 1 xs
spawn_made node f [] ys low = absurd (omega (arith, low))
spawn_made node f (x ∷ xs) ys low = refl

display_made : (node : ℕ) (xs ys : List ℕ) → 1 ≤ length xs
    → (head_numbers (supplied_head (r.Display node) (record { events = xs; sites = ys }))).events
    ≡ take 1 xs
display_made node [] ys low = absurd (omega (arith, low))
display_made node (x ∷ xs) ys low = refl

takes_head : (head : Head)
    → Takes (λ s. (head_numbers (supplied_head head s)).events) (behind_head head)
    (λ k n. head_event_owners k head)
takes_head (r.Send node) = one_event (r.Send node) (send_made node) (λ s. refl) (λ k. refl)
takes_head (r.Spawn node f) =
    one_event (r.Spawn node f) (spawn_made node f) (λ s. refl) (λ k. refl)
takes_head (r.Display node) =
    one_event (r.Display node) (display_made node) (λ s. refl) (λ k. refl)
takes_head (r.Setelement site) =
    no_event (r.Setelement site) (λ s. refl) (λ s. refl) (λ k. refl)
takes_head (r.BuiltIn b) = no_event (r.BuiltIn b) (λ s. refl) (λ s. refl) (λ k. refl)
takes_head (r.Function f) = no_event (r.Function f) (λ s. refl) (λ s. refl) (λ k. refl)
takes_head (r.Local f) = no_event (r.Local f) (λ s. refl) (λ s. refl) (λ k. refl)
takes_head (r.Raising class) = no_event (r.Raising class) (λ s. refl) (λ s. refl) (λ k. refl)
takes_head r.MatchFail = no_event r.MatchFail (λ s. refl) (λ s. refl) (λ k. refl)

-- the arguments of a call have the numbers that its head leaves, and the same letrecs before them
takes_call : {f g : Supply → List ℕ} {a b : Supply → Supply} {p q : (k n : ℕ) → List ℕ}
    → Takes f a p → Takes g b q
    → Takes (λ s. f s ++ g (a s)) (λ s. b (a s)) (λ k n. p k n ++ q k n)
unfolding takes_both
takes_call {p = p} {q = q} h g =
    let both = takes_both 0 h g in record {
      many = both.many;
      owned = λ k n.
          length-append (p k n) (q k n) ∙ (λ i. h.owned k n i + g.owned k n i);
      left = both.left;
      events = both.events;
    }

-- the owners of a function's events are those in it; and those behind it begin one further
inside : {made : Supply → List ℕ} {after : Supply → Supply} {owners : (k n : ℕ) → List ℕ}
    → Takes made after owners → Takes made after (λ k n. owners n (suc n))
inside h = record {
  many = h.many;
  owned = λ k n. h.owned n (suc n);
  left = h.left;
  events = h.events;
}

later : {made : Supply → List ℕ} {after : Supply → Supply} {owners : (k n : ℕ) → List ℕ}
    → Takes made after owners → Takes made after (λ k n. owners k (suc n))
later h = record {
  many = h.many;
  owned = λ k n. h.owned k (suc n);
  left = h.left;
  events = h.events;
}

mutual
  pub takes : (e : Expression)
      → Takes (λ s. (numbers (supplied e s)).events) (behind e) (λ k n. event_owners k n e)
  takes (r.Int v) = takes_none
  takes (r.Atom a) = takes_none
  takes r.Nil = takes_none
  takes (r.Variable x) = takes_none
  takes r.Refused = takes_none
  takes (r.Text site text) = takes_sites 1 takes_none
  takes (r.Tuple site es) = takes_sites 1 (all_take es)
  takes (r.ListOf site es e) =
      takes_sites (expression_count es) (takes_both (count_all es) (all_take es) (takes e))
  takes (r.Values es) = all_take es
  takes (r.Let xs e b) = takes_both (count e) (takes e) (takes b)
  takes (r.Do e b) = takes_both (count e) (takes e) (takes b)
  takes (r.Case e cs) = takes_both (count e) (takes e) (clauses_take cs)
  takes (r.Letrec fs e) = takes_both (count_functions fs) (functions_take fs) (takes e)
  takes (r.Call head es) = takes_call (takes_head head) (all_take es)
  takes (r.Receive cs timeout e) = takes_both (count_clauses cs) (clauses_take cs) (takes e)

  all_take : (es : Expressions)
      → Takes (λ s. (all_numbers (all_supplied es s)).events) (behind_all es)
      (λ k n. all_event_owners k n es)
  all_take NoExpressions = takes_none
  all_take (MoreExpressions e es) = takes_both (count e) (takes e) (all_take es)

  clauses_take : (cs : Clauses)
      → Takes (λ s. (clauses_numbers (clauses_supplied cs s)).events) (behind_clauses cs)
      (λ k n. clauses_event_owners k n cs)
  clauses_take NoClauses = takes_none
  clauses_take (MoreClauses ps g b cs) =
      takes_both (count g) (takes g) (takes_both (count b) (takes b) (clauses_take cs))

  functions_take : (fs : Functions)
      → Takes (λ s. (functions_numbers (functions_supplied fs s)).events) (behind_functions fs)
      (λ k n. functions_event_owners n fs)
  functions_take NoFunctions = takes_none
  functions_take (MoreFunctions f xs b fs) =
      takes_both (count b) (inside (takes b)) (later (functions_take fs))

-- the events of a tree are all that are supplied, where these are as many as the tree has
pub events_taken : (e : Expression) (s : Supply) → length (event_owners 0 0 e) ≡ length s.events
    → (numbers (supplied e s)).events ≡ s.events
events_taken e s h =
    let t = takes e in
    let many : t.many ≡ length s.events = sym (t.owned 0 0) ∙ h in
    t.events s (omega (arith, many)) ∙ ap (λ c. take c s.events) many ∙ take-length s.events
