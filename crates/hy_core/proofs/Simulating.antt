-- A computation that simulates another does the same in each run.
use Rattle.std.proofs.Common.{◌≡◌, ℕ, zero, suc, List, [], ◌∷◌, map, Option, Some, None, refl, sym, ap, ◌∙◌, subst}
use Rattle.std.proofs.lemmas.List.{map-id}
use Rattle.std.proofs.lemmas.List.Elements.{All-nil, All-cons}
use Rattle.std.specs.List.{filter_map, cons_option, All}
use Rattle.std.specs.Option.{option_map}
use Rattle.hy_core.specs.Comparison.{map_input, Waiting, shown_moment, SameRun}
use Rattle.hy_core.specs.Computation.{Computation, Give, Raise, Fault, Act, Call, Birth, Receive, attempt, bind}
use Rattle.hy_core.specs.Computation.{Input, Got, Lapsed, Born}
use Rattle.hy_core.specs.Computation.{Did, Used, Run, run, after, after_all, dones}
use Rattle.hy_core.specs.Simulation.{Acts, Simulates}

module _ {V V' C F F' A A' W W' : Type 0} (value : V' → V) (shown : A' → Option A) (Allowed : A → Type 0) (Calls : F → List V → F' → List V' → Type 0) (waiting : Waiting V W) (waiting' : Waiting V' W') where
  abbrev Like : Computation V C F A W → Computation V' C F' A' W' → Type 0
  Like = Simulates value shown Allowed Calls waiting waiting'

  abbrev Acting : Option A → Computation V C F A W → (Computation V C F A W → Type 0) → Type 0
  Acting = Acts value shown Allowed Calls waiting waiting'

  acts_attempt : (o : Option A) (p : Computation V C F A W) (k : List V → Computation V C F A W) (h : C → V → Computation V C F A W) (Follows Follows' : Computation V C F A W → Type 0) → Acting o p Follows → ((p' : Computation V C F A W) → Follows p' → Follows' (attempt p' k h)) → Acting o (attempt p k h) Follows'
  acts_attempt None p k h Follows Follows' a on = on p a
  acts_attempt (Some e) (Act d p) k h Follows Follows' a on = (a.0, a.1, on p a.2)
  acts_attempt (Some e) _ k h Follows Follows' a on = absurd a

  -- through a part, with both ways on
  pub simulates_attempt : (p : Computation V C F A W) (q : Computation V' C F' A' W') (k : List V → Computation V C F A W) (k' : List V' → Computation V' C F' A' W') (h : C → V → Computation V C F A W) (h' : C → V' → Computation V' C F' A' W') → Like p q → ((us : List V') → Like (k (map value us)) (k' us)) → ((c : C) (u : V') → Like (h c (value u)) (h' c u)) → Like (attempt p k h) (attempt q k' h')
  simulates_attempt p (Act b q) k k' h h' s on raised =
      acts_attempt (shown b) p k h (λ p'. Like p' q) (λ p'. Like p' (attempt q k' h')) s (λ p' s'. simulates_attempt p' q k k' h h' s' on raised)
  simulates_attempt (Give vs) (Give us) k k' h h' s on raised = subst (λ ts. Like (k ts) (k' us)) s (on us)
  simulates_attempt (Raise c v) (Raise d u) k k' h h' s on raised = subst (λ e. Like (h e v) (h' d u)) s.0 (subst (λ t. Like (h d t) (h' d u)) s.1 (raised d u))
  simulates_attempt Fault Fault k k' h h' s on raised = tt
  simulates_attempt (Call f vs g j) (Call f' us g' j') k k' h h' s on raised =
      (s.0, (λ ws. simulates_attempt (g (map value ws)) (g' ws) k k' h h' (s.1 ws) on raised), λ c w. simulates_attempt (j c (value w)) (j' c w) k k' h h' (s.2 c w) on raised)
  simulates_attempt (Birth g) (Birth g') k k' h h' s on raised = λ pid. simulates_attempt (g pid) (g' pid) k k' h h' (s pid) on raised
  simulates_attempt (Receive w g p) (Receive w' g' q) k k' h h' s on raised =
      (s.0, (λ v. simulates_attempt (g (value v)) (g' v) k k' h h' (s.1 v) on raised), simulates_attempt p q k k' h h' s.2 on raised)
  simulates_attempt _ _ k k' h h' s on raised = absurd s

  -- what is raised is raised by both
  pub simulates_bind : (p : Computation V C F A W) (q : Computation V' C F' A' W') (k : List V → Computation V C F A W) (k' : List V' → Computation V' C F' A' W') → Like p q → ((us : List V') → Like (k (map value us)) (k' us)) → Like (bind p k) (bind q k')
  simulates_bind p q k k' s on = simulates_attempt p q k k' Raise Raise s on (λ c u. (refl, refl))

-- what stands first in two runs

none_first : {X : Type 0} (o : Option X) (xs : List X) → cons_option o xs ≡ [] → (o ≡ None) × (xs ≡ [])
none_first None xs e = (refl, e)
none_first (Some x) xs e = absurd (cons_nil x xs e)
  where
    cons_nil : {X : Type 0} (x : X) (xs : List X) → x ∷ xs ≡ [] → ⊥
    cons_nil x xs e = cc

module _ {V V' C B B' W W' : Type 0} (value : V' → V) (shown : B' → Option B) (waiting : Waiting V W) (waiting' : Waiting V' W') where
  abbrev Same : Run V C B W → Run V' C B' W' → Type 0
  Same r r' = SameRun value waiting waiting' shown r r'

  unseen_first : (b : B') (r : Run V C B W) (r' : Run V' C B' W') → shown b ≡ None → Same r r' → Same r (after (Did b) r')
  unseen_first b r r' e s = record {
    moments = ap (λ o. cons_option (option_map Did o) (filter_map (shown_moment value shown) r'.moments)) e ∙ s.moments;
    calls = s.calls;
    inputs = s.inputs;
    end = s.end;
  }

  seen_first : (a d : B) (b : B') (r : Run V C B W) (r' : Run V' C B' W') → shown b ≡ Some a → a ≡ d → Same r r' → Same (after (Did d) r) (after (Did b) r')
  seen_first a d b r r' e f s = record {
    moments = ap (λ o. cons_option (option_map Did o) (filter_map (shown_moment value shown) r'.moments)) e ∙ (λ i. Did (f i) ∷ s.moments i);
    calls = s.calls;
    inputs = s.inputs;
    end = s.end;
  }

  used_first : (i : Input V') (r : Run V C B W) (r' : Run V' C B' W') → Same r r' → Same (after (Used (map_input value i)) r) (after (Used i) r')
  used_first i r r' s =
      record { moments = ap (◌∷◌ (Used (map_input value i))) s.moments; calls = s.calls; inputs = s.inputs; end = s.end }

  unseen_all : (note : List B') (r : Run V C B W) (r' : Run V' C B' W') → filter_map shown note ≡ [] → Same r r' → Same r (after_all note r')
  unseen_all [] r r' e s = s
  unseen_all (b ∷ note) r r' e s =
      let h = none_first (shown b) (filter_map shown note) e in
      unseen_first b r (after_all note r') h.0 (unseen_all note r r' h.1 s)

-- bodies that simulate each other make runs the same
module _ {V V' C F F' A A' B' W W' : Type 0} (value : V' → V) (did : A' → B') (note : List B') (shown : B' → Option A) (Allowed : A → Type 0) (Calls : F → List V → F' → List V' → Type 0) (waiting : Waiting V W) (waiting' : Waiting V' W') (body : F → List V → Computation V C F A W) (body' : F' → List V' → Computation V' C F' A' W') where
  abbrev Related : Computation V C F A W → Computation V' C F' A' W' → Type 0
  Related = Simulates value (λ a. shown (did a)) Allowed Calls waiting waiting'

  abbrev running : ℕ → Computation V C F A W → List (Input V') → Run V C A W
  running n p is = run (λ a. a) [] body n p (map (map_input value) is)

  abbrev running' : ℕ → Computation V' C F' A' W' → List (Input V') → Run V' C B' W'
  running' n q is = run did note body' n q is

  acts_run : (n : ℕ) (is : List (Input V')) (b : B') (o : Option A) (p : Computation V C F A W) (r' : Run V' C B' W') (Follows : Computation V C F A W → Type 0) → shown b ≡ o → Acts value (λ a. shown (did a)) Allowed Calls waiting waiting' o p Follows → ((p' : Computation V C F A W) → Follows p' → SameRun value waiting waiting' shown (running n p' is) r') → SameRun value waiting waiting' shown (running n p is) (after (Did b) r')
  acts_run n is b None p r' Follows e a on = unseen_first value shown waiting waiting' b (running n p is) r' e (on p a)
  acts_run n is b (Some c) (Act d p) r' Follows e a on = seen_first value shown waiting waiting' c d b (running n p is) r' e a.0 (on p a.2)
  acts_run n is b (Some c) _ r' Follows e a on = absurd a

  module _ (unseen : filter_map shown note ≡ []) (bodies : (f : F) (vs : List V) (g : F') (us : List V') → Calls f vs g us → Related (body f vs) (body' g us)) where
    pub simulates_run : (n : ℕ) (p : Computation V C F A W) (q : Computation V' C F' A' W') (is : List (Input V')) → Related p q → SameRun value waiting waiting' shown (running n p is) (running' n q is)
    simulates_run n p (Act b q) is s =
        acts_run n is (did b) (shown (did b)) p (running' n q is) (λ p'. Related p' q) refl s (λ p' s'. simulates_run n p' q is s')
    simulates_run n (Give vs) (Give us) is s = record { moments = refl; calls = refl; inputs = refl; end = s }
    simulates_run n (Raise c v) (Raise d u) is s = record { moments = refl; calls = refl; inputs = refl; end = s }
    simulates_run n Fault Fault is s = record { moments = refl; calls = refl; inputs = refl; end = tt }
    simulates_run zero (Call f vs k h) (Call g us k' h') is s = record { moments = refl; calls = refl; inputs = refl; end = tt }
    simulates_run (suc n) (Call f vs k h) (Call g us k' h') is s =
        let p = attempt (body f vs) k h in
        let q = attempt (body' g us) k' h' in
        let through = simulates_attempt value (λ a. shown (did a)) Allowed Calls waiting waiting' (body f vs) (body' g us) k k' h h' (bodies f vs g us s.0) s.1 s.2 in
        unseen_all value shown waiting waiting' note (running n p is) (running' n q is) unseen (simulates_run n p q is through)
    simulates_run n (Birth k) (Birth k') [] s = record { moments = refl; calls = refl; inputs = refl; end = tt }
    simulates_run n (Birth k) (Birth k') (Born pid ∷ is) s =
        used_first value shown waiting waiting' (Born pid) (running n (k pid) is) (running' n (k' pid) is) (simulates_run n (k pid) (k' pid) is (s pid))
    simulates_run n (Birth k) (Birth k') (Got v ∷ is) s = record { moments = refl; calls = refl; inputs = refl; end = tt }
    simulates_run n (Birth k) (Birth k') (Lapsed ∷ is) s = record { moments = refl; calls = refl; inputs = refl; end = tt }
    simulates_run n (Receive w k p) (Receive w' k' q) [] s = record { moments = refl; calls = refl; inputs = refl; end = s.0 }
    simulates_run n (Receive w k p) (Receive w' k' q) (Got v ∷ is) s =
        used_first value shown waiting waiting' (Got v) (running n (k (value v)) is) (running' n (k' v) is) (simulates_run n (k (value v)) (k' v) is (s.1 v))
    simulates_run n (Receive w k p) (Receive w' k' q) (Lapsed ∷ is) s =
        used_first value shown waiting waiting' Lapsed (running n p is) (running' n q is) (simulates_run n p q is s.2)
    simulates_run n (Receive w k p) (Receive w' k' q) (Born pid ∷ is) s = record { moments = refl; calls = refl; inputs = refl; end = tt }
    simulates_run n _ _ is s = absurd s

  acts_does : (n : ℕ) (is : List (Input V')) (o : Option A) (p : Computation V C F A W) (Follows : Computation V C F A W → Type 0) → Acts value (λ a. shown (did a)) Allowed Calls waiting waiting' o p Follows → ((p' : Computation V C F A W) → Follows p' → All Allowed (dones (running n p' is).moments)) → All Allowed (dones (running n p is).moments)
  acts_does n is None p Follows a on = on p a
  acts_does n is (Some c) (Act d p) Follows a on = All-cons Allowed d (dones (running n p is).moments) a.1 (on p a.2)
  acts_does n is (Some c) _ Follows a on = absurd a

  module _ (bodies : (f : F) (vs : List V) (g : F') (us : List V') → Calls f vs g us → Related (body f vs) (body' g us)) where
    -- each act that is done is of those that are allowed
    pub simulates_does : (n : ℕ) (p : Computation V C F A W) (q : Computation V' C F' A' W') (is : List (Input V')) → Related p q → All Allowed (dones (running n p is).moments)
    simulates_does n p (Act b q) is s =
        acts_does n is (shown (did b)) p (λ p'. Related p' q) s (λ p' s'. simulates_does n p' q is s')
    simulates_does n (Give vs) (Give us) is s = All-nil Allowed
    simulates_does n (Raise c v) (Raise d u) is s = All-nil Allowed
    simulates_does n Fault Fault is s = All-nil Allowed
    simulates_does zero (Call f vs k h) (Call g us k' h') is s = All-nil Allowed
    simulates_does (suc n) (Call f vs k h) (Call g us k' h') is s =
        simulates_does n (attempt (body f vs) k h) (attempt (body' g us) k' h') is
        (simulates_attempt value (λ a. shown (did a)) Allowed Calls waiting waiting' (body f vs) (body' g us) k k' h h' (bodies f vs g us s.0) s.1 s.2)
    simulates_does n (Birth k) (Birth k') [] s = All-nil Allowed
    simulates_does n (Birth k) (Birth k') (Born pid ∷ is) s = simulates_does n (k pid) (k' pid) is (s pid)
    simulates_does n (Birth k) (Birth k') (Got v ∷ is) s = All-nil Allowed
    simulates_does n (Birth k) (Birth k') (Lapsed ∷ is) s = All-nil Allowed
    simulates_does n (Receive w k p) (Receive w' k' q) [] s = All-nil Allowed
    simulates_does n (Receive w k p) (Receive w' k' q) (Got v ∷ is) s = simulates_does n (k (value v)) (k' v) is (s.1 v)
    simulates_does n (Receive w k p) (Receive w' k' q) (Lapsed ∷ is) s = simulates_does n p q is s.2
    simulates_does n (Receive w k p) (Receive w' k' q) (Born pid ∷ is) s = All-nil Allowed
    simulates_does n _ _ is s = absurd s

-- a computation simulates itself
module _ {V C F A W : Type 0} (waiting : Waiting V W) where
  pub simulates_itself : (p : Computation V C F A W) → Simulates (λ v. v) Some (λ a. Unit {0}) (λ f vs g us. (g ≡ f) × (us ≡ vs)) waiting waiting p p
  simulates_itself (Give vs) = map-id vs
  simulates_itself (Raise c v) = (refl, refl)
  simulates_itself Fault = tt
  simulates_itself (Act a p) = (refl, tt, simulates_itself p)
  simulates_itself (Call f vs k h) = ((refl, refl), (λ ws. subst (λ l. Simulates (λ v. v) Some (λ a. Unit {0}) (λ f vs g us. (g ≡ f) × (us ≡ vs)) waiting waiting (k l) (k ws)) (sym (map-id ws)) (simulates_itself (k ws))), λ c w. simulates_itself (h c w))
  simulates_itself (Birth k) = λ pid. simulates_itself (k pid)
  simulates_itself (Receive w k p) =
      (record { timeout = refl; accepts = λ v. refl }, (λ v. simulates_itself (k v)), simulates_itself p)

-- acts that show nothing may come before
module _ {V V' C F F' A A' W W' : Type 0} (value : V' → V) (shown : A' → Option A) (Allowed : A → Type 0) (Calls : F → List V → F' → List V' → Type 0) (waiting : Waiting V W) (waiting' : Waiting V' W') where
  pub skips_unseen : (p : Computation V C F A W) (q : Computation V' C F' A' W') (a : A') → shown a ≡ None → Simulates value shown Allowed Calls waiting waiting' p q → Simulates value shown Allowed Calls waiting waiting' p (Act a q)
  skips_unseen p q a e s =
      subst (λ o. Acts value shown Allowed Calls waiting waiting' o p (λ p'. Simulates value shown Allowed Calls waiting waiting' p' q)) (sym e) s
