-- Simulation over the same values, where each act is shown: what passes over programs are proved with.
use Rattle.std.proofs.Common.{◌≡◌, ℕ, List, [], map, Some, refl, sym, ap, ◌∙◌, subst}
use Rattle.std.proofs.lemmas.List.{map-id}
use Rattle.std.specs.List.{All}
use Rattle.hy_core.specs.Comparison.{Waiting, SameWait, SameRun}
use Rattle.hy_core.specs.Computation.{Computation, Give, Raise, Fault, Act, Call, Birth, Receive, attempt, bind, Input, run, dones}
use Rattle.hy_core.specs.Simulation.{Simulates, map_calls}
use Rattle.hy_core.proofs.Comparing.{map_inputs-id}
use Rattle.hy_core.proofs.Simulating.{simulates_attempt, simulates_run, simulates_does}

-- values that are given
pub values_alike : {V : Type 0} (vs us : List V) → us ≡ vs → map (λ v. v) us ≡ vs
values_alike vs us e = map-id us ∙ e

module _ {V C F F' A W W' : Type 0} (Allowed : A → Type 0) (Calls : F → List V → F' → List V → Type 0) (waiting : Waiting V W) (waiting' : Waiting V W') where
  abbrev pub Alike : Computation V C F A W → Computation V C F' A W' → Type 0
  Alike = Simulates (λ v. v) Some Allowed Calls waiting waiting'

  pub alike_call : (f : F) (vs : List V) (g : F') (us : List V) (k : List V → Computation V C F A W) (k' : List V → Computation V C F' A W') (h : C → V → Computation V C F A W) (h' : C → V → Computation V C F' A W') → Calls f vs g us → ((ws : List V) → Alike (k ws) (k' ws)) → ((c : C) (w : V) → Alike (h c w) (h' c w)) → Alike (Call f vs k h) (Call g us k' h')
  alike_call f vs g us k k' h h' calls on raised =
      (calls, (λ ws. subst (λ l. Alike (k l) (k' ws)) (sym (map-id ws)) (on ws)), raised)

  pub alike_attempt : (p : Computation V C F A W) (q : Computation V C F' A W') (k : List V → Computation V C F A W) (k' : List V → Computation V C F' A W') (h : C → V → Computation V C F A W) (h' : C → V → Computation V C F' A W') → Alike p q → ((vs : List V) → Alike (k vs) (k' vs)) → ((c : C) (v : V) → Alike (h c v) (h' c v)) → Alike (attempt p k h) (attempt q k' h')
  alike_attempt p q k k' h h' s on raised =
      simulates_attempt (λ v. v) Some Allowed Calls waiting waiting' p q k k' h h' s (λ us. subst (λ l. Alike (k l) (k' us)) (sym (map-id us)) (on us)) raised

  pub alike_bind : (p : Computation V C F A W) (q : Computation V C F' A W') (k : List V → Computation V C F A W) (k' : List V → Computation V C F' A W') → Alike p q → ((vs : List V) → Alike (k vs) (k' vs)) → Alike (bind p k) (bind q k')
  alike_bind p q k k' s on = alike_attempt p q k k' Raise Raise s on (λ c v. (refl, refl))

  module _ (body : F → List V → Computation V C F A W) (body' : F' → List V → Computation V C F' A W') (bodies : (f : F) (vs : List V) (g : F') (us : List V) → Calls f vs g us → Alike (body f vs) (body' g us)) where
    pub alike_run : (n : ℕ) (p : Computation V C F A W) (q : Computation V C F' A W') (is : List (Input V)) → Alike p q → SameRun (λ v. v) waiting waiting' Some (run (λ a. a) [] body n p is) (run (λ a. a) [] body' n q is)
    alike_run n p q is s =
        subst (λ js. SameRun (λ v. v) waiting waiting' Some (run (λ a. a) [] body n p js) (run (λ a. a) [] body' n q is)) (map_inputs-id is)
        (simulates_run (λ v. v) (λ a. a) [] Some Allowed Calls waiting waiting' body body' refl bodies n p q is s)

    pub alike_does : (n : ℕ) (p : Computation V C F A W) (q : Computation V C F' A W') (is : List (Input V)) → Alike p q → All Allowed (dones (run (λ a. a) [] body n p is).moments)
    alike_does n p q is s =
        subst (λ js. All Allowed (dones (run (λ a. a) [] body n p js).moments)) (map_inputs-id is)
        (simulates_does (λ v. v) (λ a. a) [] Some Allowed Calls waiting waiting' body body' bodies n p q is s)

-- what has other functions and waits simulates, where what is seen of the waits is the same
module _ {V C F F' A W W' : Type 0} (callee : F → F') (wait : W → W') (Allowed : A → Type 0) (all : (a : A) → Allowed a) (waiting : Waiting V W) (waiting' : Waiting V W') (same : (w : W) → SameWait (λ v. v) waiting waiting' w (wait w)) where
  pub mapped_alike : (p : Computation V C F A W) → Alike Allowed (λ f vs g us. (g ≡ callee f) × (us ≡ vs)) waiting waiting' p (map_calls callee wait p)
  mapped_alike (Give vs) = map-id vs
  mapped_alike (Raise c v) = (refl, refl)
  mapped_alike Fault = tt
  mapped_alike (Act a p) = (refl, all a, mapped_alike p)
  mapped_alike (Call f vs k h) =
      alike_call Allowed (λ f vs g us. (g ≡ callee f) × (us ≡ vs)) waiting waiting' f vs (callee f) vs k (λ ws. map_calls callee wait (k ws)) h (λ c v. map_calls callee wait (h c v)) (refl, refl) (λ ws. mapped_alike (k ws)) (λ c v. mapped_alike (h c v))
  mapped_alike (Birth k) = λ pid. mapped_alike (k pid)
  mapped_alike (Receive w k p) = (same w, (λ v. mapped_alike (k v)), mapped_alike p)

module _ {V C F F' A W W' : Type 0} (callee : F → F') (wait : W → W') where
  pub map_attempt : (p : Computation V C F A W) (k : List V → Computation V C F A W) (h : C → V → Computation V C F A W) → map_calls callee wait (attempt p k h) ≡ attempt (map_calls callee wait p) (λ vs. map_calls callee wait (k vs)) (λ c v. map_calls callee wait (h c v))
  map_attempt (Give vs) k h = refl
  map_attempt (Raise c v) k h = refl
  map_attempt Fault k h = refl
  map_attempt (Act a p) k h = ap (Act a) (map_attempt p k h)
  map_attempt (Call f vs g j) k h = λ i. Call (callee f) vs (λ us. map_attempt (g us) k h i) (λ c v. map_attempt (j c v) k h i)
  map_attempt (Birth g) k h = λ i. Birth (λ pid. map_attempt (g pid) k h i)
  map_attempt (Receive w g p) k h = λ i. Receive (wait w) (λ v. map_attempt (g v) k h i) (map_attempt p k h i)
