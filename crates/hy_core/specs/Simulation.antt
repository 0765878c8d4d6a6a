-- When one computation does what another does, step by step, up to acts that only the second has: a
-- simulation (R. Milner, Communication and Concurrency, 1989), here by recursion on the trees.
use Rattle.std.specs.Prelude.{◌≡◌, ℕ, List, map, Option, None, Some}
use Rattle.hy_core.specs.Comparison.{Waiting, SameWait}
use Rattle.hy_core.specs.Computation.{Computation, Give, Raise, Fault, Act, Call, Birth, Receive}

-- Allowed: what holds of each act of the first; Calls: a call of the first with its arguments, and
-- the call of the second that stands for it, which may have further arguments
module _ {V V' C F F' A A' W W' : Type 0} (value : V' → V) (shown : A' → Option A)
    (Allowed : A → Type 0) (Calls : F → List V → F' → List V' → Type 0) (waiting : Waiting V W)
    (waiting' : Waiting V' W')
  where
    -- the first does the act that is shown, and then what follows; where none is shown, it stays
    abbrev pub Acts : Option A → Computation V C F A W → (Computation V C F A W → Type 0) → Type 0
    Acts None p Follows = Follows p
    Acts (Some a) (Act d p) Follows = (a ≡ d) × Allowed d × Follows p
    Acts (Some a) _ Follows = ⊥

    -- each way on is asked for all that may come back
    abbrev pub Simulates : Computation V C F A W → Computation V' C F' A' W' → Type 0
    Simulates p (Act a q) = Acts (shown a) p (λ p'. Simulates p' q)
    Simulates (Give vs) (Give us) = map value us ≡ vs
    Simulates (Raise c v) (Raise d u) = (d ≡ c) × (value u ≡ v)
    Simulates Fault Fault = Unit {0}
    Simulates (Call f vs k h) (Call g us k' h') =
        Calls f vs g us × ((ws : List V') → Simulates (k (map value ws)) (k' ws))
        × ((c : C) (w : V') → Simulates (h c (value w)) (h' c w))
    Simulates (Birth k) (Birth k') = (pid : ℕ) → Simulates (k pid) (k' pid)
    Simulates (Receive w k p) (Receive w' k' q) =
        SameWait value waiting waiting' w w' × ((v : V') → Simulates (k (value v)) (k' v))
        × Simulates p q
    Simulates _ _ = ⊥

-- the same computation, whose functions and waits are others
module _ {V C F F' A W W' : Type 0} (callee : F → F') (wait : W → W') where
  abbrev pub map_calls : Computation V C F A W → Computation V C F' A W'
  map_calls (Give vs) = Give vs
  map_calls (Raise c v) = Raise c v
  map_calls Fault = Fault
  map_calls (Act a p) = Act a (map_calls p)
  map_calls (Call f vs k h) =
      Call (callee f) vs (λ ws. map_calls (k ws)) (λ c v. map_calls (h c v))
  map_calls (Birth k) = Birth (λ pid. map_calls (k pid))
  map_calls (Receive w k p) = Receive (wait w) (λ v. map_calls (k v)) (map_calls p)
