-- Laws of simulation. Each is the clause of a function in the module `laws`.
use Rattle.std.specs.Prelude.{◌≡◌, ℕ, List, [], map, Option, None, Some}
use Rattle.std.specs.List.{filter_map, All}
use Rattle.hy_core.specs.Comparison.{Waiting, map_input, SameWait, SameRun}
use Rattle.hy_core.specs.Computation.{Computation, Act, attempt, Input, Run, run, dones}
use Rattle.hy_core.specs.Simulation.{Simulates, map_calls}

-- a computation simulates itself, where a call stands for itself
abbrev pub SimulatesItself : (V C F A W : Type 0) → Type 0
SimulatesItself V C F A W =
    (waiting : Waiting V W) (p : Computation V C F A W)
    → Simulates (λ v. v) Some (λ a. Unit {0}) (λ f vs g us. (g ≡ f) × (us ≡ vs)) waiting waiting p p

-- and so does one whose functions and waits are others, where what is seen of the waits is the same
abbrev pub SimulatedByMapped : (V C F F' A W W' : Type 0) → Type 0
SimulatedByMapped V C F F' A W W' =
    (callee : F → F') (wait : W → W') (waiting : Waiting V W) (waiting' : Waiting V W')
    → ((w : W) → SameWait (λ v. v) waiting waiting' w (wait w)) → (p : Computation V C F A W)
    → Simulates (λ v. v) Some (λ a. Unit {0}) (λ f vs g us. (g ≡ callee f) × (us ≡ vs)) waiting
    waiting' p (map_calls callee wait p)

-- of a part and what follows it, each is mapped
abbrev pub MapsParts : (V C F F' A W W' : Type 0) → Type 0
MapsParts V C F F' A W W' =
    (callee : F → F') (wait : W → W') (p : Computation V C F A W)
    (k : List V → Computation V C F A W) (h : C → V → Computation V C F A W)
    → map_calls callee wait (attempt p k h)
    ≡ attempt (map_calls callee wait p) (λ vs. map_calls callee wait (k vs))
    (λ c v. map_calls callee wait (h c v))

-- Allowed and Calls: what holds of each act of the first, and which calls stand for which
module _ {V V' F F' A : Type 0} (C A' W W' : Type 0) (Allowed : A → Type 0)
    (Calls : F → List V → F' → List V' → Type 0)
  where
    abbrev First : Type 0
    First = Computation V C F A W

    abbrev Second : Type 0
    Second = Computation V' C F' A' W'

    abbrev Like : (V' → V) → (A' → Option A) → Waiting V W → Waiting V' W' → First → Second → Type 0
    Like value shown waiting waiting' p q = Simulates value shown Allowed Calls waiting waiting' p q

    -- acts that show nothing may come before
    abbrev pub SkipsUnseen : Type 0
    SkipsUnseen =
        (value : V' → V) (shown : A' → Option A) (waiting : Waiting V W) (waiting' : Waiting V' W')
        (p : First) (q : Second) (a : A') → shown a ≡ None → Like value shown waiting waiting' p q
        → Like value shown waiting waiting' p (Act a q)

    -- a part, and what follows its values and what follows what it raises
    abbrev pub GoesThroughParts : Type 0
    GoesThroughParts =
        (value : V' → V) (shown : A' → Option A) (waiting : Waiting V W) (waiting' : Waiting V' W')
        (p : First) (q : Second) (k : List V → First) (k' : List V' → Second) (h : C → V → First)
        (h' : C → V' → Second) → Like value shown waiting waiting' p q
        → ((us : List V') → Like value shown waiting waiting' (k (map value us)) (k' us))
        → ((c : C) (u : V') → Like value shown waiting waiting' (h c (value u)) (h' c u))
        → Like value shown waiting waiting' (attempt p k h) (attempt q k' h')

    -- Where the bodies of calls that stand for each other simulate each other, a computation that
    -- simulates another has the same run, for each number of calls and each list of inputs, and the
    -- acts of that run are allowed. What a call itself does (note) shows nothing.
    module _ (B : Type 0) where
      abbrev first_run : (V' → V) → (F → List V → First) → ℕ → First → List (Input V') → Run V C A W
      first_run value body calls p inputs =
          run (λ a. a) [] body calls p (map (map_input value) inputs)

      abbrev pub RunsTheSame : Type 0
      RunsTheSame =
          (value : V' → V) (did : A' → B) (note : List B) (shown : B → Option A)
          (waiting : Waiting V W) (waiting' : Waiting V' W')
          (body : F → List V → First) (body' : F' → List V' → Second)
          → filter_map shown note ≡ []
          → ((f : F) (vs : List V) (g : F') (us : List V') → Calls f vs g us
          → Like value (λ a. shown (did a)) waiting waiting' (body f vs) (body' g us))
          → (p : First) (q : Second) → Like value (λ a. shown (did a)) waiting waiting' p q
          → (calls : ℕ) (inputs : List (Input V'))
          → SameRun value waiting waiting' shown (first_run value body calls p inputs)
          (run did note body' calls q inputs)
          × All Allowed (dones (first_run value body calls p inputs).moments)
