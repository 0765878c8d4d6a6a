-- What a process still has to do, as a tree that waits for calls, inputs and values: this project's
-- own form of evaluation.
use Rattle.std.specs.Prelude.{◌≡◌, ℕ, zero, suc, List, [], ◌∷◌, ◌++◌}

-- what comes to a process from outside: a message that it takes, the lapse of a timeout, or the pid
-- of a process that it spawned
pub data Input (V : Type 0) : Type 0 where
  Got : V → Input V
  Lapsed : Input V
  Born : (pid : ℕ) → Input V

-- how far a process comes: V are its values, C the classes of what is raised, W what a receive
-- waits for
pub data Outcome (V C W : Type 0) : Type 0 where
  Values : List V → Outcome V C W
  Raised : C → V → Outcome V C W
  -- a receive without an input
  Needs : W → Outcome V C W
  -- a spawn without an input
  NeedsPid : Outcome V C W
  -- a call is due, and none is left
  Spent : Outcome V C W
  -- the program or an input is none that an accepted program can meet
  Wrong : Outcome V C W

-- F are the functions that may be called, A the acts; behind a call, and so behind each part of a
-- whole, two ways lead on: one for its values, one for what it raises
pub data Computation (V C F A W : Type 0) : Type 0 where
  Give : List V → Computation V C F A W
  Raise : C → V → Computation V C F A W
  Fault : Computation V C F A W
  Act : A → Computation V C F A W → Computation V C F A W
  Call : F → List V → (List V → Computation V C F A W) → (C → V → Computation V C F A W)
      → Computation V C F A W
  Birth : (ℕ → Computation V C F A W) → Computation V C F A W
  Receive : W → (V → Computation V C F A W) → Computation V C F A W → Computation V C F A W

-- goes on by the first function with the values, by the second with what is raised
abbrev pub attempt : {V C F A W : Type 0} → Computation V C F A W → (List V → Computation V C F A W)
    → (C → V → Computation V C F A W) → Computation V C F A W
attempt (Give vs) given raised = given vs
attempt (Raise c v) given raised = raised c v
attempt Fault given raised = Fault
attempt (Act a p) given raised = Act a (attempt p given raised)
attempt (Call f vs k h) given raised =
    Call f vs (λ ws. attempt (k ws) given raised) (λ c v. attempt (h c v) given raised)
attempt (Birth k) given raised = Birth (λ n. attempt (k n) given raised)
attempt (Receive w k p) given raised =
    Receive w (λ v. attempt (k v) given raised) (attempt p given raised)

-- goes on with the values; what is raised is raised by the whole
abbrev pub bind : {V C F A W : Type 0} → Computation V C F A W → (List V → Computation V C F A W)
    → Computation V C F A W
bind p given = attempt p given Raise

-- what happens at one moment of a run: something is done, or an input is used
pub data Moment (V B : Type 0) : Type 0 where
  Did : B → Moment V B
  Used : Input V → Moment V B

-- a run: what happened, in order, the calls and the inputs that are left, and how far it came
pub record Run (V C B W : Type 0) : Type 0 where
  pub moments : List (Moment V B)
  pub calls : ℕ
  pub inputs : List (Input V)
  pub end : Outcome V C W

-- nothing more happens, and something happens first
abbrev pub stop : {V C B W : Type 0} → ℕ → List (Input V) → Outcome V C W → Run V C B W
stop calls inputs end = record { moments = []; calls = calls; inputs = inputs; end = end }

abbrev pub after : {V C B W : Type 0} → Moment V B → Run V C B W → Run V C B W
after m r = record r { moments = m ∷ r.moments }

abbrev pub after_all : {V C B W : Type 0} → List B → Run V C B W → Run V C B W
after_all [] r = r
after_all (b ∷ bs) r = after (Did b) (after_all bs r)

-- did: what is done by an act; note: what is done by a call itself; body: the body of a function
module _ {V C F A W B : Type 0} (did : A → B) (note : List B) (body : F → List V
    → Computation V C F A W) where
  -- by recursion on the calls left, and then on the computation: a call costs one call, a spawn and
  -- a receive use one input each, and an input of another kind than is due is not used
  abbrev pub run : ℕ → Computation V C F A W → List (Input V) → Run V C B W
  run n (Give vs) inputs = stop n inputs (Values vs)
  run n (Raise c v) inputs = stop n inputs (Raised c v)
  run n Fault inputs = stop n inputs Wrong
  run n (Act a p) inputs = after (Did (did a)) (run n p inputs)
  run zero (Call f vs k h) inputs = stop zero inputs Spent
  run (suc n) (Call f vs k h) inputs = after_all note (run n (attempt (body f vs) k h) inputs)
  run n (Birth k) [] = stop n [] NeedsPid
  run n (Birth k) (Born pid ∷ inputs) = after (Used (Born pid)) (run n (k pid) inputs)
  run n (Birth k) (Got v ∷ inputs) = stop n (Got v ∷ inputs) Wrong
  run n (Birth k) (Lapsed ∷ inputs) = stop n (Lapsed ∷ inputs) Wrong
  run n (Receive w k p) [] = stop n [] (Needs w)
  run n (Receive w k p) (Got v ∷ inputs) = after (Used (Got v)) (run n (k v) inputs)
  run n (Receive w k p) (Lapsed ∷ inputs) = after (Used Lapsed) (run n p inputs)
  run n (Receive w k p) (Born pid ∷ inputs) = stop n (Born pid ∷ inputs) Wrong

-- the moments at which something is done, and those at which an input is used
abbrev pub dones : {V B : Type 0} → List (Moment V B) → List B
dones [] = []
dones (Did b ∷ ms) = b ∷ dones ms
dones (Used i ∷ ms) = dones ms

abbrev pub uses : {V B : Type 0} → List (Moment V B) → List (Input V)
uses [] = []
uses (Did b ∷ ms) = uses ms
uses (Used i ∷ ms) = i ∷ uses ms

-- a run without its order of events and inputs
pub record Result (V C B W : Type 0) : Type 0 where
  pub events : List B
  pub calls : ℕ
  pub inputs : List (Input V)
  pub end : Outcome V C W

-- what happened without the uses of inputs between
abbrev pub result_of : {V C B W : Type 0} → Run V C B W → Result V C B W
result_of r = record { events = dones r.moments; calls = r.calls; inputs = r.inputs; end = r.end }

-- a part that does not give values gives its end to the whole
abbrev pub with_values : {V C B W : Type 0} → List B → ℕ → List (Input V) → Outcome V C W
    → (List V → ℕ → List (Input V) → Result V C B W) → Result V C B W
with_values events n ins (Values vs) k = let r =
    k vs n ins in record r { events = events ++ r.events }
with_values events n ins (Raised c v) k =
    record { events = events; calls = n; inputs = ins; end = Raised c v }
with_values events n ins (Needs w) k =
    record { events = events; calls = n; inputs = ins; end = Needs w }
with_values events n ins NeedsPid k =
    record { events = events; calls = n; inputs = ins; end = NeedsPid }
with_values events n ins Spent k = record { events = events; calls = n; inputs = ins; end = Spent }
with_values events n ins Wrong k = record { events = events; calls = n; inputs = ins; end = Wrong }

-- a part, and where it gives values what follows it with the calls and the inputs that are left
abbrev pub then_run : {V C B W : Type 0} → Result V C B W
    → (List V → ℕ → List (Input V) → Result V C B W) → Result V C B W
then_run r k = with_values r.events r.calls r.inputs r.end k

-- nothing more happens
abbrev pub ended : {V C B W : Type 0} → ℕ → List (Input V) → Outcome V C W → Result V C B W
ended calls inputs end = record { events = []; calls = calls; inputs = inputs; end = end }

-- a part that gives one value goes on; another number of values is none that an accepted program
-- has
abbrev pub with_one : {V C B W : Type 0} → (V → ℕ → List (Input V) → Result V C B W) → List V → ℕ
    → List (Input V) → Result V C B W
with_one k [] calls inputs = ended calls inputs Wrong
with_one k (v ∷ []) calls inputs = k v calls inputs
with_one k (v ∷ u ∷ vs) calls inputs = ended calls inputs Wrong

-- the input is of the kind for which the end waits
abbrev pub IsDue : {V C W : Type 0} → Outcome V C W → Input V → Type 0
IsDue (Needs w) (Got v) = Unit {0}
IsDue (Needs w) Lapsed = Unit {0}
IsDue NeedsPid (Born pid) = Unit {0}
IsDue _ _ = ⊥

-- where a run stands at an input that it uses: this happened before, all inputs before it are used
-- up, and the run waits for an input of its kind
pub record StandsBefore {V C B W : Type 0} (r : Run V C B W) (before : List (Moment V B))
    (i : Input V) : Type 0 where
  pub moments : r.moments ≡ before
  pub inputs : r.inputs ≡ []
  pub due : IsDue r.end i
