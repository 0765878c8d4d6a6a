-- Laws of runs compared.
use Rattle.std.proofs.Common.{◌≡◌, List, [], ◌∷◌, map, Option, Some, None, refl, sym, ap, ◌∙◌, subst}
use Rattle.std.proofs.Math.Path.{fun_ext}
use Rattle.std.proofs.lemmas.List.{map-id}
use Rattle.std.proofs.lemmas.Simd.{map-map}
use Rattle.std.specs.List.{filter_map, cons_option}
use Rattle.std.specs.Option.{option_map, option_and_then}
use Rattle.hy_core.specs.Comparison.{map_input, map_event, Waiting, shown_moment, SameEnd}
use Rattle.hy_core.specs.Comparison.{SameRun, SameResult, events_only}
use Rattle.hy_core.specs.Computation.{Input, Got, Lapsed, Born, Outcome, Values, Raised, Needs}
use Rattle.hy_core.specs.Computation.{NeedsPid, Spent, Wrong, Moment, Did, Used, Run, dones, result_of}
use Rattle.hy_core.specs.Event.{Event, Sent, Spawned, Printed}

-- each value for itself

map_input-id : {V : Type 0} (i : Input V) → map_input (λ v. v) i ≡ i
map_input-id (Got v) = refl
map_input-id Lapsed = refl
map_input-id (Born pid) = refl

pub map_inputs-id : {V : Type 0} (is : List (Input V)) → map (map_input (λ v. v)) is ≡ is
map_inputs-id is = ap (λ f. map f is) (fun_ext map_input-id) ∙ map-id is

moments-id : {V B : Type 0} (ms : List (Moment V B)) → filter_map (shown_moment (λ v. v) Some) ms ≡ ms
moments-id [] = refl
moments-id (Did b ∷ ms) = ap (◌∷◌ (Did b)) (moments-id ms)
moments-id (Used i ∷ ms) = λ j. Used (map_input-id i j) ∷ moments-id ms j

module _ {V C W : Type 0} (waiting : Waiting V W) where
  same_end : (e : Outcome V C W) → SameEnd (λ v. v) waiting waiting e e
  same_end (Values vs) = map-id vs
  same_end (Raised c v) = (refl, refl)
  same_end (Needs w) = record { timeout = refl; accepts = λ v. refl }
  same_end NeedsPid = tt
  same_end Spent = tt
  same_end Wrong = tt

  pub same_run : {B : Type 0} (r : Run V C B W) → SameRun (λ v. v) waiting waiting Some r r
  same_run r =
      record { moments = moments-id r.moments; calls = refl; inputs = map_inputs-id r.inputs; end = same_end r.end }

-- one comparison behind another

through_first : {Y Z : Type 0} (g : Y → Option Z) (o : Option Y) (ys : List Y) → filter_map g (cons_option o ys) ≡ cons_option (option_and_then g o) (filter_map g ys)
through_first g None ys = refl
through_first g (Some y) ys = refl

filter_map-through : {X Y Z : Type 0} (g : Y → Option Z) (h : X → Option Y) (xs : List X) → filter_map g (filter_map h xs) ≡ filter_map (λ x. option_and_then g (h x)) xs
filter_map-through g h [] = refl
filter_map-through g h (x ∷ xs) =
    through_first g (h x) (filter_map h xs) ∙ ap (cons_option (option_and_then g (h x))) (filter_map-through g h xs)

module _ {V V' V'' : Type 0} (value : V' → V) (value' : V'' → V') where
  abbrev through : V'' → V
  through v = value (value' v)

  input-through : (i : Input V'') → map_input value (map_input value' i) ≡ map_input through i
  input-through (Got v) = refl
  input-through Lapsed = refl
  input-through (Born pid) = refl

  inputs-through : (is : List (Input V'')) → map (map_input value) (map (map_input value') is) ≡ map (map_input through) is
  inputs-through is = map-map (map_input value) (map_input value') is ∙ ap (λ f. map f is) (fun_ext input-through)

  module _ {B B' B'' : Type 0} (shown : B' → Option B) (shown' : B'' → Option B') where
    abbrev shown-through : B'' → Option B
    shown-through b = option_and_then shown (shown' b)

    did-through : (o : Option B') → option_and_then (shown_moment value shown) (option_map Did o) ≡ option_map Did (option_and_then shown o)
    did-through None = refl
    did-through (Some b) = refl

    moment-through : (m : Moment V'' B'') → option_and_then (shown_moment value shown) (shown_moment value' shown' m) ≡ shown_moment through shown-through m
    moment-through (Did b) = did-through (shown' b)
    moment-through (Used i) = ap (λ j. Some (Used j)) (input-through i)

    moments-through : (ms : List (Moment V'' B'')) → filter_map (shown_moment value shown) (filter_map (shown_moment value' shown') ms) ≡ filter_map (shown_moment through shown-through) ms
    moments-through ms =
        filter_map-through (shown_moment value shown) (shown_moment value' shown') ms
        ∙ ap (λ f. filter_map f ms) (fun_ext moment-through)

  module _ {C W W' W'' : Type 0} (waiting : Waiting V W) (waiting' : Waiting V' W') (waiting'' : Waiting V'' W'') where
    end_through : (e : Outcome V C W) (e' : Outcome V' C W') (e'' : Outcome V'' C W'') → SameEnd value waiting waiting' e e' → SameEnd value' waiting' waiting'' e' e'' → SameEnd through waiting waiting'' e e''
    end_through (Values vs) (Values us) (Values ts) a b = sym (map-map value value' ts) ∙ ap (map value) b ∙ a
    end_through (Raised c v) (Raised d u) (Raised e t) a b = (b.0 ∙ a.0, ap value b.1 ∙ a.1)
    end_through (Needs w) (Needs w') (Needs w'') a b =
        record { timeout = b.timeout ∙ a.timeout; accepts = λ v. b.accepts v ∙ a.accepts (value' v) }
    end_through NeedsPid NeedsPid NeedsPid a b = tt
    end_through Spent Spent Spent a b = tt
    end_through Wrong Wrong Wrong a b = tt
    end_through (Values vs) (Values us) _ a b = absurd b
    end_through (Raised c v) (Raised d u) _ a b = absurd b
    end_through (Needs w) (Needs w') _ a b = absurd b
    end_through NeedsPid NeedsPid _ a b = absurd b
    end_through Spent Spent _ a b = absurd b
    end_through Wrong Wrong _ a b = absurd b
    end_through _ _ _ a b = absurd a

    pub run_through : {B B' B'' : Type 0} (shown : B' → Option B) (shown' : B'' → Option B') (r : Run V C B W) (r' : Run V' C B' W') (r'' : Run V'' C B'' W'') → SameRun value waiting waiting' shown r r' → SameRun value' waiting' waiting'' shown' r' r'' → SameRun through waiting waiting'' (shown-through shown shown') r r''
    run_through shown shown' r r' r'' a b = record {
      moments = sym (moments-through shown shown' r''.moments) ∙ ap (filter_map (shown_moment value shown)) b.moments ∙ a.moments;
      calls = b.calls ∙ a.calls;
      inputs = sym (inputs-through r''.inputs) ∙ ap (map (map_input value)) b.inputs ∙ a.inputs;
      end = end_through r.end r'.end r''.end a.end b.end;
    }

-- without the order of events and inputs

module _ {V V' B B' : Type 0} (value : V' → V) (shown : B' → Option B) where
  dones_first : (o : Option B) (ms : List (Moment V B)) → dones (cons_option (option_map Did o) ms) ≡ cons_option o (dones ms)
  dones_first None ms = refl
  dones_first (Some b) ms = refl

  pub dones-shown : (ms : List (Moment V' B')) → dones (filter_map (shown_moment value shown) ms) ≡ filter_map shown (dones ms)
  dones-shown [] = refl
  dones-shown (Did b ∷ ms) =
      dones_first (shown b) (filter_map (shown_moment value shown) ms) ∙ ap (cons_option (shown b)) (dones-shown ms)
  dones-shown (Used i ∷ ms) = dones-shown ms

module _ {V V' C W W' : Type 0} (value : V' → V) (waiting : Waiting V W) (waiting' : Waiting V' W') where
  pub same_result : {B B' : Type 0} (shown : B' → Option B) (r : Run V C B W) (r' : Run V' C B' W') → SameRun value waiting waiting' shown r r' → SameResult value waiting waiting' shown (result_of r) (result_of r')
  same_result shown r r' s = record {
    events = sym (dones-shown value shown r'.moments) ∙ ap dones s.moments;
    calls = s.calls;
    inputs = s.inputs;
    end = s.end;
  }

  -- a receive waits in both
  waits_for : (w : W) (e : Outcome V' C W') → SameEnd value waiting waiting' (Needs w) e → (w' : W') × (e ≡ Needs w') × (waiting'.timeout w' ≡ waiting.timeout w) × ((v : V') → waiting'.accepts w' v ≡ waiting.accepts w (value v))
  waits_for w (Needs w') s = (w', refl, s.timeout, s.accepts)
  waits_for w _ s = absurd s

  pub waits_alike : {B B' : Type 0} (shown : B' → Option B) (r : Run V C B W) (r' : Run V' C B' W') → SameRun value waiting waiting' shown r r' → (w : W) → r.end ≡ Needs w → (w' : W') × (r'.end ≡ Needs w') × (waiting'.timeout w' ≡ waiting.timeout w) × ((v : V') → waiting'.accepts w' v ≡ waiting.accepts w (value v))
  waits_alike shown r r' s w e = waits_for w r'.end (subst (λ end. SameEnd value waiting waiting' end r'.end) e s.end)

-- where nothing is replaced or hidden
module _ {V C W : Type 0} (waiting : Waiting V W) where
  equal_end : (e e' : Outcome V C W) → SameEnd (λ v. v) waiting waiting e e' → ((w : W) → e ≡ Needs w → ⊥) → e' ≡ e
  equal_end (Values vs) (Values us) s n = ap Values (sym (map-id us) ∙ s)
  equal_end (Raised c v) (Raised d u) s n = λ i. Raised (s.0 i) (s.1 i)
  equal_end (Needs w) (Needs w') s n = absurd (n w refl)
  equal_end NeedsPid NeedsPid s n = refl
  equal_end Spent Spent s n = refl
  equal_end Wrong Wrong s n = refl
  equal_end _ _ s n = absurd s

  pub equal_run : {B : Type 0} (r r' : Run V C B W) → SameRun (λ v. v) waiting waiting Some r r' → ((w : W) → r.end ≡ Needs w → ⊥) → r' ≡ r
  equal_run r r' s n =
      let moments = sym (moments-id r'.moments) ∙ s.moments in
      let inputs = sym (map_inputs-id r'.inputs) ∙ s.inputs in
      let end = equal_end r.end r'.end s.end n in
      λ i. record { moments = moments i; calls = s.calls i; inputs = inputs i; end = end i }

-- events alone
seen_first : {E E' : Type 0} (seen : E' → E) (o : Option E') → option_and_then (λ e. Some (seen e)) o ≡ option_map seen o
seen_first seen None = refl
seen_first seen (Some e) = refl

module _ {V V' C B' E E' W W' : Type 0} (value : V' → V) (waiting : Waiting V W) (waiting' : Waiting V' W') (event : B' → Option E') (seen : E' → E) where
  pub same_events : (r : Run V C E W) (r' : Run V' C B' W') → SameRun value waiting waiting' (λ b. option_map seen (event b)) r r' → SameResult value waiting waiting' (λ e. Some (seen e)) (result_of r) (events_only event r')
  same_events r r' s =
      let shown : B' → Option E = λ b. option_map seen (event b) in
      let all = same_result value waiting waiting' shown r r' s in
      record {
        events = filter_map-through (λ e. Some (seen e)) event (dones r'.moments) ∙ ap (λ f. filter_map f (dones r'.moments)) (fun_ext λ b. seen_first seen (event b)) ∙ all.events;
        calls = s.calls;
        inputs = s.inputs;
        end = s.end;
      }

map_event-id : {V : Type 0} (e : Event V) → map_event (λ v. v) e ≡ e
map_event-id (Sent to t) = refl
map_event-id (Spawned f ts) = ap (Spawned f) (map-id ts)
map_event-id (Printed t) = refl

-- where the values are the same, each event is shown as it is
module _ {V C W W' : Type 0} (waiting : Waiting V W) (waiting' : Waiting V W') where
  pub same_events_here : (r : Run V C (Event V) W) (r' : Run V C (Event V) W') → SameRun (λ v. v) waiting waiting' Some r r' → SameResult (λ v. v) waiting waiting' (λ e. Some (map_event (λ v. v) e)) (result_of r) (result_of r')
  same_events_here r r' s =
      let all = same_result (λ v. v) waiting waiting' Some r r' s in
      record {
        events = ap (λ f. filter_map f (dones r'.moments)) (fun_ext λ e. ap Some (map_event-id e)) ∙ all.events;
        calls = s.calls;
        inputs = s.inputs;
        end = s.end;
      }

-- behind a run over the same values

and_then_some : {X : Type 0} (o : Option X) → option_and_then Some o ≡ o
and_then_some None = refl
and_then_some (Some x) = refl

module _ {V V' C W W' W'' : Type 0} (value : V' → V) (waiting : Waiting V W) (waiting' : Waiting V W') (waiting'' : Waiting V' W'') where
  pub run_behind : {B B' : Type 0} (shown : B' → Option B) (r : Run V C B W) (r' : Run V C B W') (r'' : Run V' C B' W'') → SameRun (λ v. v) waiting waiting' Some r r' → SameRun value waiting' waiting'' shown r' r'' → SameRun value waiting waiting'' shown r r''
  run_behind shown r r' r'' a b =
      subst (λ f. SameRun value waiting waiting'' f r r'') (fun_ext λ d. and_then_some (shown d))
      (run_through (λ v. v) value waiting waiting' waiting'' Some shown r r' r'' a b)
