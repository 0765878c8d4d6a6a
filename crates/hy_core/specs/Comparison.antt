-- When two runs are the same to all that is outside, each over values of its own: this project's
-- own.
use Rattle.std.specs.Prelude.{◌≡◌, Bool, map, Option, Some}
use Rattle.std.specs.List.{filter_map}
use Rattle.std.specs.Option.{option_map}
use Rattle.hy_core.specs.Computation.{Input, Got, Lapsed, Born, Outcome, Values, Raised, Needs}
use Rattle.hy_core.specs.Computation.{NeedsPid, Spent, Wrong, Moment, Did, Used, Run, Result, dones}
use Rattle.hy_core.specs.Event.{Event, Sent, Spawned, Printed}
use Rattle.hy_core.specs.Resolved.{Timeout}

-- an input and an event, with each value replaced by another
abbrev pub map_input : {V V' : Type 0} → (V' → V) → Input V' → Input V
map_input value (Got v) = Got (value v)
map_input value Lapsed = Lapsed
map_input value (Born pid) = Born pid

abbrev pub map_event : {V V' : Type 0} → (V' → V) → Event V' → Event V
map_event value (Sent to v) = Sent to (value v)
map_event value (Spawned f vs) = Spawned f (map value vs)
map_event value (Printed v) = Printed (value v)

-- what is seen from outside of a receive that waits: its timeout, and which messages it accepts
pub record Waiting (V W : Type 0) : Type 0 where
  pub timeout : W → Timeout
  pub accepts : W → V → Bool

-- what a moment of a run of the second kind shows in the terms of the first: an act that the first
-- kind does not have shows nothing; each use of an input is shown
module _ {V V' B B' : Type 0} (value : V' → V) (shown : B' → Option B) where
  abbrev pub shown_moment : Moment V' B' → Option (Moment V B)
  shown_moment (Did b) = option_map Did (shown b)
  shown_moment (Used i) = Some (Used (map_input value i))

-- the first run is over values V, and its receives wait for W; the second is over V' and W'; value
-- is what a value of the second stands for in the first
module _ {V V' W W' : Type 0} (value : V' → V) (waiting : Waiting V W) (waiting' : Waiting V' W')
  where
    -- two receives with one timeout, of which both accept a message or neither does
    pub record SameWait (w : W) (w' : W') : Type 0 where
      pub timeout : waiting'.timeout w' ≡ waiting.timeout w
      pub accepts : (v : V') → waiting'.accepts w' v ≡ waiting.accepts w (value v)

    abbrev pub SameEnd : {C : Type 0} → Outcome V C W → Outcome V' C W' → Type 0
    SameEnd (Values vs) (Values us) = map value us ≡ vs
    SameEnd (Raised c v) (Raised d u) = (d ≡ c) × (value u ≡ v)
    SameEnd (Needs w) (Needs w') = SameWait w w'
    SameEnd NeedsPid NeedsPid = Unit {0}
    SameEnd Spent Spent = Unit {0}
    SameEnd Wrong Wrong = Unit {0}
    SameEnd _ _ = ⊥

    module _ {C B B' : Type 0} (shown : B' → Option B) where
      -- the same events and uses of inputs in one order, calls left, inputs left, and end
      pub record SameRun (r : Run V C B W) (r' : Run V' C B' W') : Type 0 where
        pub moments : filter_map (shown_moment value shown) r'.moments ≡ r.moments
        pub calls : r'.calls ≡ r.calls
        pub inputs : map (map_input value) r'.inputs ≡ r.inputs
        pub end : SameEnd r.end r'.end

      -- the same without the order of events and inputs
      pub record SameResult (r : Result V C B W) (r' : Result V' C B' W') : Type 0 where
        pub events : filter_map shown r'.events ≡ r.events
        pub calls : r'.calls ≡ r.calls
        pub inputs : map (map_input value) r'.inputs ≡ r.inputs
        pub end : SameEnd r.end r'.end

-- a run by its events alone: event says which acts of the run are events
abbrev pub events_only : {V C B E W : Type 0} → (B → Option E) → Run V C B W → Result V C E W
events_only event r = record {
  events = filter_map event (dones r.moments);
  calls = r.calls;
  inputs = r.inputs;
  end = r.end;
}
