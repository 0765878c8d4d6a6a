-- Processes that behave the same are allowed the same steps.
use Rattle.std.proofs.Common.{◌≡◌, ℕ, suc, ◌==◌, Bool, true, false, if◌then◌else◌, List, [], ◌∷◌, ◌++◌, map, length, Option, Some, None, refl, sym, ap, ◌∙◌, subst}
use Rattle.std.specs.Prelude.{slice_get}
use Rattle.std.specs.List.{filter_map, All}
use Rattle.std.specs.Option.{option_map}
use Rattle.std.proofs.lemmas.List.{length-map, map-append}
use Rattle.std.proofs.lemmas.Option.{slice_get-map, get_or_from_slice_get, slice_get_within, none-some, same_Some}
use Rattle.hy_core.specs.declared.class.Class.{Class}
use Rattle.hy_core.specs.declared.step.Item.{Item}
use Rattle.hy_core.specs.declared.step.Item.TheVariants as item
use Rattle.hy_core.specs.declared.step.Step.{Step}
use Rattle.hy_core.specs.Comparison.{map_input, map_event, SameEnd, SameRun, SameResult, events_only}
use Rattle.hy_core.specs.Computation.{Input, Got, Lapsed, Born, Outcome, Values, Raised, Needs, NeedsPid, Spent, Wrong, Run, dones, result_of}
use Rattle.hy_core.specs.Event.{Event, Sent, Spawned, Printed}
use Rattle.hy_core.specs.Machine.{Message, Process, Configuration, Behaviour, fresh, process_of, with_process, with_input, with_event_done, with_message, with_taken, without, first_accepted, if_at, activity, carried_out, event_step, take_of, lapse_of, take_step, lapse_step, is_done, process_step, step_of, after_step, after_steps, start}
use Rattle.hy_core.specs.Resolved.{Timeout, AtOnce, Never}
use Rattle.hy_core.proofs.Comparing.{same_events}
use Rattle.hy_core.specs.SameBehaviour.{map_message, map_process, map_configuration, waiting_of, SpawnsOf, SameBehaviour}

all_shown : {X Y : Type 0} (f : X → Y) (xs : List X) → filter_map (λ x. Some (f x)) xs ≡ map f xs
all_shown f [] = refl
all_shown f (x ∷ xs) = ap (◌∷◌ (f x)) (all_shown f xs)

if_mapped : {X Y : Type 0} (f : X → Y) (test : Bool) (x : X) (y : X) → (if test then f x else f y) ≡ f (if test then x else y)
if_mapped f true x y = refl
if_mapped f false x y = refl

if_some : {X Y : Type 0} (f : X → Y) (test : Bool) (x : X) → (if test then Some (f x) else None) ≡ option_map f (if test then Some x else None)
if_some f true x = refl
if_some f false x = refl

if_option : {X Y : Type 0} (f : X → Y) (test : Bool) (o : Option X) → (if test then option_map f o else None) ≡ option_map f (if test then o else None)
if_option f true o = refl
if_option f false o = refl

module _ {V V' : Type 0} (value : V' → V) where
  abbrev here : Process V' → Process V
  here p = map_process value p

  abbrev message : Message V' → Message V
  message m = map_message value m

  abbrev whole : Configuration V' → Configuration V
  whole c = map_configuration value c

  found_mapped : (pid : ℕ) (ps : List (Process V')) → process_of pid (map here ps) ≡ option_map here (process_of pid ps)
  found_mapped pid [] = refl
  found_mapped pid (p ∷ ps) =
      ap (λ o. if p.pid == pid then Some (here p) else o) (found_mapped pid ps)
      ∙ if_found (p.pid == pid) p (process_of pid ps)
    where
      if_found : (test : Bool) (p : Process V') (o : Option (Process V')) → (if test then Some (here p) else option_map here o) ≡ option_map here (if test then Some p else o)
      if_found true p o = refl
      if_found false p o = refl

  changed : (pid : ℕ) (f : Process V → Process V) (f' : Process V' → Process V') → ((p : Process V') → f (here p) ≡ here (f' p)) → (ps : List (Process V')) → with_process pid f (map here ps) ≡ map here (with_process pid f' ps)
  changed pid f f' same [] = refl
  changed pid f f' same (p ∷ ps) = λ i. (ap (λ q. if p.pid == pid then q else here p) (same p) ∙ if_mapped here (p.pid == pid) (f' p) p) i ∷ changed pid f f' same ps i

  input_added : (i : Input V') (p : Process V') → with_input (map_input value i) (here p) ≡ here (with_input i p)
  input_added i p = ap (λ is. record (here p) { inputs = is }) (sym (map-append (map_input value) p.inputs (i ∷ [])))

  message_added : (place : ℕ) (t : V') (p : Process V') → with_message place (value t) (here p) ≡ here (with_message place t p)
  message_added place t p =
      ap (λ ms. record (here p) { mailbox = ms }) (sym (map-append message p.mailbox (record { place = place; term = t } ∷ [])))

  message_gone : (place : ℕ) (ms : List (Message V')) → without place (map message ms) ≡ map message (without place ms)
  message_gone place [] = refl
  message_gone place (m ∷ ms) =
      ap (λ ns. if m.place == place then map message ms else message m ∷ ns) (message_gone place ms)
      ∙ if_mapped (map message) (m.place == place) ms (m ∷ without place ms)

  message_taken : (m : Message V') (p : Process V') → with_taken (message m) (here p) ≡ here (with_taken m p)
  message_taken m p = λ i. record {
    pid = p.pid;
    function = p.function;
    arguments = map value p.arguments;
    inputs = sym (map-append (map_input value) p.inputs (Got m.term ∷ [])) i;
    done = p.done;
    mailbox = message_gone m.place p.mailbox i;
  }

  pub first_mapped : (accepts : V → Bool) (accepts' : V' → Bool) → ((t : V') → accepts' t ≡ accepts (value t)) → (ms : List (Message V')) → first_accepted accepts (map message ms) ≡ option_map message (first_accepted accepts' ms)
  first_mapped accepts accepts' same [] = refl
  first_mapped accepts accepts' same (m ∷ ms) =
      ap (λ test. if test then Some (message m) else first_accepted accepts (map message ms)) (sym (same m.term))
      ∙ ap (λ o. if accepts' m.term then Some (message m) else o) (first_mapped accepts accepts' same ms)
      ∙ if_first (accepts' m.term) m (first_accepted accepts' ms)
    where
      if_first : (test : Bool) (m : Message V') (o : Option (Message V')) → (if test then Some (message m) else option_map message o) ≡ option_map message (if test then Some m else o)
      if_first true m o = refl
      if_first false m o = refl

  -- a change of one process
  changed_whole : (pid : ℕ) (f : Process V → Process V) (f' : Process V' → Process V') → ((p : Process V') → f (here p) ≡ here (f' p)) → (c : Configuration V') → record (whole c) { processes = with_process pid f (map here c.processes) } ≡ whole (record c { processes = with_process pid f' c.processes })
  changed_whole pid f f' same c = ap (λ ps. record (whole c) { processes = ps }) (changed pid f f' same c.processes)

module _ {V V' W W' : Type 0} (value : V' → V) (Known : ℕ → Type 0) (b : Behaviour V W) (b' : Behaviour V' W') (same : SameBehaviour value Known b b') where
  carried : (pid : ℕ) (e : Event V') (c : Configuration V') → carried_out b pid (map_event value e) (map_configuration value c) ≡ map_configuration value (carried_out b' pid e c)
  carried pid (Sent to t) c =
      let here = map_process value in
      ap (λ ps. record { processes = ps; events = suc c.events; output = c.output })
      (changed value to (with_message c.events (value t)) (with_message c.events t) (message_added value c.events t) c.processes)
  carried pid (Spawned f ts) c =
      let here = map_process value in
      let child : Process V' = fresh (suc c.events) f ts in
      let parents = with_process pid (with_input (Born (suc c.events))) c.processes in
      ap (λ ps. record { processes = ps; events = suc c.events; output = c.output })
      (ap (λ ps. ps ++ here child ∷ []) (changed value pid (with_input (Born (suc c.events))) (with_input (Born (suc c.events))) (input_added value (Born (suc c.events))) c.processes)
      ∙ sym (map-append here parents (child ∷ [])))
  carried pid (Printed t) c =
      ap (λ text. record { processes = map (map_process value) c.processes; events = suc c.events; output = c.output ++ (text ++ 10 ∷ []) }) (sym (same.texts t))

  event_stepped : (place : ℕ) (p : Process V') (o : Option (Event V')) (c : Configuration V') → event_step b place (map_process value p) (option_map (map_event value) o) (map_configuration value c) ≡ option_map (map_configuration value) (event_step b' place p o c)
  event_stepped place p None c = refl
  event_stepped place p (Some e) c =
      let counted = record c { processes = with_process p.pid with_event_done c.processes } in
      ap (λ d. if_at place c.events (carried_out b p.pid (map_event value e) d)) (changed_whole value p.pid with_event_done with_event_done (λ q. refl) c)
      ∙ ap (if_at place c.events) (carried p.pid e counted)
      ∙ if_some (map_configuration value) (place == c.events) (carried_out b' p.pid e counted)

  take_mapped : (place : ℕ) (p : Process V') (o : Option (Message V')) (c : Configuration V') → take_of b place (map_process value p) (option_map (map_message value) o) (map_configuration value c) ≡ option_map (map_configuration value) (take_of b' place p o c)
  take_mapped place p None c = refl
  take_mapped place p (Some m) c =
      ap (if_at m.place place) (changed_whole value p.pid (with_taken (map_message value m)) (with_taken m) (message_taken value m) c)
      ∙ if_some (map_configuration value) (m.place == place) (record c { processes = with_process p.pid (with_taken m) c.processes })

  lapse_mapped : (seen : ℕ) (p : Process V') (timeout : Timeout) (o : Option (Message V')) (c : Configuration V') → lapse_of b seen (map_process value p) timeout (option_map (map_message value) o) (map_configuration value c) ≡ option_map (map_configuration value) (lapse_of b' seen p timeout o c)
  lapse_mapped seen p AtOnce None c =
      ap (if_at seen c.events) (changed_whole value p.pid (with_input Lapsed) (with_input Lapsed) (input_added value Lapsed) c)
      ∙ if_some (map_configuration value) (seen == c.events) (record c { processes = with_process p.pid (with_input Lapsed) c.processes })
  lapse_mapped seen p AtOnce (Some m) c = refl
  lapse_mapped seen p Never None c = refl
  lapse_mapped seen p Never (Some m) c = refl

  abbrev Ends : ℕ → Outcome V Class W → Outcome V' Class W' → Type 0
  Ends pid e e' = SameEnd value (waiting_of b pid) (waiting_of b' pid) e e'

  take_stepped : (place : ℕ) (p : Process V') (e : Outcome V Class W) (e' : Outcome V' Class W') (c : Configuration V') → Ends p.pid e e' → take_step b place (map_process value p) e (map_configuration value c) ≡ option_map (map_configuration value) (take_step b' place p e' c)
  take_stepped place p (Needs w) (Needs w') c s =
      ap (λ o. take_of b place (map_process value p) o (map_configuration value c)) (first_mapped value (b.accepts p.pid w) (b'.accepts p.pid w') s.accepts p.mailbox)
      ∙ take_mapped place p (first_accepted (b'.accepts p.pid w') p.mailbox) c
  take_stepped place p (Values vs) (Values us) c s = refl
  take_stepped place p (Raised d v) (Raised f u) c s = refl
  take_stepped place p NeedsPid NeedsPid c s = refl
  take_stepped place p Spent Spent c s = refl
  take_stepped place p Wrong Wrong c s = refl
  take_stepped place p _ _ c s = absurd s

  lapse_stepped : (seen : ℕ) (p : Process V') (e : Outcome V Class W) (e' : Outcome V' Class W') (c : Configuration V') → Ends p.pid e e' → lapse_step b seen (map_process value p) e (map_configuration value c) ≡ option_map (map_configuration value) (lapse_step b' seen p e' c)
  lapse_stepped seen p (Needs w) (Needs w') c s =
      ap (λ t. lapse_of b seen (map_process value p) t (first_accepted (b.accepts p.pid w) (map (map_message value) p.mailbox)) (map_configuration value c)) (sym s.timeout)
      ∙ ap (λ o. lapse_of b seen (map_process value p) (b'.timeout w') o (map_configuration value c)) (first_mapped value (b.accepts p.pid w) (b'.accepts p.pid w') s.accepts p.mailbox)
      ∙ lapse_mapped seen p (b'.timeout w') (first_accepted (b'.accepts p.pid w') p.mailbox) c
  lapse_stepped seen p (Values vs) (Values us) c s = refl
  lapse_stepped seen p (Raised d v) (Raised f u) c s = refl
  lapse_stepped seen p NeedsPid NeedsPid c s = refl
  lapse_stepped seen p Spent Spent c s = refl
  lapse_stepped seen p Wrong Wrong c s = refl
  lapse_stepped seen p _ _ c s = absurd s

  abbrev Does : Process V' → Type 0
  Does p = SameResult value (waiting_of b p.pid) (waiting_of b' p.pid) (λ e. Some (map_event value e)) (activity b (map_process value p)) (activity b' p)

  events_are : (p : Process V') → Does p → (activity b (map_process value p)).events ≡ map (map_event value) (activity b' p).events
  events_are p s = sym s.events ∙ all_shown (map_event value) (activity b' p).events

  pub as_many : (p : Process V') → Does p → length (activity b (map_process value p)).events ≡ length (activity b' p).events
  as_many p s = ap length (events_are p s) ∙ length-map (activity b' p).events (map_event value)

  process_stepped : (i : Item) (p : Process V') (c : Configuration V') → Does p → process_step b i (map_process value p) (map_configuration value c) ≡ option_map (map_configuration value) (process_step b' i p c)
  process_stepped (item.Event place) p c s =
      ap (λ o. event_step b place (map_process value p) o (map_configuration value c)) (ap (λ es. slice_get es p.done) (events_are p s) ∙ slice_get-map (map_event value) (activity b' p).events p.done)
      ∙ event_stepped place p (slice_get (activity b' p).events p.done) c
  process_stepped (item.Took place) p c s =
      ap (λ n. if p.done == n then take_step b place (map_process value p) (activity b (map_process value p)).end (map_configuration value c) else None) (as_many p s)
      ∙ ap (λ o. if is_done b' p then o else None) (take_stepped place p (activity b (map_process value p)).end (activity b' p).end c s.end)
      ∙ if_option (map_configuration value) (is_done b' p) (take_step b' place p (activity b' p).end c)
  process_stepped (item.Lapsed seen) p c s =
      ap (λ n. if p.done == n then lapse_step b seen (map_process value p) (activity b (map_process value p)).end (map_configuration value c) else None) (as_many p s)
      ∙ ap (λ o. if is_done b' p then o else None) (lapse_stepped seen p (activity b (map_process value p)).end (activity b' p).end c s.end)
      ∙ if_option (map_configuration value) (is_done b' p) (lapse_step b' seen p (activity b' p).end c)

all_at : {X : Type 0} (P : X → Type 0) (xs : List X) (k : ℕ) (x : X) → All P xs → slice_get xs k ≡ Some x → P x
all_at P xs k x all e = subst P (get_or_from_slice_get xs k x x e) (all k x (slice_get_within xs k x e))

-- the functions of all processes are known
module _ {V : Type 0} (Known : ℕ → Type 0) where
  abbrev pub AllKnown : List (Process V) → Type 0
  AllKnown [] = Unit {0}
  AllKnown (p ∷ ps) = Known p.function × AllKnown ps

  abbrev pub KnownIn : Option (Configuration V) → Type 0
  KnownIn None = Unit {0}
  KnownIn (Some c) = AllKnown c.processes

  known_found : (pid : ℕ) (ps : List (Process V)) (p : Process V) → AllKnown ps → process_of pid ps ≡ Some p → Known p.function
  known_found pid [] p known e = absurd (none-some p e)
  known_found pid (q ∷ ps) p known e = at (q.pid == pid) (known_found pid ps p known.1) e
    where
      at : (test : Bool) → (process_of pid ps ≡ Some p → Known p.function) → (if test then Some q else process_of pid ps) ≡ Some p → Known p.function
      at true later e = subst (λ r. Known r.function) (same_Some q p e) known.0
      at false later e = later e

  known_changed : (pid : ℕ) (f : Process V → Process V) → ((p : Process V) → (f p).function ≡ p.function) → (ps : List (Process V)) → AllKnown ps → AllKnown (with_process pid f ps)
  known_changed pid f same [] known = tt
  known_changed pid f same (p ∷ ps) known = (at (p.pid == pid), known_changed pid f same ps known.1)
    where
      at : (test : Bool) → Known (if test then f p else p).function
      at true = subst Known (sym (same p)) known.0
      at false = known.0

  known_added : (p : Process V) (ps : List (Process V)) → AllKnown ps → Known p.function → AllKnown (ps ++ p ∷ [])
  known_added p [] known k = (k, tt)
  known_added p (q ∷ ps) known k = (known.0, known_added p ps known.1 k)

  known_if : (test : Bool) (c : Configuration V) → AllKnown c.processes → KnownIn (if test then Some c else None)
  known_if true c known = known
  known_if false c known = tt

  known_where : (test : Bool) (o : Option (Configuration V)) → KnownIn o → KnownIn (if test then o else None)
  known_where true o known = known
  known_where false o known = tt

  module _ {W : Type 0} (b : Behaviour V W) where
    known_carried : (pid : ℕ) (e : Event V) (c : Configuration V) → SpawnsOf Known e → AllKnown c.processes → AllKnown (carried_out b pid e c).processes
    known_carried pid (Sent to t) c k known = known_changed to (with_message c.events t) (λ p. refl) c.processes known
    known_carried pid (Spawned f ts) c k known =
        let born = with_input (Born (suc c.events)) in
        known_added (fresh (suc c.events) f ts) (with_process pid born c.processes) (known_changed pid born (λ p. refl) c.processes known) k
    known_carried pid (Printed t) c k known = known

    known_event : (place : ℕ) (p : Process V) (o : Option (Event V)) (c : Configuration V) → ((e : Event V) → o ≡ Some e → SpawnsOf Known e) → AllKnown c.processes → KnownIn (event_step b place p o c)
    known_event place p None c k known = tt
    known_event place p (Some e) c k known =
        let counted = record c { processes = with_process p.pid with_event_done c.processes } in
        known_if (place == c.events) (carried_out b p.pid e counted)
        (known_carried p.pid e counted (k e refl) (known_changed p.pid with_event_done (λ q. refl) c.processes known))

    known_take_of : (place : ℕ) (p : Process V) (o : Option (Message V)) (c : Configuration V) → AllKnown c.processes → KnownIn (take_of b place p o c)
    known_take_of place p None c known = tt
    known_take_of place p (Some m) c known =
        known_if (m.place == place) (record c { processes = with_process p.pid (with_taken m) c.processes }) (known_changed p.pid (with_taken m) (λ q. refl) c.processes known)

    known_lapse_of : (seen : ℕ) (p : Process V) (timeout : Timeout) (o : Option (Message V)) (c : Configuration V) → AllKnown c.processes → KnownIn (lapse_of b seen p timeout o c)
    known_lapse_of seen p AtOnce None c known =
        known_if (seen == c.events) (record c { processes = with_process p.pid (with_input Lapsed) c.processes }) (known_changed p.pid (with_input Lapsed) (λ q. refl) c.processes known)
    known_lapse_of seen p AtOnce (Some m) c known = tt
    known_lapse_of seen p Never o c known = tt

    known_take : (place : ℕ) (p : Process V) (e : Outcome V Class W) (c : Configuration V) → AllKnown c.processes → KnownIn (take_step b place p e c)
    known_take place p (Needs w) c known = known_take_of place p (first_accepted (b.accepts p.pid w) p.mailbox) c known
    known_take place p _ c known = tt

    known_lapse : (seen : ℕ) (p : Process V) (e : Outcome V Class W) (c : Configuration V) → AllKnown c.processes → KnownIn (lapse_step b seen p e c)
    known_lapse seen p (Needs w) c known = known_lapse_of seen p (b.timeout w) (first_accepted (b.accepts p.pid w) p.mailbox) c known
    known_lapse seen p _ c known = tt

    known_stepped : (i : Item) (p : Process V) (c : Configuration V) → ((k : ℕ) (e : Event V) → slice_get (activity b p).events k ≡ Some e → SpawnsOf Known e) → AllKnown c.processes → KnownIn (process_step b i p c)
    known_stepped (item.Event place) p c spawns known = known_event place p (slice_get (activity b p).events p.done) c (spawns p.done) known
    known_stepped (item.Took place) p c spawns known = known_where (is_done b p) (take_step b place p (activity b p).end c) (known_take place p (activity b p).end c known)
    known_stepped (item.Lapsed seen) p c spawns known = known_where (is_done b p) (lapse_step b seen p (activity b p).end c) (known_lapse seen p (activity b p).end c known)

spawns_mapped : {V V' : Type 0} (value : V' → V) (Known : ℕ → Type 0) (e : Event V') → SpawnsOf Known (map_event value e) → SpawnsOf Known e
spawns_mapped value Known (Sent to t) k = k
spawns_mapped value Known (Spawned f ts) k = k
spawns_mapped value Known (Printed t) k = k

module _ {V V' W W' : Type 0} (value : V' → V) (Known : ℕ → Type 0) (b : Behaviour V W) (b' : Behaviour V' W') (same : SameBehaviour value Known b b') where
  abbrev does_same : (p : Process V') → Known p.function → SameResult value (waiting_of b p.pid) (waiting_of b' p.pid) (λ e. Some (map_event value e)) (activity b (map_process value p)) (activity b' p)
  does_same p k = same.runs p.pid p.function k p.arguments p.inputs

  spawns_known : (p : Process V') → Known p.function → (k : ℕ) (e : Event V') → slice_get (activity b' p).events k ≡ Some e → SpawnsOf Known e
  spawns_known p known k e at =
      let first = activity b (map_process value p) in
      let found : slice_get first.events k ≡ Some (map_event value e) =
      ap (λ es. slice_get es k) (events_are value Known b b' same p (does_same p known)) ∙ slice_get-map (map_event value) (activity b' p).events k ∙ ap (option_map (map_event value)) at in
      spawns_mapped value Known e (all_at (SpawnsOf Known) first.events k (map_event value e) (same.spawns p.pid p.function known p.arguments p.inputs) found)

  step_mapped : (i : Item) (o : Option (Process V')) (c : Configuration V') → ((p : Process V') → o ≡ Some p → Known p.function) → step_of b i (option_map (map_process value) o) (map_configuration value c) ≡ option_map (map_configuration value) (step_of b' i o c)
  step_mapped i None c known = refl
  step_mapped i (Some p) c known = process_stepped value Known b b' same i p c (does_same p (known p refl))

  step_known : (i : Item) (o : Option (Process V')) (c : Configuration V') → ((p : Process V') → o ≡ Some p → Known p.function) → AllKnown Known c.processes → KnownIn Known (step_of b' i o c)
  step_known i None c known all = tt
  step_known i (Some p) c known all = known_stepped Known b' i p c (spawns_known p (known p refl)) all

  -- one step
  pub after_mapped : (s : Step) (c : Configuration V') → AllKnown Known c.processes → after_step b s (map_configuration value c) ≡ option_map (map_configuration value) (after_step b' s c)
  after_mapped s c all =
      ap (λ o. step_of b s.item o (map_configuration value c)) (found_mapped value s.pid c.processes)
      ∙ step_mapped s.item (process_of s.pid c.processes) c (λ p e. known_found Known s.pid c.processes p all e)

  after_known : (s : Step) (c : Configuration V') → AllKnown Known c.processes → KnownIn Known (after_step b' s c)
  after_known s c all = step_known s.item (process_of s.pid c.processes) c (λ p e. known_found Known s.pid c.processes p all e) all

  after_all_mapped : (steps : List Step) (o : Option (Configuration V')) → KnownIn Known o → after_steps b steps (option_map (map_configuration value) o) ≡ option_map (map_configuration value) (after_steps b' steps o)
  after_all_mapped [] o known = refl
  after_all_mapped (s ∷ steps) None known = refl
  after_all_mapped (s ∷ steps) (Some c) known =
      ap (after_steps b steps) (after_mapped s c known) ∙ after_all_mapped steps (after_step b' s c) (after_known s c known)

  pub after_all_known : (steps : List Step) (o : Option (Configuration V')) → KnownIn Known o → KnownIn Known (after_steps b' steps o)
  after_all_known [] o known = known
  after_all_known (s ∷ steps) None known = tt
  after_all_known (s ∷ steps) (Some c) known = after_all_known steps (after_step b' s c) (after_known s c known)

  -- all steps from the start on
  pub steps_mapped : (main : ℕ) → Known main → (steps : List Step) → after_steps b steps (Some (start main)) ≡ option_map (map_configuration value) (after_steps b' steps (Some (start main)))
  steps_mapped main known steps = after_all_mapped steps (Some (start main)) (known, tt)

-- the same runs make the same behaviour
module _ {V V' B W W' : Type 0} (value : V' → V) (Known : ℕ → Type 0) (event : B → Option (Event V')) (b : Behaviour V W) (b' : Behaviour V' W') (runs : (pid f : ℕ) → List V → List (Input V) → Run V Class (Event V) W) (runs' : (pid f : ℕ) → List V' → List (Input V') → Run V' Class B W') where
  abbrev first_run : (pid f : ℕ) → List V' → List (Input V') → Run V Class (Event V) W
  first_run pid f us is = runs pid f (map value us) (map (map_input value) is)

  pub same_behaviour : ((pid f : ℕ) (vs : List V) (is : List (Input V)) → b.runs pid f vs is ≡ result_of (runs pid f vs is)) → ((pid f : ℕ) (us : List V') (is : List (Input V')) → b'.runs pid f us is ≡ events_only event (runs' pid f us is)) → ((u : V') → b'.text_of u ≡ b.text_of (value u)) → ((pid f : ℕ) → Known f → (us : List V') (is : List (Input V')) → SameRun value (waiting_of b pid) (waiting_of b' pid) (λ d. option_map (map_event value) (event d)) (first_run pid f us is) (runs' pid f us is) × All (SpawnsOf Known) (dones (first_run pid f us is).moments)) → SameBehaviour value Known b b'
  same_behaviour first second texts same = record {
    runs = λ pid f k us is.
        let e = first pid f (map value us) (map (map_input value) is) in
        subst (λ r. SameResult value (waiting_of b pid) (waiting_of b' pid) (λ d. Some (map_event value d)) r (b'.runs pid f us is)) (sym e)
        (subst (λ r. SameResult value (waiting_of b pid) (waiting_of b' pid) (λ d. Some (map_event value d)) (result_of (first_run pid f us is)) r) (sym (second pid f us is))
        (same_events value (waiting_of b pid) (waiting_of b' pid) event (map_event value) (first_run pid f us is) (runs' pid f us is) (same pid f k us is).0));
    spawns = λ pid f k us is.
        subst (λ r. All (SpawnsOf Known) r.events) (sym (first pid f (map value us) (map (map_input value) is))) (same pid f k us is).1;
    texts = texts;
  }
