-- Processes that behave the same come to the same ends, so the same runs are full.
use Rattle.std.proofs.Common.{◌≡◌, ℕ, List, [], ◌∷◌, ◌++◌, map, Option, Some, None, refl, sym, ap, ◌∙◌, subst}
use Rattle.std.specs.Option.{option_map}
use Rattle.std.proofs.lemmas.Option.{none-some, same_Some}
use Rattle.std.proofs.lemmas.Simd.{map-map}
use Rattle.hy_core.specs.declared.end.Cause.{Cause}
use Rattle.hy_core.specs.declared.end.End.{End}
use Rattle.hy_core.specs.declared.end.End.TheVariants as end
use Rattle.hy_core.specs.declared.step.Step.{Step}
use Rattle.hy_core.specs.Comparison.{map_input, map_event, Waiting, SameWait, SameEnd, SameResult}
use Rattle.hy_core.specs.Computation.{Outcome, Values, Raised, Needs}
use Rattle.hy_core.specs.Machine.{Process, Configuration, Behaviour, first_accepted, activity, after_steps, start, IsThrough, IsAt, AreAt}
use Rattle.hy_core.specs.Output.{run_output, outcome_lines}
use Rattle.hy_core.specs.SameBehaviour.{map_message, map_process, map_configuration, waiting_of, SameBehaviour, HasFullRun}
use Rattle.hy_core.proofs.Behaving.{AllKnown, KnownIn, as_many, first_mapped, steps_mapped, after_all_known}

none_mapped : {X Y : Type 0} (f : X → Y) (xs : List X) → map f xs ≡ [] → xs ≡ []
none_mapped f [] e = refl
none_mapped f (x ∷ xs) e = absurd (not_none (f x) (map f xs) e)
  where
    not_none : {Y : Type 0} (y : Y) (ys : List Y) → y ∷ ys ≡ [] → ⊥
    not_none y ys e = cc

some_mapped : {X Y : Type 0} (f : X → Y) (o : Option X) (y : Y) → option_map f o ≡ Some y → (x : X) × (o ≡ Some x) × (f x ≡ y)
some_mapped f None y e = absurd (none-some y e)
some_mapped f (Some x) y e = (x, refl, same_Some (f x) y e)

none_from_mapped : {X Y : Type 0} (f : X → Y) (o : Option X) → option_map f o ≡ None → o ≡ None
none_from_mapped f None e = refl
none_from_mapped f (Some x) e = absurd (none-some (f x) (sym e))

one_mapped : {X Y : Type 0} (f : X → Y) (xs : List X) (y : Y) → map f xs ≡ y ∷ [] → (x : X) × (xs ≡ x ∷ []) × (f x ≡ y)
one_mapped f [] y e = absurd (not_one y e)
  where
    not_one : {Y : Type 0} (y : Y) → [] ≡ y ∷ [] → ⊥
    not_one y e = cc
one_mapped f (x ∷ []) y e = (x, refl, first (f x) y e)
  where
    first : {Y : Type 0} (a b : Y) → a ∷ [] ≡ b ∷ [] → a ≡ b
    first a b e = cc
one_mapped f (x ∷ w ∷ xs) y e = absurd (not_one (f x) (f w) (map f xs) y e)
  where
    not_one : {Y : Type 0} (a b : Y) (ys : List Y) (y : Y) → a ∷ b ∷ ys ≡ y ∷ [] → ⊥
    not_one a b ys y e = cc

module _ {V V' C W W' : Type 0} (value : V' → V) (waiting : Waiting V W) (waiting' : Waiting V' W') where
  abbrev Ends : Outcome V C W → Outcome V' C W' → Type 0
  Ends e e' = SameEnd value waiting waiting' e e'

  values_forth : (e : Outcome V C W) (us : List V') → Ends e (Values us) → e ≡ Values (map value us)
  values_forth (Values vs) us s = ap Values (sym s)
  values_forth _ us s = absurd s

  raised_forth : (e : Outcome V C W) (c : C) (u : V') → Ends e (Raised c u) → e ≡ Raised c (value u)
  raised_forth (Raised d v) c u s = λ i. Raised (sym s.0 i) (sym s.1 i)
  raised_forth _ c u s = absurd s

  needs_forth : (e : Outcome V C W) (w' : W') → Ends e (Needs w') → (w : W) × (e ≡ Needs w) × SameWait value waiting waiting' w w'
  needs_forth (Needs w) w' s = (w, refl, s)
  needs_forth _ w' s = absurd s

  value_back : (v : V) (e' : Outcome V' C W') → Ends (Values (v ∷ [])) e' → (u : V') × (e' ≡ Values (u ∷ [])) × (value u ≡ v)
  value_back v (Values us) s = let u = one_mapped value us v s in (u.0, ap Values u.1, u.2)
  value_back v _ s = absurd s

  raised_back : (c : C) (v : V) (e' : Outcome V' C W') → Ends (Raised c v) e' → (u : V') × (e' ≡ Raised c u) × (value u ≡ v)
  raised_back c v (Raised d u) s = (u, ap (λ x. Raised x u) s.0, s.1)
  raised_back c v _ s = absurd s

  needs_back : (w : W) (e' : Outcome V' C W') → Ends (Needs w) e' → (w' : W') × (e' ≡ Needs w') × SameWait value waiting waiting' w w'
  needs_back w (Needs w') s = (w', refl, s)
  needs_back w _ s = absurd s

module _ {V V' W W' : Type 0} (value : V' → V) (Known : ℕ → Type 0) (b : Behaviour V W) (b' : Behaviour V' W') (same : SameBehaviour value Known b b') where
  module _ (p : Process V') (known : Known p.function) where
    abbrev here : Process V
    here = map_process value p

    abbrev does : SameResult value (waiting_of b p.pid) (waiting_of b' p.pid) (λ e. Some (map_event value e)) (activity b here) (activity b' p)
    does = same.runs p.pid p.function known p.arguments p.inputs

    through_forth : IsThrough b' p → IsThrough b here
    through_forth t = record {
      events = t.events ∙ sym (as_many value Known b b' same p does);
      inputs = sym does.inputs ∙ ap (map (map_input value)) t.inputs;
    }

    through_back : IsThrough b here → IsThrough b' p
    through_back t = record {
      events = t.events ∙ as_many value Known b b' same p does;
      inputs = none_mapped (map_input value) (activity b' p).inputs (does.inputs ∙ t.inputs);
    }

    module _ (stopped : Process V → Cause → Type 0) where
      at_forth : (e : End) → IsAt b' (λ q cause. stopped (map_process value q) cause) p e → IsAt b stopped here e
      at_forth (end.Ended text) h = record {
        through = through_forth h.through;
        value = value h.value;
        end = values_forth value (waiting_of b p.pid) (waiting_of b' p.pid) (activity b here).end (h.value ∷ []) (subst (λ e. SameEnd value (waiting_of b p.pid) (waiting_of b' p.pid) (activity b here).end e) h.end does.end);
        printed = sym (same.texts h.value) ∙ h.printed;
      }
      at_forth (end.Raised class text) h = record {
        through = through_forth h.through;
        reason = value h.reason;
        end = raised_forth value (waiting_of b p.pid) (waiting_of b' p.pid) (activity b here).end class h.reason (subst (λ e. SameEnd value (waiting_of b p.pid) (waiting_of b' p.pid) (activity b here).end e) h.end does.end);
        printed = sym (same.texts h.reason) ∙ h.printed;
      }
      at_forth end.Waits h =
          let w = needs_forth value (waiting_of b p.pid) (waiting_of b' p.pid) (activity b here).end h.wait (subst (λ e. SameEnd value (waiting_of b p.pid) (waiting_of b' p.pid) (activity b here).end e) h.end does.end) in
          record {
            events = h.events ∙ sym (as_many value Known b b' same p does);
            wait = w.0;
            end = w.1;
            never = sym w.2.timeout ∙ h.never;
            none = first_mapped value (b.accepts p.pid w.0) (b'.accepts p.pid h.wait) w.2.accepts p.mailbox ∙ ap (option_map (map_message value)) h.none;
          }
      at_forth (end.Stopped cause) h = h

      at_back : (e : End) → IsAt b stopped here e → IsAt b' (λ q cause. stopped (map_process value q) cause) p e
      at_back (end.Ended text) h =
          let u = value_back value (waiting_of b p.pid) (waiting_of b' p.pid) h.value (activity b' p).end (subst (λ e. SameEnd value (waiting_of b p.pid) (waiting_of b' p.pid) e (activity b' p).end) h.end does.end) in
          record {
            through = through_back h.through;
            value = u.0;
            end = u.1;
            printed = same.texts u.0 ∙ ap b.text_of u.2 ∙ h.printed;
          }
      at_back (end.Raised class text) h =
          let u = raised_back value (waiting_of b p.pid) (waiting_of b' p.pid) class h.reason (activity b' p).end (subst (λ e. SameEnd value (waiting_of b p.pid) (waiting_of b' p.pid) e (activity b' p).end) h.end does.end) in
          record {
            through = through_back h.through;
            reason = u.0;
            end = u.1;
            printed = same.texts u.0 ∙ ap b.text_of u.2 ∙ h.printed;
          }
      at_back end.Waits h =
          let w = needs_back value (waiting_of b p.pid) (waiting_of b' p.pid) h.wait (activity b' p).end (subst (λ e. SameEnd value (waiting_of b p.pid) (waiting_of b' p.pid) e (activity b' p).end) h.end does.end) in
          record {
            events = h.events ∙ as_many value Known b b' same p does;
            wait = w.0;
            end = w.1;
            never = w.2.timeout ∙ h.never;
            none = none_from_mapped (map_message value) (first_accepted (b'.accepts p.pid w.0) p.mailbox) (sym (first_mapped value (b.accepts p.pid h.wait) (b'.accepts p.pid w.0) w.2.accepts p.mailbox) ∙ h.none);
          }
      at_back (end.Stopped cause) h = h

  module _ (stopped : Process V → Cause → Type 0) where
    are_forth : (ps : List (Process V')) (es : List End) → AllKnown Known ps → AreAt b' (λ q cause. stopped (map_process value q) cause) ps es → AreAt b stopped (map (map_process value) ps) es
    are_forth [] [] known h = tt
    are_forth (p ∷ ps) (e ∷ es) known h = (at_forth p known.0 stopped e h.0, are_forth ps es known.1 h.1)
    are_forth _ _ known h = absurd h

    are_back : (ps : List (Process V')) (es : List End) → AllKnown Known ps → AreAt b stopped (map (map_process value) ps) es → AreAt b' (λ q cause. stopped (map_process value q) cause) ps es
    are_back [] [] known h = tt
    are_back (p ∷ ps) (e ∷ es) known h = (at_back p known.0 stopped e h.0, are_back ps es known.1 h.1)
    are_back _ _ known h = absurd h

    same_output : (c : Configuration V') (ends : List End) → run_output (map_configuration value c) ends ≡ run_output c ends
    same_output c ends =
        ap (λ pids. c.output ++ outcome_lines pids ends) (map-map (λ p. p.pid) (map_process value) c.processes)

    module _ (main : ℕ) (known : Known main) (steps : List Step) (ends : List End) (output : List ℕ) where
      known_last : (last : Configuration V') → after_steps b' steps (Some (start main)) ≡ Some last → AllKnown Known last.processes
      known_last last e = subst (KnownIn Known) e (after_all_known value Known b b' same steps (Some (start main)) (known, tt))

      pub full_forth : HasFullRun b' (λ q cause. stopped (map_process value q) cause) main steps ends output → HasFullRun b stopped main steps ends output
      full_forth h =
          let last = h.0.last in (
            record {
              last = map_configuration value last;
              allowed = steps_mapped value Known b b' same main known steps ∙ ap (option_map (map_configuration value)) h.0.allowed;
              at_ends = are_forth last.processes ends (known_last last h.0.allowed) h.0.at_ends;
            },
            same_output last ends ∙ h.1,
          )

      pub full_back : HasFullRun b stopped main steps ends output → HasFullRun b' (λ q cause. stopped (map_process value q) cause) main steps ends output
      full_back h =
          let found = some_mapped (map_configuration value) (after_steps b' steps (Some (start main))) h.0.last (sym (steps_mapped value Known b b' same main known steps) ∙ h.0.allowed) in
          let last = found.0 in (
            record {
              last = last;
              allowed = found.1;
              at_ends = are_back last.processes ends (known_last last found.1) (subst (λ c. AreAt b stopped c.processes ends) (sym found.2) h.0.at_ends);
            },
            sym (same_output last ends) ∙ ap (λ c. run_output c ends) found.2 ∙ h.1,
          )
