-- A full run with no process stopped allows no further step, and its steps determine its ends.
use Rattle.std.proofs.Common.{◌≡◌, ℕ, ◌==◌, Bool, true, false, List, [], ◌∷◌, ◌++◌, length, Option, Some, None, if◌then◌else◌, refl, sym, ap, ◌∙◌, subst, arith}
use Rattle.std.proofs.lemmas.Option.{slice_get_past}
use Rattle.std.specs.Prelude.{slice_get}
use Rattle.hy_core.specs.declared.class.Class.{Class}
use Rattle.hy_core.specs.declared.end.Cause.{Cause}
use Rattle.hy_core.specs.declared.end.End.{End}
use Rattle.hy_core.specs.declared.end.End.TheVariants.{Ended, Raised, Waits, Stopped}
use Rattle.hy_core.specs.declared.step.Item.{Item}
use Rattle.hy_core.specs.declared.step.Item.TheVariants as item
use Rattle.hy_core.specs.declared.step.Step.{Step}
use Rattle.hy_core.specs.Computation as outcome
use Rattle.hy_core.specs.Computation.{Outcome, Values, Needs}
use Rattle.hy_core.specs.Event.{Event}
use Rattle.hy_core.specs.FullRun.{behaviour_of, NeverStopped, IsFullRun, trees_of}
use Rattle.hy_core.specs.Tables.{program_atoms}
use Rattle.hy_core.specs.Machine.{Behaviour, Process, Configuration, after_step, after_steps, step_of, process_step, process_of, event_step, take_step, take_of, lapse_step, lapse_of, is_done, activity, first_accepted, start, IsAt, AreAt}
use Rattle.hy_core.specs.Output.{run_output}
use Rattle.hy_core.specs.Resolved.{FunctionTree}
use Rattle.hy_core.specs.RunLaws.{FullRunsAreLast, ProgramsEndOnce}

some_same : {A : Type 0} (x y : A) → Some x ≡ Some y → x ≡ y
some_same x y h = cc

module _ {V W : Type 0} (behaviour : Behaviour V W) where
  abbrev Never_stopped : Process V → Cause → Type 0
  Never_stopped p cause = ⊥

  abbrev At : Process V → End → Type 0
  At = IsAt behaviour Never_stopped

  abbrev AllAt : List (Process V) → List End → Type 0
  AllAt = AreAt behaviour Never_stopped

  -- no further step

  steps_none : (ss : List Step) → after_steps behaviour ss None ≡ None
  steps_none [] = refl
  steps_none (s ∷ ss) = refl

  steps-append : (ss ts : List Step) (c : Option (Configuration V)) → after_steps behaviour (ss ++ ts) c ≡ after_steps behaviour ts (after_steps behaviour ss c)
  steps-append [] ts c = refl
  steps-append (s ∷ ss) ts None = sym (steps_none ts)
  steps-append (s ∷ ss) ts (Some c) = steps-append ss ts (after_step behaviour s c)

  abbrev NoStep : Outcome V Class W → Process V → Type 0
  NoStep end p =
      (n : ℕ) (c : Configuration V) → (take_step behaviour n p end c ≡ None) × (lapse_step behaviour n p end c ≡ None)

  no_step_at : (p : Process V) (e : End) → At p e → NoStep (activity behaviour p).end p
  no_step_at p (Ended text) h n c = (ap (λ end. take_step behaviour n p end c) h.end, ap (λ end. lapse_step behaviour n p end c) h.end)
  no_step_at p (Raised class text) h n c = (ap (λ end. take_step behaviour n p end c) h.end, ap (λ end. lapse_step behaviour n p end c) h.end)
  no_step_at p Waits h n c = (
    ap (λ end. take_step behaviour n p end c) h.end ∙ ap (λ m. take_of behaviour n p m c) h.none,
    ap (λ end. lapse_step behaviour n p end c) h.end ∙ ap (λ t. lapse_of behaviour n p t (first_accepted (behaviour.accepts p.pid h.wait) p.mailbox) c) h.never,
  )
  no_step_at p (Stopped cause) h n c = absurd h

  all_done : (p : Process V) (e : End) → At p e → p.done ≡ length (activity behaviour p).events
  all_done p (Ended text) h = h.through.events
  all_done p (Raised class text) h = h.through.events
  all_done p Waits h = h.events
  all_done p (Stopped cause) h = absurd h

  no_event : (place : ℕ) (p : Process V) (events : List (Event V)) (done : ℕ) (c : Configuration V) → done ≡ length events → event_step behaviour place p (slice_get events done) c ≡ None
  no_event place p events done c h = ap (λ e. event_step behaviour place p e c) (slice_get_past events done (omega (arith, h)))

  if_none : (b : Bool) (o : Option (Configuration V)) → o ≡ None → (if b then o else None) ≡ None
  if_none true o h = h
  if_none false o h = refl

  no_item : (i : Item) (p : Process V) (e : End) (c : Configuration V) → At p e → process_step behaviour i p c ≡ None
  no_item (item.Event place) p e c h = no_event place p (activity behaviour p).events p.done c (all_done p e h)
  no_item (item.Took place) p e c h = if_none (is_done behaviour p) _ (no_step_at p e h place c).0
  no_item (item.Lapsed seen) p e c h = if_none (is_done behaviour p) _ (no_step_at p e h seen c).1

  by_pid : (b : Bool) (i : Item) (p : Process V) (rest : Option (Process V)) (c : Configuration V) → process_step behaviour i p c ≡ None → step_of behaviour i rest c ≡ None → step_of behaviour i (if b then Some p else rest) c ≡ None
  by_pid true i p rest c h k = h
  by_pid false i p rest c h k = k

  no_step_among : (i : Item) (pid : ℕ) (ps : List (Process V)) (es : List End) (c : Configuration V) → AllAt ps es → step_of behaviour i (process_of pid ps) c ≡ None
  no_step_among i pid [] es c h = refl
  no_step_among i pid (p ∷ ps) [] c h = absurd h
  no_step_among i pid (p ∷ ps) (e ∷ es) c h =
      by_pid (p.pid == pid) i p (process_of pid ps) c (no_item i p e c h.0) (no_step_among i pid ps es c h.1)

  -- one end

  abbrev outcome_of : V → Outcome V Class W
  outcome_of v = Values (v ∷ [])

  abbrev raised_of : Class → V → Outcome V Class W
  raised_of class v = outcome.Raised class v

  values_same : (v w : V) → outcome_of v ≡ outcome_of w → v ≡ w
  values_same v w h = cc

  one_end_at : (p : Process V) (d e : End) → At p d → At p e → d ≡ e
  one_end_at p (Ended text) (Ended other) h k = ap Ended (sym h.printed ∙ ap behaviour.text_of (values_same h.value k.value (sym h.end ∙ k.end)) ∙ k.printed)
  one_end_at p (Ended text) (Raised class other) h k = absurd (let e = sym h.end ∙ k.end in cc)
  one_end_at p (Ended text) Waits h k = absurd (let e = sym h.end ∙ k.end in cc)
  one_end_at p (Raised class text) (Ended other) h k = absurd (let e = sym h.end ∙ k.end in cc)
  one_end_at p (Raised class text) (Raised kind other) h k =
      let e : raised_of class h.reason ≡ raised_of kind k.reason = sym h.end ∙ k.end in
      let same_class : class ≡ kind = cc in
      let same_reason : h.reason ≡ k.reason = cc in
      let same_text : text ≡ other = sym h.printed ∙ ap behaviour.text_of same_reason ∙ k.printed in
      λ i. Raised (same_class i) (same_text i)
  one_end_at p (Raised class text) Waits h k = absurd (let e = sym h.end ∙ k.end in cc)
  one_end_at p Waits (Ended other) h k = absurd (let e = sym h.end ∙ k.end in cc)
  one_end_at p Waits (Raised class other) h k = absurd (let e = sym h.end ∙ k.end in cc)
  one_end_at p Waits Waits h k = refl
  one_end_at p (Stopped cause) e h k = absurd h
  one_end_at p d (Stopped cause) h k = absurd k

  one_end_each : (ps : List (Process V)) (ds es : List End) → AllAt ps ds → AllAt ps es → ds ≡ es
  one_end_each [] [] [] h k = refl
  one_end_each [] (d ∷ ds) es h k = absurd h
  one_end_each [] [] (e ∷ es) h k = absurd k
  one_end_each (p ∷ ps) [] es h k = absurd h
  one_end_each (p ∷ ps) (d ∷ ds) [] h k = absurd k
  one_end_each (p ∷ ps) (d ∷ ds) (e ∷ es) h k = λ i. one_end_at p d e h.0 k.0 i ∷ one_end_each ps ds es h.1 k.1 i

pub full_runs_are_last : (program : List FunctionTree) (atoms : List (List ℕ)) (calls main : ℕ) → FullRunsAreLast program atoms calls main
full_runs_are_last program atoms calls main = record {
  no_step = λ steps ends output h s.
      let b = behaviour_of program atoms calls in
      steps-append b steps (s ∷ []) (Some (start main)) ∙ ap (after_steps b (s ∷ [])) h.full.allowed
      ∙ no_step_among b s.item s.pid h.full.last.processes ends h.full.last h.full.at_ends;
  one_end = λ steps ends others output other h k.
      let b = behaviour_of program atoms calls in
      let last : h.full.last ≡ k.full.last = some_same h.full.last k.full.last (sym h.full.allowed ∙ k.full.allowed) in
      let same : ends ≡ others = one_end_each b k.full.last.processes ends others (subst (λ c. AllAt b c.processes ends) last h.full.at_ends) k.full.at_ends in
      (same, sym h.writes ∙ (λ i. run_output (last i) (same i)) ∙ k.writes);
}

pub programs_end_once : ProgramsEndOnce
programs_end_once program limit steps ends others output other h k =
    let same : h.main ≡ k.main = some_same h.main k.main (sym h.is_main ∙ k.is_main) in
    (full_runs_are_last (trees_of program) (program_atoms program) limit h.main).one_end steps ends others output other h.run
    (subst (λ (n : ℕ). IsFullRun (trees_of program) (program_atoms program) limit NeverStopped n steps others other) (sym same) k.run)
