-- What is no run and what is no full run, by computation.
use Rattle.std.proofs.Common.{◌≡◌, ℕ, true, false, List, [], ◌∷◌, codes, Option, Some, None, pos, refl, sym, ap, ◌∙◌, subst}
use Rattle.std.specs.Fmt.{digits}
use Rattle.std.specs.Str.{bytes_eq}
use Rattle.hy_terms.specs.Term.{Term, Int, Atom}
use Rattle.hy_terms.specs.TermText.{term_text}
use Rattle.hy_core.specs.declared.class.Class.{Class}
use Rattle.hy_core.specs.declared.end.End.{End}
use Rattle.hy_core.specs.declared.step.Step.{Step}
use Rattle.hy_core.specs.Computation.{Outcome, Needs}
use Rattle.hy_core.specs.Evaluation.{Wait, accepts}
use Rattle.hy_core.specs.FullRun.{NeverStopped, IsFullRun, after_run, behaviour_of}
use Rattle.hy_core.specs.Machine.{Configuration, Message, AreAt, first_accepted}
use Rattle.hy_core.specs.Resolved.{Timeout, AtOnce, Never}
use Rattle.hy_core.specs.RunLaws.{after, waits, sends_and_waits, sends_twice, waits_twice, polls, sends_and_polls, displays, AreNotAllowed, AreNotFull}
use Rattle.hy_core.specs.SmallPrograms.{texts, names, modules, number_of, atom, Writes}
use Rattle.hy_core.specs.Syntax.{Syntax}
use Rattle.hy_core.specs.Worked.{limit, event, took, lapsed}
use Rattle.hy_core.specs.WorkedOutcomes.{spawns}
use Rattle.hy_core.proofs.SmallRuns.{read}
use Rattle.hy_core.proofs.Written.{program_is}

as_read : (body : Syntax) (steps : List Step) → after body steps ≡ after_run (read body) texts limit 0 steps
as_read body steps = ap (λ p. after_run p texts limit 0 steps) (program_is names [] (modules body))

pub are_not_allowed : AreNotAllowed
are_not_allowed = record {
  event_at_later_place = as_read sends_twice (event 0 1 ∷ []);
  take_before_all_events = as_read sends_twice (event 0 0 ∷ took 0 0 ∷ []);
  lapse_before_all_events = as_read sends_and_polls (lapsed 0 0 ∷ []);
  lapse_with_other_length = as_read sends_and_polls (event 0 0 ∷ lapsed 0 0 ∷ []);
  taken_twice = as_read waits_twice (event 0 0 ∷ took 0 0 ∷ took 0 0 ∷ []);
  lapse_at_infinity = as_read waits (lapsed 0 0 ∷ []);
}

abbrev AllAt : Syntax → Configuration Term → List End → Type 0
AllAt body c ends = AreAt (behaviour_of (read body) texts limit) NeverStopped c.processes ends

no_end : (body : Syntax) (steps : List Step) (ends : List End) (output : List ℕ) (last : Configuration Term) → after_run (read body) texts limit 0 steps ≡ Some last → (AllAt body last ends → ⊥) → Writes body steps ends output → ⊥
no_end body steps ends output last h n w =
    let found : Some 0 ≡ Some w.main = w.is_main in
    let main_is : 0 ≡ w.main = cc in
    let run = subst (λ p. IsFullRun p texts limit NeverStopped w.main steps ends output) (program_is names [] (modules body)) w.run in
    let run_of_main = subst (λ m. IsFullRun (read body) texts limit NeverStopped m steps ends output) (sym main_is) run in
    let reached : Some run_of_main.full.last ≡ Some last = sym run_of_main.full.allowed ∙ h in
    let last_is : run_of_main.full.last ≡ last = cc in
    n (subst (λ c. AllAt body c ends) last_is run_of_main.full.at_ends)

-- what the end of a process waits for

abbrev timeout_of : Outcome Term Class Wait → Timeout
timeout_of (Needs w) = w.timeout
timeout_of _ = Never

abbrev accepted_of : List (Message Term) → Outcome Term Class Wait → Option (Message Term)
accepted_of mailbox (Needs w) = first_accepted (accepts texts 0 w) mailbox
accepted_of mailbox _ = None

abbrev message : Message Term
message = record { place = 0; term = Int (pos 1) }

a_is_not_b : codes "'a'" ≡ codes "'b'" → ⊥
a_is_not_b h = let e : false ≡ true = ap (λ t. bytes_eq t (codes "'b'")) h in cc

pub are_not_full : AreNotFull
unfolding digits
are_not_full = record {
  event_left = λ output w. no_end displays [] _ output _ refl (λ at. let e = at.0.through.events in cc) w;
  other_text = λ output w. no_end (atom (codes "a")) [] _ output _ refl (λ at. let same : Atom (number_of (codes "a")) ≡ at.0.value = let e = at.0.end in cc in a_is_not_b (ap (term_text texts) same ∙ at.0.printed)) w;
  timeout_left = λ output w. no_end polls [] _ output _ refl (λ at. let e : AtOnce ≡ Never = ap timeout_of at.0.end ∙ at.0.never in cc) w;
  message_left = λ output w. no_end sends_and_waits (event 0 0 ∷ []) _ output _ refl (λ at. let e : Some message ≡ None = ap (accepted_of (message ∷ [])) at.0.end ∙ at.0.none in cc) w;
  process_left = λ output w. no_end spawns (event 0 0 ∷ event 1 1 ∷ []) _ output _ refl (λ at. at.1) w;
}
