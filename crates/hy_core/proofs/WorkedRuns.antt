-- The worked runs, by computation.
use Rattle.std.proofs.Common.{◌≡◌, ℕ, List, [], ◌∷◌, pos, negsuc, refl, sym, ap, subst}
use Rattle.std.specs.Fmt.{digits}
use Rattle.hy_terms.specs.Term as term
use Rattle.hy_terms.specs.Term.{NoTerms, MoreTerms}
use Rattle.hy_core.specs.declared.end.End.{End}
use Rattle.hy_core.specs.declared.step.Step.{Step}
use Rattle.hy_core.specs.FullRun.{NeverStopped, IsFullRun, runs_of, after_run}
use Rattle.hy_core.specs.WrittenRun.{IsRunOf}
use Rattle.hy_core.specs.Resolved.{FunctionTree}
use Rattle.hy_core.specs.Syntax.{Syntax, module_trees}
use Rattle.hy_core.specs.Worked.{atoms, names, event, took, lapsed, modules, program, limit, nothing, least, past_the_range, least_divided, division, two_messages, no_clauses, only_b, waits_for_ever, either, guarded, shown_in_order, printed_source, ordered_source, to_no_pid, case_of_nothing, fails_in_a_function, fails_to_match, throws, reversed, parent, child, two_and_take, one_and_poll, NumbersHaveARange, DivisionCuts, ReceiveSelects, ReceiveLapsesOrWaits, MessageBeforeClause, GuardsHoldByTrue, PartsGoFromLeft, TermsPrint, TermsAreOrdered, RaisesEnd, PreludeCounts, StartCostsNothing, ParentAndChild, AreNoRuns}
use Rattle.hy_core.proofs.Written.{program_is, modules_written}

abbrev read : Syntax → Syntax → List FunctionTree
read main other = modules_written names [] (modules main other)

-- the program as it is read
is_read : (main other : Syntax) → read main other ≡ program main other
is_read main other = sym (program_is names [] (modules main other))

-- a run of the program as it is read, whose main is function 0
run_with : (main other : Syntax) (calls : ℕ) (steps : List Step) (ends : List End) (output : List ℕ) → IsFullRun (read main other) atoms calls NeverStopped 0 steps ends output → IsRunOf names [] (module_trees (modules main other)) calls NeverStopped steps ends output
run_with main other calls steps ends output h =
    record { main = 0; is_main = refl; run = subst (λ p. IsFullRun p atoms calls NeverStopped 0 steps ends output) (is_read main other) h }

as_read : (main other : Syntax) (steps : List Step) (ends : List End) (output : List ℕ) → IsFullRun (read main other) atoms limit NeverStopped 0 steps ends output → IsRunOf names [] (module_trees (modules main other)) limit NeverStopped steps ends output
as_read main other steps ends output h = run_with main other limit steps ends output h

pub numbers_have_a_range : NumbersHaveARange
unfolding digits
numbers_have_a_range = record {
  past = as_read past_the_range nothing _ _ _ (record { full = record { last = _; allowed = refl; at_ends = (record { through = record { events = refl; inputs = refl }; reason = (term.Atom 4); end = refl; printed = refl }, tt) }; writes = refl });
  least_number = as_read least nothing _ _ _ (record { full = record { last = _; allowed = refl; at_ends = (record { through = record { events = refl; inputs = refl }; value = (term.Int (negsuc 576460752303423487)); end = refl; printed = refl }, tt) }; writes = refl });
  divided = as_read least_divided nothing _ _ _ (record { full = record { last = _; allowed = refl; at_ends = (record { through = record { events = refl; inputs = refl }; reason = (term.Atom 4); end = refl; printed = refl }, tt) }; writes = refl });
}

pub division_cuts : DivisionCuts
unfolding digits
division_cuts = as_read division nothing _ _ _ (record { full = record { last = _; allowed = refl; at_ends = (record { through = record { events = refl; inputs = refl }; reason = (term.Atom 2); end = refl; printed = refl }, tt) }; writes = refl })

pub receive_selects : ReceiveSelects
unfolding digits
receive_selects = as_read two_messages nothing _ _ _ (record { full = record { last = _; allowed = refl; at_ends = (record { through = record { events = refl; inputs = refl }; value = (term.Atom 15); end = refl; printed = refl }, tt) }; writes = refl })

pub receive_lapses_or_waits : ReceiveLapsesOrWaits
unfolding digits
receive_lapses_or_waits = record {
  without_clauses = as_read no_clauses nothing _ _ _ (record { full = record { last = _; allowed = refl; at_ends = (record { through = record { events = refl; inputs = refl }; value = (term.Atom 17); end = refl; printed = refl }, tt) }; writes = refl });
  not_accepted = as_read only_b nothing _ _ _ (record { full = record { last = _; allowed = refl; at_ends = (record { through = record { events = refl; inputs = refl }; value = (term.Atom 17); end = refl; printed = refl }, tt) }; writes = refl });
  waits = as_read waits_for_ever nothing _ _ _ (record { full = record { last = _; allowed = refl; at_ends = (record { events = refl; wait = _; end = refl; never = refl; none = refl }, tt) }; writes = refl });
}

pub message_before_clause : MessageBeforeClause
unfolding digits
message_before_clause = as_read either nothing _ _ _ (record { full = record { last = _; allowed = refl; at_ends = (record { through = record { events = refl; inputs = refl }; value = (term.Atom 15); end = refl; printed = refl }, tt) }; writes = refl })

pub guards_hold_by_true : GuardsHoldByTrue
unfolding digits
guards_hold_by_true = as_read guarded nothing _ _ _ (record { full = record { last = _; allowed = refl; at_ends = (record { through = record { events = refl; inputs = refl }; value = (term.Atom 18); end = refl; printed = refl }, tt) }; writes = refl })

pub parts_go_from_left : PartsGoFromLeft
unfolding digits
parts_go_from_left = as_read shown_in_order nothing _ _ _ (record { full = record { last = _; allowed = refl; at_ends = (record { through = record { events = refl; inputs = refl }; value = (term.Tuple (MoreTerms (term.Atom 0) (MoreTerms (term.Atom 0) NoTerms))); end = refl; printed = refl }, tt) }; writes = refl })

pub terms_print : TermsPrint
unfolding digits
terms_print = as_read printed_source nothing _ _ _ (record { full = record { last = _; allowed = refl; at_ends = (record { through = record { events = refl; inputs = refl }; value = (term.Atom 0); end = refl; printed = refl }, tt) }; writes = refl })

pub terms_are_ordered : TermsAreOrdered
unfolding digits
terms_are_ordered = as_read ordered_source nothing _ _ _ (record { full = record { last = _; allowed = refl; at_ends = (record { through = record { events = refl; inputs = refl }; value = (term.Tuple (MoreTerms (term.Atom 0) (MoreTerms (term.Atom 0) (MoreTerms (term.Atom 0) (MoreTerms (term.Atom 0) (MoreTerms (term.Atom 0) (MoreTerms (term.Atom 0) NoTerms))))))); end = refl; printed = refl }, tt) }; writes = refl })

pub raises_end : RaisesEnd
unfolding digits
raises_end = record {
  send_to_no_pid = as_read to_no_pid nothing _ _ _ (record { full = record { last = _; allowed = refl; at_ends = (record { through = record { events = refl; inputs = refl }; reason = (term.Atom 3); end = refl; printed = refl }, tt) }; writes = refl });
  no_clause = as_read case_of_nothing nothing _ _ _ (record { full = record { last = _; allowed = refl; at_ends = (record { through = record { events = refl; inputs = refl }; reason = (term.Atom 5); end = refl; printed = refl }, tt) }; writes = refl });
  function_clause = as_read fails_in_a_function nothing _ _ _ (record { full = record { last = _; allowed = refl; at_ends = (record { through = record { events = refl; inputs = refl }; reason = (term.Atom 6); end = refl; printed = refl }, tt) }; writes = refl });
  badmatch = as_read fails_to_match nothing _ _ _ (record { full = record { last = _; allowed = refl; at_ends = (record { through = record { events = refl; inputs = refl }; reason = (term.Tuple (MoreTerms (term.Atom 31) (MoreTerms (term.Int (pos 1)) NoTerms))); end = refl; printed = refl }, tt) }; writes = refl });
  throw = as_read throws nothing _ _ _ (record { full = record { last = _; allowed = refl; at_ends = (record { through = record { events = refl; inputs = refl }; reason = (term.Int (pos 3)); end = refl; printed = refl }, tt) }; writes = refl });
}

pub prelude_counts : PreludeCounts
unfolding digits
prelude_counts = record {
  writes = as_read reversed nothing _ _ _ (record { full = record { last = _; allowed = refl; at_ends = (record { through = record { events = refl; inputs = refl }; value = (term.Cons (term.Int (pos 3)) (term.Cons (term.Int (pos 2)) (term.Cons (term.Int (pos 1)) term.Nil))); end = refl; printed = refl }, tt) }; writes = refl });
  all_spent = ap (λ p. (runs_of p atoms 7 0 0 [] []).calls) (sym (is_read reversed nothing));
  too_few = ap (λ p. (runs_of p atoms 6 0 0 [] []).end) (sym (is_read reversed nothing));
}

pub start_costs_nothing : StartCostsNothing
unfolding digits
start_costs_nothing = run_with nothing nothing 0 _ _ _ (record { full = record { last = _; allowed = refl; at_ends = (record { through = record { events = refl; inputs = refl }; value = (term.Atom 17); end = refl; printed = refl }, tt) }; writes = refl })

pub parent_and_child : ParentAndChild
unfolding digits
parent_and_child = as_read parent child _ _ _ (record { full = record { last = _; allowed = refl; at_ends = (record { through = record { events = refl; inputs = refl }; value = (term.Int (pos 8)); end = refl; printed = refl }, (record { through = record { events = refl; inputs = refl }; value = (term.Atom 0); end = refl; printed = refl }, tt)) }; writes = refl })

pub are_no_runs : AreNoRuns
unfolding digits
are_no_runs = record {
  take_before_send = ap (λ p. after_run p atoms limit 0 (event 0 0 ∷ took 1 1 ∷ [])) (sym (is_read parent child));
  take_of_later = ap (λ p. after_run p atoms limit 0 (event 0 0 ∷ event 0 1 ∷ took 0 1 ∷ [])) (sym (is_read two_and_take nothing));
  take_by_first_clause = ap (λ p. after_run p atoms limit 0 (event 0 0 ∷ event 0 1 ∷ took 0 1 ∷ [])) (sym (is_read either nothing));
  lapse_beside_accepted = ap (λ p. after_run p atoms limit 0 (event 0 0 ∷ lapsed 0 1 ∷ [])) (sym (is_read one_and_poll nothing));
}
