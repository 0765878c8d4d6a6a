-- The small programs, by computation.
use Rattle.std.proofs.Common.{◌≡◌, ℕ, List, [], ◌∷◌, ◌++◌, codes, length, pos, negsuc, refl, sym, ap, subst}
use Rattle.std.proofs.lemmas.List.{append-nil}
use Rattle.std.specs.Fmt.{digits}
use Rattle.hy_terms.specs.Term.{Term, Int, Atom, Pid, Cons, Tuple, terms_of}
use Rattle.hy_terms.specs.TermText.{term_text}
use Rattle.hy_core.specs.declared.end.End.{End}
use Rattle.hy_core.specs.declared.end.End.TheVariants.{Ended}
use Rattle.hy_core.specs.declared.step.Step.{Step}
use Rattle.hy_core.specs.Computation.{ended, Values}
use Rattle.hy_core.specs.FullRun.{NeverStopped, IsFullRun, runs_of}
use Rattle.hy_core.specs.Resolved.{FunctionTree}
use Rattle.hy_core.specs.SmallPrograms.{texts, names, modules, number_of, line, Writes, EndsWith}
use Rattle.hy_core.specs.Syntax.{Syntax}
use Rattle.hy_core.specs.Worked.{limit}
use Rattle.hy_core.specs.WorkedBuiltIns.{compared, of_two_truths, of_each_truth, of_each_kind, other_names, sends, errs, EachComparison, TruthTables, EachKindOfEach, EachNameOnce}
use Rattle.hy_core.specs.WorkedOutcomes.{exits, spawns, ExitOutcome, StopOutcomes, ChildHasArguments}
use Rattle.hy_core.specs.WorkedPatterns.{matched, variable_again, function_again, bound_around, PatternsMatch, InnermostBindings}
use Rattle.hy_core.proofs.Written.{program_is, modules_written}

abbrev pub read : Syntax → List FunctionTree
read body = modules_written names [] (modules body)

-- a run of the program as it is read, whose main is function 0
as_read : (body : Syntax) (steps : List Step) (ends : List End) (output : List ℕ) → IsFullRun (read body) texts limit NeverStopped 0 steps ends output → Writes body steps ends output
as_read body steps ends output h =
    record { main = 0; is_main = refl; run = subst (λ p. IsFullRun p texts limit NeverStopped 0 steps ends output) (sym (program_is names [] (modules body))) h }

-- main's process as it ends, where it does nothing else
gives : (body : Syntax) (value : Term) (calls : ℕ) → runs_of (read body) texts limit 0 0 [] [] ≡ ended calls [] (Values (value ∷ [])) → EndsWith body (term_text texts value)
unfolding digits
gives body value calls h =
    let text = term_text texts value in
    as_read body [] (Ended text ∷ []) (line (codes "0 ended " ++ text))
    (record {
      full = record { last = _; allowed = refl; at_ends = (record { through = record { events = ap (λ r. length r.events) (sym h); inputs = ap (λ r. r.inputs) h }; value = value; end = ap (λ r. r.end) h; printed = refl }, tt) };
      writes = append-nil (line (codes "0 ended " ++ text));
    })

abbrev tuple_of : List Term → Term
tuple_of ts = Tuple (terms_of ts)

abbrev int : ℕ → Term
int n = Int (pos n)

abbrev yes : Term
yes = Atom 0

abbrev no : Term
no = Atom 1

pub each_comparison : EachComparison
each_comparison = record {
  same = gives (compared (codes "=:=")) (tuple_of (no ∷ yes ∷ no ∷ [])) limit refl;
  equal = gives (compared (codes "==")) (tuple_of (no ∷ yes ∷ no ∷ [])) limit refl;
  not_same = gives (compared (codes "=/=")) (tuple_of (yes ∷ no ∷ yes ∷ [])) limit refl;
  not_equal = gives (compared (codes "/=")) (tuple_of (yes ∷ no ∷ yes ∷ [])) limit refl;
  less = gives (compared (codes "<")) (tuple_of (yes ∷ no ∷ no ∷ [])) limit refl;
  greater = gives (compared (codes ">")) (tuple_of (no ∷ no ∷ yes ∷ [])) limit refl;
  at_most = gives (compared (codes "=<")) (tuple_of (yes ∷ yes ∷ no ∷ [])) limit refl;
  at_least = gives (compared (codes ">=")) (tuple_of (no ∷ yes ∷ yes ∷ [])) limit refl;
}

pub truth_tables : TruthTables
truth_tables = record {
  both = gives (of_two_truths (codes "and")) (tuple_of (yes ∷ no ∷ no ∷ no ∷ [])) limit refl;
  some = gives (of_two_truths (codes "or")) (tuple_of (yes ∷ yes ∷ yes ∷ no ∷ [])) limit refl;
  one = gives (of_two_truths (codes "xor")) (tuple_of (no ∷ yes ∷ yes ∷ no ∷ [])) limit refl;
  other = gives (of_each_truth (codes "not")) (tuple_of (no ∷ yes ∷ [])) limit refl;
}

pub each_kind_of_each : EachKindOfEach
each_kind_of_each = record {
  integer = gives (of_each_kind (codes "is_integer")) (tuple_of (yes ∷ no ∷ no ∷ no ∷ no ∷ no ∷ no ∷ [])) limit refl;
  number = gives (of_each_kind (codes "is_number")) (tuple_of (yes ∷ no ∷ no ∷ no ∷ no ∷ no ∷ no ∷ [])) limit refl;
  atom = gives (of_each_kind (codes "is_atom")) (tuple_of (no ∷ yes ∷ yes ∷ no ∷ no ∷ no ∷ no ∷ [])) limit refl;
  boolean = gives (of_each_kind (codes "is_boolean")) (tuple_of (no ∷ no ∷ yes ∷ no ∷ no ∷ no ∷ no ∷ [])) limit refl;
  pid = gives (of_each_kind (codes "is_pid")) (tuple_of (no ∷ no ∷ no ∷ yes ∷ no ∷ no ∷ no ∷ [])) limit refl;
  list = gives (of_each_kind (codes "is_list")) (tuple_of (no ∷ no ∷ no ∷ no ∷ yes ∷ yes ∷ no ∷ [])) limit refl;
  tuple = gives (of_each_kind (codes "is_tuple")) (tuple_of (no ∷ no ∷ no ∷ no ∷ no ∷ no ∷ yes ∷ [])) limit refl;
}

pub each_name_once : EachNameOnce
unfolding digits
each_name_once = record {
  values =
      gives other_names
      (tuple_of
      (
      int 1 ∷ int 2 ∷ int 2 ∷ int 2 ∷ int 2 ∷ tuple_of (int 1 ∷ int 3 ∷ []) ∷ int 3 ∷ Int (negsuc 2) ∷ int 8 ∷ int 14 ∷ int 6
      ∷ int 576460752303423487 ∷ int 2 ∷ int 42 ∷ []
      ))
      limit
      refl;
  send =
      as_read sends _ _ _
      (record { full = record { last = _; allowed = refl; at_ends = (record { through = record { events = refl; inputs = refl }; value = int 1; end = refl; printed = refl }, tt) }; writes = refl });
  error =
      as_read errs [] _ _
      (record { full = record { last = _; allowed = refl; at_ends = (record { through = record { events = refl; inputs = refl }; reason = int 1; end = refl; printed = refl }, tt) }; writes = refl });
}

pub patterns_match : PatternsMatch
unfolding digits
patterns_match = gives matched (tuple_of (tuple_of (int 2 ∷ Cons (int 3) (Cons (int 4) (int 5)) ∷ []) ∷ int 3 ∷ Cons (int 4) (int 5) ∷ [])) limit refl

pub innermost_bindings : InnermostBindings
unfolding digits
innermost_bindings = record {
  variable = gives variable_again (int 2) limit refl;
  function = gives function_again (Atom (number_of (codes "inner"))) 9999999 refl;
  around = gives bound_around (tuple_of (int 1 ∷ int 2 ∷ [])) 9999999 refl;
}

pub exit_outcome : ExitOutcome
unfolding digits
exit_outcome =
    as_read exits [] _ _
    (record { full = record { last = _; allowed = refl; at_ends = (record { through = record { events = refl; inputs = refl }; reason = int 1; end = refl; printed = refl }, tt) }; writes = refl })

pub stop_outcomes : StopOutcomes
unfolding digits
stop_outcomes = record { calls = λ used limit. refl; heap = λ used asked limit. refl; area = λ old asked capacity. refl; log = λ seen. refl; memory = refl }

pub child_has_arguments : ChildHasArguments
unfolding digits
child_has_arguments =
    as_read spawns _ _ _
    (record {
      full = record {
        last = _;
        allowed = refl;
        at_ends = (
          record { through = record { events = refl; inputs = refl }; value = Pid 1; end = refl; printed = refl },
          (record { through = record { events = refl; inputs = refl }; value = yes; end = refl; printed = refl }, tt),
        );
      };
      writes = refl;
    })
