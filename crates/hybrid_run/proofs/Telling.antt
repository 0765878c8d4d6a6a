-- What the end of the program says of a command, and what follows where the texts of the files are told.
use Rattle.std.proofs.Common.{◌≡◌, ◌⊎◌, ℕ, suc, zero, ◌+◌, ◌<◌, ◌≤◌, nat_lt, Bool, true, false, List, [], ◌∷◌, length, slice_get, Option, None, Some, Result, Ok, Err, inl, inr, refl, sym, ap, subst, arith}
use Rattle.std.proofs.lemmas.Bool.Decides.{nat_tests}
use Rattle.std.proofs.lemmas.Option.{slice_get_within, get_or_from_slice_get}
use Rattle.std.specs.Prelude.{Contains, IfOk, IfSome, IsErrOf}
use Rattle.hy_core.specs.declared.fault.LintFault.{LintFault}
use Rattle.hy_core.specs.declared.refusal.RefusalKind.{RefusalKind}
use Rattle.hy_core.specs.declared.tree.Module.{Module}
use Rattle.hybrid_run.specs.Answers.{IsUsageAnswer, OfModules, Says}
use Rattle.hybrid_run.specs.CommandLine.{IsCommand, IsUsage, NameFiles}
use Rattle.hybrid_run.specs.Faults.{FailsWith, IsOfFiles, fault_of_answer, refused_at, status_of_answer, status_of_fault}
use Rattle.hy_core.specs.PreludeModules.{with_prelude}
use Rattle.hybrid_run.specs.Headline.{Cut, Done, Faulty, IsDoneStatus, SaysOfModules, Sunk, Unbuilt}
use Rattle.hybrid_run.specs.code.Line.{GivesCommand, command_in}
use Rattle.hybrid_run.specs.Loading.{Told, AreTold, AreRead, AreReadWhereTold, IsFirstRefused, IsRefusedWhereTold, RefusedText, Sourced, StopsLoading, UnreadText}
use Rattle.hybrid_run.specs.Told.{AnswersTold, CanRead, HasFault, HasOtherProgram, HasProgram, HasWritten}
use Rattle.hybrid_run.specs.declared.command.Mode.{Mode}
use Rattle.hybrid_run.specs.declared.fault.TopFault.{TopFault}
use Rattle.hybrid_run.specs.declared.fault.TopFault.TheVariants as f
use Rattle.hybrid_run.specs.declared.top.Finish.{Finish}
use Rattle.outside.specs.Outside.{Rises}
use Rattle.hybrid_run.proofs.CommandReading.{one_command, is_command, is_usage}
use Rattle.hybrid_run.proofs.Linting.{fault_within, one_least}
use Rattle.hybrid_run.proofs.Loaded.{all_read, first_refused_not_read, none_refused, not_before, not_passed, refused_where_told, same_count, same_refusal, same_trees}

abbrev pub Answer : Type 0
Answer = Result ℕ TopFault

abbrev finish_of : Answer → Finish
finish_of r = record { status = status_of_answer r; refused = fault_of_answer r }

pub same_finish : (r : Answer) (finish : Finish) → finish.status ≡ status_of_answer r → finish.refused ≡ fault_of_answer r → finish ≡ finish_of r
same_finish r finish status refused = λ i. record { status = status i; refused = refused i }

-- ---- from what was loaded, and from what is said of modules

module _ (mode : Mode) (files : List (List ℕ)) (sources : Sourced) (sink : Sunk) where
  -- where files aren't read
  pub says_stopped : (fault : TopFault) (status : ℕ) → StopsLoading sources files fault → Says mode files sources sink status (Some fault)
  says_stopped f.Usage status h = h
  says_stopped (f.Read file) status h = h
  says_stopped (f.Refused file refused) status h = h
  says_stopped (f.Lint found) status h = absurd h
  says_stopped f.NotBuilt status h = absurd h
  says_stopped f.Write status h = absurd h
  says_stopped f.Memory status h = h

  -- where they are, and something is said of their modules
  pub says_read : (zs : List Module) → AreReadWhereTold sources.told files zs → (status : ℕ) (refused : Option TopFault) → SaysOfModules mode zs sink status refused → Says mode files sources sink status refused
  says_read zs read status None h = record { zs = zs; read = read; so = h }
  says_read zs read status (Some f.Usage) h = h
  says_read zs read status (Some (f.Read file)) h = absurd h
  says_read zs read status (Some (f.Refused file refused)) h = absurd h
  says_read zs read status (Some (f.Lint found)) h = record { zs = zs; read = read; so = h }
  says_read zs read status (Some f.NotBuilt) h = record { zs = zs; read = read; so = h }
  says_read zs read status (Some f.Write) h = record { zs = zs; read = read; so = h }
  says_read zs read status (Some f.Memory) h = h

-- ---- the words

-- what holds of the command that was read holds of each command that the words are
pub each_command : (words : List (List ℕ)) (read : Mode) (named : List (List ℕ)) (P : Mode → List (List ℕ) → Type 0) → command_in words ≡ Some (read, named) → P read named → (mode : Mode) (files : List (List ℕ)) → IsCommand words mode files → P mode files
each_command words read named P is h mode files c =
    let same = one_command words mode read files named is c in
    subst (λ (k : Mode). P k files) same.0 (subst (λ (fs : List (List ℕ)). P read fs) same.1 h)

pub no_usage : (words : List (List ℕ)) (read : Mode) (named : List (List ℕ)) (Q : Type 0) → command_in words ≡ Some (read, named) → IsUsage words → Q
no_usage words read named Q is usage = absurd (usage read named (is_command words read named is))

-- where no command was read, the words are none, or memory ran out
pub says_unread : (words : List (List ℕ)) (fault : TopFault) (sources : Sourced) (sink : Sunk) → GivesCommand (Err fault) (command_in words) → (mode : Mode) (files : List (List ℕ)) → IsCommand words mode files
    → Says mode files sources sink (status_of_fault fault) (Some fault)
says_unread words f.Usage sources sink none mode files c = is_usage words none mode files c
says_unread words (f.Read file) sources sink none mode files c = absurd none
says_unread words (f.Refused file refused) sources sink none mode files c = absurd none
says_unread words (f.Lint found) sources sink none mode files c = absurd none
says_unread words f.NotBuilt sources sink none mode files c = absurd none
says_unread words f.Write sources sink none mode files c = absurd none
says_unread words f.Memory sources sink none mode files c = tt

pub usage_unread : (words : List (List ℕ)) (fault : TopFault) → GivesCommand (Err fault) (command_in words) → fault ≡ f.Usage → IsUsage words
usage_unread words f.Usage none is = is_usage words none
usage_unread words (f.Read file) none is = absurd none
usage_unread words (f.Refused file refused) none is = absurd none
usage_unread words (f.Lint found) none is = absurd none
usage_unread words f.NotBuilt none is = absurd none
usage_unread words f.Write none is = absurd none
usage_unread words f.Memory none is = absurd cc

-- ---- where texts are told

compared : (a b : ℕ) → (a < b) ⊎ (a ≡ b) ⊎ (b < a)
compared a b = by (nat_lt a b) (nat_lt b a) refl refl
  where
    by : (low high : Bool) → nat_lt a b ≡ low → nat_lt b a ≡ high → (a < b) ⊎ (a ≡ b) ⊎ (b < a)
    by true high p q = inl (grind (arith, nat_tests, p))
    by false true p q = inr (inr (grind (arith, nat_tests, q)))
    by false false p q = inr (inl (grind (arith, nat_tests, p, q)))

low_status : (n : ℕ) → n < 2 → Contains (0 ∷ 1 ∷ 8 ∷ []) n
low_status zero h = (0, omega arith, refl)
low_status (suc zero) h = (1, omega arith, refl)
low_status (suc (suc n)) h = absurd (omega arith)

small_status : (n : ℕ) → n < 2 → Contains (0 ∷ 1 ∷ 2 ∷ 3 ∷ 6 ∷ 7 ∷ 8 ∷ []) n
small_status zero h = (0, omega arith, refl)
small_status (suc zero) h = (1, omega arith, refl)
small_status (suc (suc n)) h = absurd (omega arith)

-- the fault, where each file can be read
can_read : (fault : TopFault) (count : ℕ) (o : Option TopFault) → ((file : ℕ) → o ≡ Some (f.Read file) → ⊥) → FailsWith fault count o → Contains (Some fault ∷ Some f.Memory ∷ []) o
can_read fault count o no_read (inl is) = (0, omega arith, sym is)
can_read fault count o no_read (inr (inl (file, low, is))) = absurd (no_read file is)
can_read fault count o no_read (inr (inr is)) = (1, omega arith, sym is)

contains_at : (files : List (List ℕ)) (place : ℕ) (file : List ℕ) → slice_get files place ≡ Some file → Contains files file
contains_at files place file is = (place, slice_get_within files place file is, get_or_from_slice_get files place file file is)

module _ (mode : Mode) (files : List (List ℕ)) (sources : Sourced) (sink : Sunk) where
  abbrev told : Told
  told = sources.told

  abbrev SaysBy : Answer → Type 0
  SaysBy r = Says mode files sources sink (status_of_answer r) (fault_of_answer r)

  -- what holds of modules that were read holds of those of the texts that are told
  of_told : (P : List Module → Type 0) (o : OfModules told files P) (zs : List Module) → AreRead told files zs → P zs
  of_told P o zs are = subst P (same_trees told files zs o.zs are o.read) o.so

  -- and what was read is what is told
  as_told : (P : List Module → Type 0) (o : OfModules told files P) → AreTold told files → (zs : List Module) × AreRead told files zs × P zs
  as_told P o tells = (o.zs, all_read told files o.zs tells o.read, o.so)

  refused_program : (file : ℕ) (kind : RefusalKind) (place : ℕ) (zs : List Module) → AreRead told files zs → RefusedText sources files file kind place → ⊥
  refused_program file kind place zs are r = none_refused told files zs file kind place are (refused_where_told sources files file kind place r) r.name r.stands

  told_done : (r : Answer) → SaysBy r → (zs : List Module) → AreRead told files zs → IsDoneStatus (status_of_answer r) → Done mode zs sink (status_of_answer r)
  told_done (Ok n) says zs are low = of_told (λ ys. Done mode ys sink n) says zs are
  told_done (Err f.Usage) says zs are low = absurd says
  told_done (Err (f.Read file)) says zs are low = absurd (omega (arith, low))
  told_done (Err (f.Refused file refused)) says zs are low = absurd (omega (arith, low))
  told_done (Err (f.Lint found)) says zs are low = absurd (omega (arith, low))
  told_done (Err f.NotBuilt) says zs are low = absurd (omega (arith, low))
  told_done (Err f.Write) says zs are low = absurd (omega (arith, low))
  told_done (Err f.Memory) says zs are low = absurd (omega (arith, low))

  told_cut : (r : Answer) → IfOk r IsDoneStatus → SaysBy r → (zs : List Module) → AreRead told files zs → status_of_answer r ≡ 7 → Cut mode zs sink
  told_cut (Ok n) low says zs are is = absurd (omega (arith, low, is))
  told_cut (Err f.Usage) low says zs are is = absurd says
  told_cut (Err (f.Read file)) low says zs are is = absurd (omega (arith, is))
  told_cut (Err (f.Refused file refused)) low says zs are is = absurd (omega (arith, is))
  told_cut (Err (f.Lint found)) low says zs are is = absurd (omega (arith, is))
  told_cut (Err f.NotBuilt) low says zs are is = absurd (omega (arith, is))
  told_cut (Err f.Write) low says zs are is = of_told (λ ys. Cut mode ys sink) says zs are
  told_cut (Err f.Memory) low says zs are is = absurd (omega (arith, is))

  has_written : (s : ℕ) → (s < 2 → ⊥) → (s ≡ 7 → ⊥) → HasWritten s → ⊥
  has_written s low seven (inl h) = low h
  has_written s low seven (inr h) = seven h

  told_accepted : (r : Answer) → SaysBy r → AreTold told files → HasWritten (status_of_answer r) → HasProgram mode told files
  told_accepted (Ok n) says tells h = let t = as_told (λ zs. Done mode zs sink n) says tells in (t.0, t.1, t.2.accepted, t.2.built)
  told_accepted (Err f.Usage) says tells h = absurd says
  told_accepted (Err (f.Read file)) says tells h = absurd (has_written 6 (λ b. omega (arith, b)) (λ b. omega (arith, b)) h)
  told_accepted (Err (f.Refused file refused)) says tells h = absurd (has_written 3 (λ b. omega (arith, b)) (λ b. omega (arith, b)) h)
  told_accepted (Err (f.Lint found)) says tells h = absurd (has_written 3 (λ b. omega (arith, b)) (λ b. omega (arith, b)) h)
  told_accepted (Err f.NotBuilt) says tells h = absurd (has_written 3 (λ b. omega (arith, b)) (λ b. omega (arith, b)) h)
  told_accepted (Err f.Write) says tells h = let t = as_told (λ zs. Cut mode zs sink) says tells in (t.0, t.1, t.2.accepted, t.2.built)
  told_accepted (Err f.Memory) says tells h = absurd (has_written 8 (λ b. omega (arith, b)) (λ b. omega (arith, b)) h)

  told_refuses : (r : Answer) → IfOk r IsDoneStatus → SaysBy r → AreTold told files → (HasProgram mode told files → ⊥) → Contains (3 ∷ 6 ∷ 8 ∷ []) (status_of_answer r)
  told_refuses (Ok n) low says tells never = absurd (never (told_accepted (Ok n) says tells (inl low)))
  told_refuses (Err f.Usage) low says tells never = absurd says
  told_refuses (Err (f.Read file)) low says tells never = (1, omega arith, refl)
  told_refuses (Err (f.Refused file refused)) low says tells never = (0, omega arith, refl)
  told_refuses (Err (f.Lint found)) low says tells never = (0, omega arith, refl)
  told_refuses (Err f.NotBuilt) low says tells never = (0, omega arith, refl)
  told_refuses (Err f.Write) low says tells never = absurd (never (told_accepted (Err f.Write) says tells (inr refl)))
  told_refuses (Err f.Memory) low says tells never = (2, omega arith, refl)

  told_refuses_only : (r : Answer) → IfOk r IsDoneStatus → SaysBy r → status_of_answer r ≡ 3 → HasProgram mode told files → ⊥
  told_refuses_only (Ok n) low says is program = omega (arith, low, is)
  told_refuses_only (Err f.Usage) low says is program = says
  told_refuses_only (Err (f.Read file)) low says is program = omega (arith, is)
  told_refuses_only (Err (f.Refused file refused)) low says is (zs, are, accepted, built) = refused_program file refused.kind refused.place zs are says
  told_refuses_only (Err (f.Lint found)) low says is (zs, are, accepted, built) = accepted found (of_told (λ ys. Faulty ys found) says zs are).least.holds
  told_refuses_only (Err f.NotBuilt) low says is (zs, are, accepted, built) = (of_told (λ ys. Unbuilt mode ys) says zs are).not_built built
  told_refuses_only (Err f.Write) low says is program = omega (arith, is)
  told_refuses_only (Err f.Memory) low says is program = omega (arith, is)

  unread_within : (file : ℕ) → UnreadText sources files file → file < length files
  unread_within file u = slice_get_within files file u.name u.stands

  told_faulty : (r : Answer) → SaysBy r → (fault : LintFault) → HasFault told files fault → FailsWith (f.Lint fault) (length files) (fault_of_answer r)
  told_faulty (Ok n) says fault (zs, are, least) = absurd ((of_told (λ ys. Done mode ys sink n) says zs are).accepted fault least.holds)
  told_faulty (Err f.Usage) says fault has = absurd says
  told_faulty (Err (f.Read file)) says fault has = inr (inl (file, unread_within file says, refl))
  told_faulty (Err (f.Refused file refused)) says fault (zs, are, least) = absurd (refused_program file refused.kind refused.place zs are says)
  told_faulty (Err (f.Lint found)) says fault (zs, are, least) =
      inl (ap (λ (k : LintFault). Some (f.Lint k)) (one_least (with_prelude zs) found fault (of_told (λ ys. Faulty ys found) says zs are).least least))
  told_faulty (Err f.NotBuilt) says fault (zs, are, least) = absurd ((of_told (λ ys. Unbuilt mode ys) says zs are).accepted fault least.holds)
  told_faulty (Err f.Write) says fault (zs, are, least) = absurd ((of_told (λ ys. Cut mode ys sink) says zs are).accepted fault least.holds)
  told_faulty (Err f.Memory) says fault has = inr (inr refl)

  told_not_built : (r : Answer) → SaysBy r → HasOtherProgram mode told files → FailsWith f.NotBuilt (length files) (fault_of_answer r)
  told_not_built (Ok n) says (zs, are, accepted, never) = absurd (never (of_told (λ ys. Done mode ys sink n) says zs are).built)
  told_not_built (Err f.Usage) says other = absurd says
  told_not_built (Err (f.Read file)) says other = inr (inl (file, unread_within file says, refl))
  told_not_built (Err (f.Refused file refused)) says (zs, are, accepted, never) = absurd (refused_program file refused.kind refused.place zs are says)
  told_not_built (Err (f.Lint found)) says (zs, are, accepted, never) = absurd (accepted found (of_told (λ ys. Faulty ys found) says zs are).least.holds)
  told_not_built (Err f.NotBuilt) says other = inl refl
  told_not_built (Err f.Write) says (zs, are, accepted, never) = absurd (never (of_told (λ ys. Cut mode ys sink) says zs are).built)
  told_not_built (Err f.Memory) says other = inr (inr refl)

  not_all_read : (P : List Module → Type 0) (Q : Type 0) (file : ℕ) (kind : RefusalKind) (place : ℕ) → IsFirstRefused told files file kind place → OfModules told files P → Q
  not_all_read P Q file kind place first o = absurd (first_refused_not_read told files o.zs file kind place first o.read)

  told_source : (r : Answer) → SaysBy r → (file : ℕ) (kind : RefusalKind) (place : ℕ) → IsFirstRefused told files file kind place → FailsWith (refused_at file kind place) (file + 1) (fault_of_answer r)
  told_source (Ok n) says file kind place first = not_all_read (λ zs. Done mode zs sink n) _ file kind place first says
  told_source (Err f.Usage) says file kind place first = absurd says
  told_source (Err (f.Read other)) says file kind place first = by (compared other file)
    where
      by : (other < file) ⊎ (other ≡ file) ⊎ (file < other) → FailsWith (refused_at file kind place) (file + 1) (Some (f.Read other))
      by (inl low) = inr (inl (other, omega (arith, low), refl))
      by (inr (inl same)) = inr (inl (other, omega (arith, same), refl))
      by (inr (inr high)) = absurd (not_passed told files file other kind place first says.before high)
  told_source (Err (f.Refused other r)) says file kind place first = by (compared other file)
    where
      here : IsRefusedWhereTold told files other r.kind r.place
      here = refused_where_told sources files other r.kind r.place says

      by : (other < file) ⊎ (other ≡ file) ⊎ (file < other) → FailsWith (refused_at file kind place) (file + 1) (Some (f.Refused other r))
      by (inl low) = absurd (not_before told files file other kind r.kind place r.place first here says.name says.stands low)
      by (inr (inl same)) =
          let both = same_refusal told files file kind r.kind place r.place first (subst (λ (i : ℕ). IsRefusedWhereTold told files i r.kind r.place) same here) in
          inl (λ i. Some (refused_at (same i) (both.0 i) (both.1 i)))
      by (inr (inr high)) = absurd (not_passed told files file other kind place first says.before high)
  told_source (Err (f.Lint found)) says file kind place first = not_all_read (λ zs. Faulty zs found) _ file kind place first says
  told_source (Err f.NotBuilt) says file kind place first = not_all_read (λ zs. Unbuilt mode zs) _ file kind place first says
  told_source (Err f.Write) says file kind place first = not_all_read (λ zs. Cut mode zs sink) _ file kind place first says
  told_source (Err f.Memory) says file kind place first = inr (inr refl)

  -- what an answer says, by its fault
  by_fault : (r : Answer) (fault : TopFault) → SaysBy r → fault_of_answer r ≡ Some fault → Says mode files sources sink (status_of_answer r) (Some fault)
  by_fault r fault says is = subst (λ (o : Option TopFault). Says mode files sources sink (status_of_answer r) o) is says

  never_read : (r : Answer) → SaysBy r → CanRead sources files → (file : ℕ) → fault_of_answer r ≡ Some (f.Read file) → ⊥
  never_read r says can file is =
      let u = by_fault r (f.Read file) says is in
      can u.name (contains_at files file u.name u.stands) u.failed

  told_does : (r : Answer) → IfOk r IsDoneStatus → SaysBy r → CanRead sources files → (Rises sink.old sink.new → ⊥) → HasProgram mode told files → Contains (0 ∷ 1 ∷ 8 ∷ []) (status_of_answer r)
  told_does (Ok n) low says can_be_read can_be_written program = low_status n low
  told_does (Err f.Usage) low says can_be_read can_be_written program = absurd says
  told_does (Err (f.Read file)) low says can_be_read can_be_written program = absurd (never_read (Err (f.Read file)) says can_be_read file refl)
  told_does (Err (f.Refused file refused)) low says can_be_read can_be_written program = absurd (told_refuses_only (Err (f.Refused file refused)) low says refl program)
  told_does (Err (f.Lint found)) low says can_be_read can_be_written program = absurd (told_refuses_only (Err (f.Lint found)) low says refl program)
  told_does (Err f.NotBuilt) low says can_be_read can_be_written program = absurd (told_refuses_only (Err f.NotBuilt) low says refl program)
  told_does (Err f.Write) low says can_be_read can_be_written program = absurd (can_be_written says.so.failed)
  told_does (Err f.Memory) low says can_be_read can_be_written program = (2, omega arith, refl)

  pub answers_told : (r : Answer) → IfOk r IsDoneStatus → SaysBy r → AnswersTold mode files sources sink (finish_of r)
  answers_told r low says = record {
    done = told_done r says;
    cut = told_cut r low says;
    accepted = told_accepted r says;
    refuses = told_refuses r low says;
    refuses_only = told_refuses_only r low says;
    faulty = told_faulty r says;
    faulty_only = λ fault tells is. let t = as_told (λ zs. Faulty zs fault) (by_fault r (f.Lint fault) says is) tells in (t.0, t.1, t.2.least);
    not_built = told_not_built r says;
    not_built_only = λ tells is. let t = as_told (λ zs. Unbuilt mode zs) (by_fault r f.NotBuilt says is) tells in (t.0, t.1, t.2.accepted, t.2.not_built);
    source = told_source r says;
    source_only = λ file kind place is. refused_where_told sources files file kind place (by_fault r (refused_at file kind place) says is);
    complete = λ tells can_be_read can_be_written. record {
      does = told_does r low says can_be_read can_be_written;
      not_built = λ other. can_read f.NotBuilt (length files) (fault_of_answer r) (never_read r says can_be_read) (told_not_built r says other);
      faulty = λ fault has. can_read (f.Lint fault) (length files) (fault_of_answer r) (never_read r says can_be_read) (told_faulty r says fault has);
      source = λ file kind place first. can_read (refused_at file kind place) (file + 1) (fault_of_answer r) (never_read r says can_be_read) (told_source r says file kind place first);
    };
  }

  -- the fault names one of the files
  pub names_one : 1 ≤ length files → (r : Answer) → SaysBy r → IfSome (fault_of_answer r) (λ fault. IsOfFiles fault (length files))
  names_one some (Ok n) says = tt
  names_one some (Err f.Usage) says = tt
  names_one some (Err (f.Read file)) says = unread_within file says
  names_one some (Err (f.Refused file refused)) says = slice_get_within files file says.name says.stands
  names_one some (Err (f.Lint found)) says =
      let count = same_count told files says.zs says.read in
      let within = fault_within says.zs (omega (arith, count, some)) found says.so.least.holds in
      omega (arith, count, within)
  names_one some (Err f.NotBuilt) says = tt
  names_one some (Err f.Write) says = tt
  names_one some (Err f.Memory) says = tt

-- ---- statuses

pub finish_statuses : (answer : Answer) → IfOk answer IsDoneStatus → Contains (0 ∷ 1 ∷ 2 ∷ 3 ∷ 6 ∷ 7 ∷ 8 ∷ []) (status_of_answer answer)
finish_statuses (Ok n) status = small_status n status
finish_statuses (Err f.Usage) status = (2, omega arith, refl)
finish_statuses (Err (f.Read file)) status = (4, omega arith, refl)
finish_statuses (Err (f.Refused file refused)) status = (3, omega arith, refl)
finish_statuses (Err (f.Lint found)) status = (3, omega arith, refl)
finish_statuses (Err f.NotBuilt) status = (3, omega arith, refl)
finish_statuses (Err f.Write) status = (5, omega arith, refl)
finish_statuses (Err f.Memory) status = (6, omega arith, refl)

-- status 2 is usage
pub finish_usage_only : (answer : Answer) → IfOk answer IsDoneStatus → status_of_answer answer ≡ 2 → IsErrOf answer f.Usage
finish_usage_only (Ok n) status is = absurd (omega (arith, status, is))
finish_usage_only (Err f.Usage) status is = refl
finish_usage_only (Err (f.Read file)) status is = absurd (omega (arith, is))
finish_usage_only (Err (f.Refused file refused)) status is = absurd (omega (arith, is))
finish_usage_only (Err (f.Lint found)) status is = absurd (omega (arith, is))
finish_usage_only (Err f.NotBuilt) status is = absurd (omega (arith, is))
finish_usage_only (Err f.Write) status is = absurd (omega (arith, is))
finish_usage_only (Err f.Memory) status is = absurd (omega (arith, is))

-- usage and want of memory name no file
usage_names : (answer : Answer) (count : ℕ) → IsUsageAnswer answer → IfSome (fault_of_answer answer) (λ fault. IsOfFiles fault count)
usage_names (Ok n) count is = tt
usage_names (Err f.Usage) count is = tt
usage_names (Err (f.Read file)) count is = absurd is
usage_names (Err (f.Refused file refused)) count is = absurd is
usage_names (Err (f.Lint found)) count is = absurd is
usage_names (Err f.NotBuilt) count is = tt
usage_names (Err f.Write) count is = tt
usage_names (Err f.Memory) count is = tt

-- the file that a fault names is one of those that the words name
pub names_file : (words files : List (List ℕ)) (answer : Answer) (sources : Sourced) (sink : Sunk) → NameFiles words files
    → ((mode : Mode) (files : List (List ℕ)) → IsCommand words mode files → Says mode files sources sink (status_of_answer answer) (fault_of_answer answer)) → (IsUsage words → IsUsageAnswer answer)
    → IfSome (fault_of_answer answer) (λ fault. IsOfFiles fault (length files))
names_file words files answer sources sink (inl (mode, is)) says usage = names_one mode files sources sink is.some answer (says mode files is)
names_file words files answer sources sink (inr (never, none)) says usage = usage_names answer (length files) (usage never)
