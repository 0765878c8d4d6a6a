-- What a mode does with modules, by what is written.
use Rattle.std.proofs.Common.{◌≡◌, ℕ, List, Some, Result, Ok, Err, refl, sym, subst}
use Rattle.std.specs.Prelude.{IfErr, IfOk, IsErrOf, OnOk}
use Rattle.hy_core.specs.Faults.{IsAccepted}
use Rattle.hy_core.specs.declared.tree.Module.{Module}
use Rattle.outside.specs.Outside.{Appends, AppendsPrefix, Rises}
use Rattle.hybrid_run.specs.Arithmetic.{end_of, output_of, status_of}
use Rattle.hybrid_run.specs.Faults.{IsOfOutput, fault_of_answer, status_of_answer, status_of_fault}
use Rattle.hy_core.specs.PreludeModules.{with_prelude}
use Rattle.hybrid_run.specs.Headline.{Done, HasRun, IsBuiltFor, SaysOfModules, Sunk, Writes, canonical_texts, check, run, status_of_end}
use Rattle.hybrid_run.specs.declared.command.Mode.{Mode}
use Rattle.hybrid_run.specs.declared.command.Mode.TheVariants as m
use Rattle.hybrid_run.specs.declared.fault.TopFault.{TopFault}
use Rattle.hybrid_run.specs.declared.fault.TopFault.TheVariants as f
use Rattle.hybrid_run.specs.declared.value.Value.{Value}
use Rattle.hybrid_run.specs.declared.value.Ending.{Ending}
use Rattle.hybrid_run.specs.declared.value.Ending.TheVariants.{Gives, Raises}

same_status : (ending : Ending) → status_of_end (end_of ending) ≡ status_of ending
same_status (Gives value) = refl
same_status (Raises reason) = refl

writes_run : (zs : List Module) (values : List Value) (ending : Ending) → HasRun zs values ending → Writes m.Run zs (output_of values ending) (status_of ending)
writes_run zs values ending (steps, full) = subst (λ (status : ℕ). Writes m.Run zs (output_of values ending) status) (same_status ending) (run full)

-- what is written of the output of a mode says what becomes of its modules
module _ (mode : Mode) (zs : List Module) (sink : Sunk) (accepted : IsAccepted (with_prelude zs)) (built : IsBuiltFor mode zs) (output : List ℕ) (status : ℕ) (writes : Writes mode zs output status) where
  done_with : (n : ℕ) → n ≡ status → Appends sink.before sink.now output → Done mode zs sink n
  done_with n is written = record { accepted = accepted; built = built; output = output; writes = subst (λ (k : ℕ). Writes mode zs output k) (sym is) writes; written = written }

  written_in_part : (fault : TopFault) (n : ℕ) → IsOfOutput fault → (fault ≡ f.Write → AppendsPrefix sink.before sink.now output) → (fault ≡ f.Write → Rises sink.old sink.new) → SaysOfModules mode zs sink n (Some fault)
  written_in_part f.Usage n kinds prefix rises = kinds
  written_in_part (f.Read file) n kinds prefix rises = kinds
  written_in_part (f.Refused file refused) n kinds prefix rises = kinds
  written_in_part (f.Lint found) n kinds prefix rises = absurd kinds
  written_in_part f.NotBuilt n kinds prefix rises = absurd kinds
  written_in_part f.Write n kinds prefix rises = record { accepted = accepted; built = built; output = output; status = status; writes = writes; written = prefix refl; failed = rises refl }
  written_in_part f.Memory n kinds prefix rises = tt

  says_written : (r : Result ℕ TopFault) → IfOk r (λ n. n ≡ status) → OnOk r (Appends sink.before sink.now output) → (IsErrOf r f.Write → AppendsPrefix sink.before sink.now output) → (IsErrOf r f.Write → Rises sink.old sink.new)
      → IfErr r IsOfOutput → SaysOfModules mode zs sink (status_of_answer r) (fault_of_answer r)
  says_written (Ok n) is written prefix rises kinds = done_with n is written
  says_written (Err fault) is written prefix rises kinds = written_in_part fault (status_of_fault fault) kinds (λ same. prefix (λ i. Err (same i))) (λ same. rises (λ i. Err (same i)))

pub run_says : (zs : List Module) (sink : Sunk) → IsAccepted (with_prelude zs) → IsBuiltFor m.Run zs → (values : List Value) (ending : Ending) → HasRun zs values ending → (r : Result ℕ TopFault) → IfOk r (λ n. n ≡ status_of ending)
    → OnOk r (Appends sink.before sink.now (output_of values ending)) → (IsErrOf r f.Write → AppendsPrefix sink.before sink.now (output_of values ending)) → (IsErrOf r f.Write → Rises sink.old sink.new)
    → IfErr r IsOfOutput → SaysOfModules m.Run zs sink (status_of_answer r) (fault_of_answer r)
run_says zs sink accepted built values ending has = says_written m.Run zs sink accepted built (output_of values ending) (status_of ending) (writes_run zs values ending has)

pub printed_says : (zs : List Module) (sink : Sunk) → IsAccepted (with_prelude zs) → Appends sink.before sink.now (canonical_texts zs) → SaysOfModules m.Check zs sink 0 (fault_of_answer (Ok 0))
printed_says zs sink accepted written = done_with m.Check zs sink accepted tt (canonical_texts zs) 0 check 0 refl written

pub printed_cut : (zs : List Module) (sink : Sunk) → IsAccepted (with_prelude zs) → AppendsPrefix sink.before sink.now (canonical_texts zs) → Rises sink.old sink.new → SaysOfModules m.Check zs sink 7 (Some f.Write)
printed_cut zs sink accepted written failed = record { accepted = accepted; built = tt; output = canonical_texts zs; status = 0; writes = check; written = written; failed = failed }
