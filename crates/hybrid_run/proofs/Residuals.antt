-- The fault that a `?` hands on.
use Rattle.std.proofs.Common.{◌≡◌, ℕ, Option, Some, Result, Ok, Err, sym, ap, subst, ◌∙◌}
use Rattle.std.specs.Prelude.{IfErr, IsErrAnd, IsErrOf}
use Rattle.hybrid_run.specs.Faults.{fault_of_answer, status_of_answer, status_of_fault}
use Rattle.hybrid_run.specs.declared.fault.TopFault.{TopFault}

pub residual_is : {A : Type 0} (r : Result A TopFault) (fault : TopFault) → IsErrAnd r (λ e. e ≡ fault) → r ≡ Err fault
residual_is (Ok x) fault h = absurd h
residual_is (Err e) fault h = ap (λ (k : TopFault). Err k) h

-- what holds of the status and of the fault that are handed on
pub handed_on : (P : ℕ → Option TopFault → Type 0) (r : Result ℕ TopFault) (fault : TopFault) → IsErrAnd r (λ e. e ≡ fault) → P (status_of_fault fault) (Some fault) → P (status_of_answer r) (fault_of_answer r)
handed_on P r fault is h = subst (λ (k : Result ℕ TopFault). P (status_of_answer k) (fault_of_answer k)) (sym (residual_is r fault is)) h

pub fault_handed_on : {A : Type 0} (P : TopFault → Type 0) (r : Result A TopFault) (fault : TopFault) → IsErrAnd r (λ e. e ≡ fault) → P fault → IfErr r P
fault_handed_on {A = A} P r fault is h = subst (λ (k : Result A TopFault). IfErr k P) (sym (residual_is r fault is)) h

pub if_err : {A : Type 0} {P Q : TopFault → Type 0} (r : Result A TopFault) → ((fault : TopFault) → P fault → Q fault) → IfErr r P → IfErr r Q
if_err (Ok x) f h = tt
if_err (Err fault) f h = f fault h

fault_in : {A : Type 0} → Result A TopFault → TopFault → TopFault
fault_in (Ok x) other = other
fault_in (Err fault) other = fault

pub same_fault : {A : Type 0} (r : Result A TopFault) (fault known : TopFault) → IsErrAnd r (λ e. e ≡ fault) → IsErrOf r known → fault ≡ known
unfolding fault_in
same_fault (Ok x) fault known h is = absurd h
same_fault (Err e) fault known h is = sym h ∙ ap (λ k. fault_in k e) is
