use Rattle.std.proofs.Common.{refl}
use Rattle.hybrid_run.specs.Built.{integer, variable}
use Rattle.hybrid_run.proofs.Parts.{let_decides, do_decides, call_decides}
use Rattle.hybrid_run.proofs.built.+is_of_forms.Goals as goal

pub is_of_forms-returns-in-Int : goal.is_of_forms-returns-in-Int
is_of_forms-returns-in-Int t c = λ around. rw c.in-Int.is (λ _. integer c.in-Int.field-0, λ _. refl)

pub is_of_forms-returns-in-Var : goal.is_of_forms-returns-in-Var
is_of_forms-returns-in-Var t c = λ around. rw c.in-Var.is (λ _. variable c.in-Var.field-0 tt, λ _. refl)

pub is_of_forms-returns-then-is_of_forms : goal.is_of_forms-returns-then-is_of_forms
is_of_forms-returns-then-is_of_forms t c = λ around.
    rw c.in-Let.is
    (let_decides c.args.atoms.now around c.as_slice.result.now c.in-Let.vars c.get.result.now c.get-then-is_of_forms.result.now c.in-Let.value c.in-Let.body c.is_of_forms_under.result
    c.get.ensures c.as_slice.ensures c.get-then-is_of_forms.ensures ((c.is_of_forms.ensures around).0 c.if-is_of_forms.true) (c.is_of_forms_under.ensures around))

pub is_of_forms-returns-then-is_of_forms-2 : goal.is_of_forms-returns-then-is_of_forms-2
is_of_forms-returns-then-is_of_forms-2 t c = λ around.
    rw c.in-Do.is
    (do_decides c.args.atoms.now around c.get-in-Do.result.now c.get-then-is_of_forms-2.result.now c.in-Do.first c.in-Do.second c.is_of_forms-then-is_of_forms-2.result
    c.get-in-Do.ensures c.get-then-is_of_forms-2.ensures ((c.is_of_forms-in-Do.ensures around).0 c.if-is_of_forms-2.true) (c.is_of_forms-then-is_of_forms-2.ensures around))

pub is_of_forms-returns-then-is_operation : goal.is_of_forms-returns-then-is_operation
is_of_forms-returns-then-is_operation t c = λ around.
    rw c.in-Call.is
    (call_decides c.args.atoms.now around c.in-Call.module c.in-Call.name c.get-in-Call.result.now c.get-in-Call-2.result.now c.in-Call.args c.as_slice-in-Call.result.now c.as_slice-then-is_operation.result.now c.are_of_forms.result
    c.get-in-Call.ensures c.get-in-Call-2.ensures c.as_slice-in-Call.ensures c.as_slice-then-is_operation.ensures (c.is_operation.ensures.0 c.if-is_operation.true) (c.are_of_forms.ensures around))
