use Rattle.std.proofs.Common.{refl}
use Rattle.core_walk.specs.First.{IsFaultOf, first_in_modules}
use Rattle.core_lint.specs.code.ForbiddenForms.{subset}
use Rattle.core_lint.proofs.Exact.{answers, exact_first}
use Rattle.core_lint.proofs.OfKind.{AtNoFunction, FormAt, form_from, form_to}
use Rattle.core_lint.proofs.SubsetExact.{subset_exact}
use Rattle.core_lint.proofs.forbidden_forms.forbidden_form.Goals as goal

pub returns : goal.returns
returns c =
    let program = c.args.program.now in
    answers (IsFaultOf program 7) c.first_in_exprs.result (first_in_modules subset 7 0) program.given program.given c.first_in_exprs.ensures refl
    (exact_first subset FormAt AtNoFunction subset_exact program 7 (form_from program) (form_to program))
