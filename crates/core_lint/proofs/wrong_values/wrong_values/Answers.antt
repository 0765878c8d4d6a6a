use Rattle.std.proofs.Common.{refl}
use Rattle.core_walk.specs.First.{IsFaultOf, first_in_modules}
use Rattle.core_lint.specs.code.WrongValues.{valued}
use Rattle.core_lint.proofs.Exact.{answers, exact_first}
use Rattle.core_lint.proofs.OfKind.{AtNoFunction, ValuesAt, values_from, values_to}
use Rattle.core_lint.proofs.ValuedExact.{valued_exact}
use Rattle.core_lint.proofs.wrong_values.wrong_values.Goals as goal

pub returns : goal.returns
returns c =
    let program = c.args.program.now in
    answers (IsFaultOf program 8) c.first_in_exprs.result (first_in_modules valued 8 0) program.given program.given c.first_in_exprs.ensures refl
    (exact_first valued ValuesAt AtNoFunction valued_exact program 8 (values_from program) (values_to program))
