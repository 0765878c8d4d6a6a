use Rattle.core_walk.specs.First.{IsFaultOf, first_in_modules}
use Rattle.core_lint.specs.code.RepeatedVariables.{repeated}
use Rattle.core_lint.proofs.Exact.{answers, exact_first}
use Rattle.core_lint.proofs.OfKind.{RepeatedAt, RepeatedParameter, repeated_from, repeated_to}
use Rattle.core_lint.proofs.RepeatedExact.{repeated_exact}
use Rattle.core_lint.proofs.repeated_variables.repeated_variable.Goals as goal

pub returns : goal.returns
returns c =
    let program = c.args.program.now in
    answers (IsFaultOf program 5) c.first_in_program.result (first_in_modules repeated 5 0) c.as_slice.result.now program.given c.first_in_program.ensures c.as_slice.ensures
    (exact_first repeated RepeatedAt RepeatedParameter repeated_exact program 5 (repeated_from program) (repeated_to program))
