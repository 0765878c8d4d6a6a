use Rattle.core_lint.specs.code.MissingMain.{first_missing}
use Rattle.core_lint.specs.code.UnknownFunctions.{IsMissingMain}
use Rattle.core_lint.proofs.Exact.{answers}
use Rattle.core_lint.proofs.MainExact.{main_exact}
use Rattle.core_lint.proofs.missing_main.missing_main.Goals as goal

pub returns : goal.returns
returns c =
    let program = c.args.program.now in
    answers (IsMissingMain program) c.first_missing_main.result first_missing c.as_slice.result.now program.given c.first_missing_main.ensures c.as_slice.ensures (main_exact program)
