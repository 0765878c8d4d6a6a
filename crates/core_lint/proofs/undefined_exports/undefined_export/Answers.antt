use Rattle.core_walk.specs.First.{IsFaultOf}
use Rattle.core_lint.specs.code.RepeatedFunctions.{first_undefined_export}
use Rattle.core_lint.proofs.Exact.{answers}
use Rattle.core_lint.proofs.UndefinedExact.{undefined_exact}
use Rattle.core_lint.proofs.undefined_exports.undefined_export.Goals as goal

pub returns : goal.returns
returns c =
    let program = c.args.program.now in
    answers (IsFaultOf program 3) c.first_in_modules.result (first_undefined_export 0) c.as_slice.result.now program.given c.first_in_modules.ensures c.as_slice.ensures (undefined_exact program)
