use Rattle.std.proofs.Common.{refl}
use Rattle.core_walk.specs.First.{IsFaultOf}
use Rattle.core_lint.specs.code.RepeatedModules.{first_repeated}
use Rattle.core_lint.proofs.Exact.{answers}
use Rattle.core_lint.proofs.NamedExact.{named_exact}
use Rattle.core_lint.proofs.repeated_modules.repeated_module.Goals as goal

pub returns : goal.returns
returns c =
    let program = c.args.program.now in
    answers (IsFaultOf program 1) c.first_repeated.result (first_repeated program 0) program.given program.given c.first_repeated.ensures refl (named_exact program)
