use Rattle.std.proofs.Common.{sym, subst}
use Rattle.core_walk.specs.First.{IsFaultOf, IsFirst}
use Rattle.core_lint.proofs.FunctionsExact.{lesser_exact}
use Rattle.core_lint.proofs.missing_functions.missing_function.Goals as goal

pub returns : goal.returns
returns c =
    let program = c.args.program.now in
    subst (IsFirst (IsFaultOf program 6)) (sym c.earlier.ensures) (lesser_exact program c.in_ok-unknown.unknown c.in_ok-main.main c.in_ok-unknown.ensures c.in_ok-main.ensures)
