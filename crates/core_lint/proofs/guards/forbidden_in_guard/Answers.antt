use Rattle.std.proofs.Common.{refl}
use Rattle.core_walk.specs.First.{IsFaultOf, first_in_modules}
use Rattle.core_lint.specs.code.Guards.{guarded}
use Rattle.core_lint.proofs.Exact.{answers, exact_first}
use Rattle.core_lint.proofs.OfKind.{AtNoFunction, GuardAt, guard_from, guard_to}
use Rattle.core_lint.proofs.GuardedExact.{guarded_exact}
use Rattle.core_lint.proofs.guards.forbidden_in_guard.Goals as goal

pub returns : goal.returns
returns c =
    let program = c.args.program.now in
    answers (IsFaultOf program 9) c.first_in_exprs.result (first_in_modules guarded 9 0) program.given program.given c.first_in_exprs.ensures refl
    (exact_first guarded GuardAt AtNoFunction guarded_exact program 9 (guard_from program) (guard_to program))
