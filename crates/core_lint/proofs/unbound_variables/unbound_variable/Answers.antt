use Rattle.std.proofs.Common.{refl}
use Rattle.core_walk.specs.First.{IsFaultOf, first_in_modules}
use Rattle.core_lint.specs.code.UnboundVariables.{unbound}
use Rattle.core_lint.proofs.Exact.{answers, exact_first}
use Rattle.core_lint.proofs.OfKind.{AtNoFunction, UnboundAt, unbound_from, unbound_to}
use Rattle.core_lint.proofs.UnboundExact.{unbound_exact}
use Rattle.core_lint.proofs.unbound_variables.unbound_variable.Goals as goal

pub returns : goal.returns
returns c =
    let program = c.args.program.now in
    answers (IsFaultOf program 4) c.first_in_exprs.result (first_in_modules unbound 4 0) program.given program.given c.first_in_exprs.ensures refl
    (exact_first unbound UnboundAt AtNoFunction unbound_exact program 4 (unbound_from program) (unbound_to program))
