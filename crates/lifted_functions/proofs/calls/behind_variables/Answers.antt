use Rattle.lifted_functions.proofs.Arguments.{passed_before}
use Rattle.lifted_functions.proofs.calls.behind_variables.Goals as goal

pub returns : goal.returns
returns c =
    passed_before c.args.variables.now c.in_ok-all.all c.args.args c.in_ok-all.ensures
    c.in_ok-append.ensures
