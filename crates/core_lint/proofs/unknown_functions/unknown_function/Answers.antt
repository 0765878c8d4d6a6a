use Rattle.core_walk.specs.First.{first_in_modules}
use Rattle.core_lint.specs.code.UnknownFunctions.{IsUnknownOf, own_names, unknown}
use Rattle.core_lint.proofs.Exact.{answers}
use Rattle.core_lint.proofs.UnknownExact.{unknown_first}
use Rattle.core_lint.proofs.unknown_functions.unknown_function.Goals as goal

pub returns : goal.returns
returns c =
    let program = c.args.program.now in
    let table = c.in_ok-exports.exports in
    answers (IsUnknownOf program) c.first_unknown.result (first_in_modules (unknown table own_names) 6 0) c.as_slice.result.now program.given c.first_unknown.ensures c.as_slice.ensures
    (unknown_first program table c.in_ok-exports.ensures)
