use Rattle.std.proofs.Common.{◌≤◌, ◌<◌, length, ap, arith}
use Rattle.hy_core.specs.Tables.{program_functions}
use Rattle.hy_core.specs.declared.fault.Form.TheVariants.{Functions, Arity}
use Rattle.core_lint.proofs.SizesLemmas.{great_arity, many_functions, the_fault}
use Rattle.core_lint.proofs.sizes.functions_within.Goals as goal

pub returns-then-len-gt-MOST_FUNCTIONS-clause-great :
    goal.returns-then-len-gt-MOST_FUNCTIONS-clause-great
returns-then-len-gt-MOST_FUNCTIONS-clause-great c fault e =
    let program = c.args.program.now in
    let many : 65535 < length (program_functions program) = omega (arith, c.len.ensures, ap length c.in_ok-table.ensures, c.if-len-gt-MOST_FUNCTIONS.true) in
    the_fault program c.fault_of_size.result Functions fault c.fault_of_size.ensures e (many_functions program many)

pub returns-then-branch-clause-great : goal.returns-then-branch-clause-great
returns-then-branch-clause-great c fault e =
    let program = c.args.program.now in
    let few : length (program_functions program) ≤ 65535 = omega (arith, c.len.ensures, ap length c.in_ok-table.ensures, c.if-len-gt-MOST_FUNCTIONS.false) in
    the_fault program c.fault_of_size-then-branch.result Arity fault c.fault_of_size-then-branch.ensures e (great_arity program few (c.in_ok-has_great_arity.ensures.0 c.if-branch.true))
