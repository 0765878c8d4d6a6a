use Rattle.std.proofs.Common.{rules, get_or}
use Rattle.std.proofs.lemmas.List.{drop_all, get_or_default}
use Rattle.hy_core.specs.declared.info.FunInfo.{FunInfo}
use Rattle.lifted_functions.specs.code.FunctionNumbers.{number_at, number_from}
use Rattle.lifted_functions.proofs.Numbering.{noted, all_noted}
use Rattle.lifted_functions.proofs.function_numbers.function_numbers.Goals as goal

pub loop-function-preserved : goal.loop-function-preserved
loop-function-preserved c =
    let is = c.args.functions.now in
    let i = c.loop-function.function-index in
    let none : FunInfo = record { «module» = 0; name = record { name = 0; arity = 0 } } in
    let x : FunInfo = get_or is i none in
    let inv = c.loop-function.invariant in
    let below = c.loop-function-test.true in (
      λ m f. noted m f is i c.loop-function.number x (number_at c.loop-function.numbers m f)
          (number_at c.note.new.numbers m f) (number_from 0 is m f) below
          (get_or_default is i none x below) (inv.0 m f) inv.1 (c.in_ok-note.ensures m f),
      search rules,
    )

pub returns : goal.returns
returns c m f =
    let is = c.args.functions.now in
    let i = c.loop-function.function-index in
    all_noted m f is _ i (number_at c.loop-function.numbers m f)
    (drop_all i is c.loop-function-test.false) (c.loop-function.invariant.0 m f)
