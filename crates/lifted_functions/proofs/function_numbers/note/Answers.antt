use Rattle.std.proofs.Common.{◌∙◌, sym}
use Rattle.lifted_functions.proofs.Noting.{none-noted, one-noted}
use Rattle.lifted_functions.proofs.function_numbers.note.Goals as goal

pub returns-in-Some : goal.returns-in-Some
returns-in-Some c =
    none-noted c.args.numbers.now c.args.number c.args.function.now
    (sym c.number_of.ensures ∙ c.in-Some.is)

pub returns-in_ok-insert-in-None : goal.returns-in_ok-insert-in-None
returns-in_ok-insert-in-None c =
    one-noted c.args.numbers.now c.insert.new.self c.args.number c.args.function.now
    c.key_of.result (sym c.number_of.ensures ∙ c.in-None.is) c.key_of.ensures
    c.in_ok-insert-in-None.ensures.updates
