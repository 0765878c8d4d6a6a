use Rattle.std.proofs.Common.{Some}
use Rattle.letrec_names.proofs.Naming.{number_set}
use Rattle.letrec_names.proofs.names.set_number.Goals as goal

pub returns-clause-ok : goal.returns-clause-ok
returns-clause-ok c =
    number_set c.args.numbers.now c.insert.new.self c.args.name c.key_of.result
    (Some c.args.number) c.key_of.ensures c.in_ok-insert.ensures.updates
