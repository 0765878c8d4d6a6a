use Rattle.std.proofs.Common.{rules}
use Rattle.language_cases.proofs.Names.{names_step}
use Rattle.language_cases.proofs.pieces.names_in.Goals as goal

pub loop-number-preserved : goal.loop-number-preserved
loop-number-preserved c =
    names_step c.loop-number.names.items c.push_atom.new.out.items c.args.table.now c.loop-number.number
    c.text.result.now c.text.ensures c.loop-number.invariant (search rules)
