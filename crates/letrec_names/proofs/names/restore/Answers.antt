use Rattle.std.proofs.Common.{refl, subst}
use Rattle.std.specs.Prelude.{IsSome}
use Rattle.letrec_names.proofs.Naming.{number_set}
use Rattle.letrec_names.proofs.names.restore.Goals as goal

pub returns-in-Some : goal.returns-in-Some
returns-in-Some c =
    let n = c.args.number in
    let there = subst IsSome c.in-Some.ensures.value refl in
    number_set c.args.numbers.now (c.get_mut.follows.lender n) c.args.name c.key_of.result n
    c.key_of.ensures ((c.get_mut.follows.holds n).3 there)
