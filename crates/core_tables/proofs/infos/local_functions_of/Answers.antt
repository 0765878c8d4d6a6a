use Rattle.std.proofs.Common.{arith, [], false}
use Rattle.hy_core.specs.declared.place.Place.TheVariants.{Anywhere}
use Rattle.core_tables.proofs.LocalLemmas.{counted}
use Rattle.core_tables.proofs.infos.local_functions_of.Goals as goal

pub returns : goal.returns
returns c =
    let f = c.args.function.now in
    let all = counted f.body (record { scope = f.params; locals = []; needs = 1; in_guard = false; place = Anywhere }) in
    omega (arith, c.in_ok-count_locals.ensures, all)
