use Rattle.std.proofs.Common.{◌≡◌, ◌++◌, replicate}
use Rattle.letrec_names.proofs.origins.give_origin.Given as goal

abbrev pub invariant-loop : goal.invariant-loop
invariant-loop l = l.origins.items ≡ l.fn.origins.items ++ replicate l.counter l.number
