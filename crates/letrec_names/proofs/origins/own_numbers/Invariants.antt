use Rattle.std.proofs.Common.{◌≡◌, ◌-◌, ◌++◌}
use Rattle.letrec_names.specs.Origins.{upwards}
use Rattle.letrec_names.proofs.origins.own_numbers.Given as goal

abbrev pub invariant-loop-number : goal.invariant-loop-number
invariant-loop-number l = l.origins.items ++ upwards l.number (l.many - l.number) ≡ upwards 0 l.many
