use Rattle.std.proofs.Common.{◌∙◌, ap, ◌++◌, ◌-◌, ◌+◌}
use Rattle.letrec_names.specs.Origins.{upwards}
use Rattle.letrec_names.proofs.GivenOrigins.{next_number}
use Rattle.letrec_names.proofs.origins.own_numbers.Goals as goal

pub loop-number-preserved : goal.loop-number-preserved
loop-number-preserved c =
    ap (λ xs. xs ++ upwards (c.loop-number.number + 1) (c.args.many - (c.loop-number.number + 1)))
    c.in_ok-push.ensures.items
    ∙ next_number c.loop-number.origins.items c.loop-number.number c.args.many c.loop-number-test.true
    ∙ c.loop-number.invariant
