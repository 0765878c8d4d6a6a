use Rattle.std.proofs.Common.{refl}
use Rattle.hy_ir.proofs.laws.worked.codes_are_carried_out.Goals as goal

pub returns : goal.returns
returns c = record {
  goes_round = record {
    by_private = record { calls_are = refl; own_are = refl; area_are = refl; copied_are = refl };
    by_message = record { calls_are = refl; own_are = refl; area_are = refl; copied_are = refl };
    by_sent = record { calls_are = refl; own_are = refl; area_are = refl; copied_are = refl };
    by_shared = record { calls_are = refl; own_are = refl; area_are = refl; copied_are = refl };
    in_order = refl;
    value = refl;
    shared_value = refl;
    just_enough = refl;
    too_few = refl;
  };
  sent_twice = record {
    by_private = record { calls_are = refl; own_are = refl; area_are = refl; copied_are = refl };
    by_message = record { calls_are = refl; own_are = refl; area_are = refl; copied_are = refl };
    by_shared = record { calls_are = refl; own_are = refl; area_are = refl; copied_are = refl };
    value = refl;
  };
  boxed = record {
    by_message = record { calls_are = refl; own_are = refl; area_are = refl; copied_are = refl };
    by_private = record { calls_are = refl; own_are = refl; area_are = refl; copied_are = refl };
    by_shared = record { calls_are = refl; own_are = refl; area_are = refl; copied_are = refl };
    value = refl;
  };
}
