use Rattle.std.proofs.Common.{refl}
use Rattle.hy_ir.proofs.laws.worked.small_codes_are_carried_out.Goals as goal

pub returns : goal.returns
returns c = record {
  nil = refl;
  parts = record {
    private_value = refl;
    private_words = refl;
    copied_value = refl;
    copied_words = refl;
  };
  text = record {
    private_value = refl;
    private_words = refl;
    shared_value = refl;
    shared_words = refl;
  };
  set = record {
    private_value = refl;
    private_words = refl;
    shared_value = refl;
    shared_words = refl;
    outside = refl;
    outside_words = refl;
  };
  spawn = record { born = refl; born_acts = refl; waits = refl; waits_behind = refl };
  show = record { shown = refl; shown_words = refl; raised = refl; raised_words = refl };
  fail = record { function_clause = refl; other = refl };
  send = record { raised = refl; no_act = refl };
  receive = record {
    needs = refl;
    taken = refl;
    lapsed = refl;
    not_accepted = refl;
    never_lapses = refl;
    left = refl;
  };
  choose = record { value = refl; none = refl };
  inner = record { value = refl; value_acts = refl; raised = refl; raised_acts = refl };
}
