-- A commons is a later state of itself, and a later state of a later state is one.
use Rattle.std.proofs.Common.{List, [], ◌++◌, ℕ, append-nil, append_assoc, sym, ap, refl, ◌∙◌}
use Rattle.commons.specs.declared.plain.PlainCommons.{PlainCommons}
use Rattle.commons.specs.Plain.{IsLaterIn}

pub same_is_later : (c : PlainCommons) → IsLaterIn c c
same_is_later c =
    record {
      area_size = refl;
      log_size = refl;
      area = λ place n. refl;
      log = ([], sym (append-nil c.log.items));
    }

pub later_on : (a b c : PlainCommons) → IsLaterIn a b → IsLaterIn b c → IsLaterIn a c
later_on a b c f g = record {
  area_size = g.area_size ∙ f.area_size;
  log_size = g.log_size ∙ f.log_size;
  area = λ place n. let e = f.area place n in g.area place (λ z. n (sym e ∙ z)) ∙ e;
  log = (
    f.log.0 ++ g.log.0,
    g.log.1
        ∙ (ap (λ (x : List ℕ). x ++ g.log.0) f.log.1 ∙ append_assoc a.log.items f.log.0 g.log.0),
  );
}
