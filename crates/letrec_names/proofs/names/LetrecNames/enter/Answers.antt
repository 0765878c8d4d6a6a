use Rattle.std.proofs.Common.{◌∙◌, ap, sym, subst, arith, reverse, [], ◌∷◌, ◌++◌}
use Rattle.letrec_names.specs.code.Entries.{HasNumbers}
use Rattle.letrec_names.specs.declared.names.Entry.{Entry}
use Rattle.letrec_names.proofs.Naming.{entered, last_first, numbers_kept}
use Rattle.letrec_names.proofs.names.LetrecNames.enter.Goals as goal

pub invariant_of-self-in_err-set_number : goal.invariant_of-self-in_err-set_number
invariant_of-self-in_err-set_number c =
    let es = c.self.inside.entries.items in
    subst (λ l. HasNumbers c.set_number.new.numbers (reverse l)) (sym c.reserve.ensures.items)
    (numbers_kept c.self.inside.numbers c.set_number.new.numbers (reverse es)
    c.in_err-set_number.ensures.err c.self.invariant)

pub invariant_of-self-in_err-push : goal.invariant_of-self-in_err-push
invariant_of-self-in_err-push c =
    absurd (omega (arith, c.in_err-push.ensures.full, c.in_ok-reserve.ensures.ok))

pub invariant_of-self-2 : goal.invariant_of-self-2
invariant_of-self-2 c =
    let es = c.self.inside.entries.items in
    let e : Entry = record {
      name = c.args.name;
      number = c.args.number;
      around = c.number_at-around.result;
    } in
    let items = c.in_ok-push.ensures.items ∙ ap (λ l. l ++ e ∷ []) c.reserve.ensures.items in
    subst (HasNumbers c.set_number.new.numbers) (sym (ap reverse items ∙ last_first es e))
    (entered c.self.inside.numbers c.set_number.new.numbers (reverse es) e c.self.invariant
    c.number_at-around.ensures c.in_ok-set_number.ensures.ok)
