use Rattle.hy_ir.proofs.Erasing.{answers_erased, fail_erased, setelement_erased}
use Rattle.hy_ir.proofs.laws.meaning.built_ins_are_on_terms.Goals as goal

pub returns : goal.returns
returns c =
    record { answers = answers_erased; setelement = setelement_erased; fail = fail_erased }
