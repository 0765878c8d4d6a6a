use Rattle.std.proofs.Common.{◌≡◌, [], length, sym, ◌∙◌, arith}
use Rattle.hybrid_run.proofs.Evaluating.{one_item}
use Rattle.hybrid_run.proofs.Parts.{alone_decides}
use Rattle.hybrid_run.proofs.built.is_built_module.Goals as goal

pub returns-in-len1 : goal.returns-in-len1
returns-in-len1 c =
    let fs = c.as_slice.result.now in
    let one : length fs ≡ 1 = omega arith in
    let alone = sym c.as_slice.ensures ∙ one_item fs c.main-item.result one c.main-item.is in
    alone_decides c.args.module.now c.main-item.result c.is_of_forms.result alone (c.is_of_forms.ensures [])
