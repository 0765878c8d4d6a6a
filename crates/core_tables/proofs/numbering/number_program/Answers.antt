use Rattle.std.proofs.Common.{◌+◌, ◌∙◌, ap, refl}
use Rattle.hy_core.specs.Numbered.{function_count}
use Rattle.core_tables.proofs.ModulesLemmas.{program-made}
use Rattle.core_tables.proofs.numbering.number_program.Goals as goal

pub returns-clause-program : goal.returns-clause-program
returns-clause-program c =
    let given = c.in_ok-count_functions.ensures ∙ ap (λ ms. 0 + function_count ms) c.as_slice.ensures in
    let prelude = c.in_ok-count_functions-2.ensures ∙ ap (λ ms. c.count_functions.new.count + function_count ms) c.as_slice-2.ensures in
    (program-made c.args.places.now c.args.program _ _ _ _ _ _ _ _ _ _ c.requires refl given prelude c.new-numbers.ensures refl c.in_ok-given.ensures.trees c.in_ok-given.ensures.next c.in_ok-prelude.ensures.trees).0

pub returns-clause-sites : goal.returns-clause-sites
returns-clause-sites c =
    let given = c.in_ok-count_functions.ensures ∙ ap (λ ms. 0 + function_count ms) c.as_slice.ensures in
    let prelude = c.in_ok-count_functions-2.ensures ∙ ap (λ ms. c.count_functions.new.count + function_count ms) c.as_slice-2.ensures in
    c.into_sites.ensures
    ∙ (program-made c.args.places.now c.args.program _ _ _ _ _ _ _ _ _ _ c.requires refl given prelude c.new-numbers.ensures refl c.in_ok-given.ensures.trees c.in_ok-given.ensures.next c.in_ok-prelude.ensures.trees).1
