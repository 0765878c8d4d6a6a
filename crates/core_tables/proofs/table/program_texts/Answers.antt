use Rattle.std.proofs.Common.{◌≡◌, ◌∙◌, sym}
use Rattle.hy_core.specs.BuiltIn.{own_atoms}
use Rattle.hy_core.specs.Tables.{with_modules}
use Rattle.core_tables.proofs.TableLemmas.{with_modules-append}
use Rattle.core_tables.proofs.table.program_texts.Goals as goal

pub returns : goal.returns
returns c =
    let given = c.args.program.now.given in
    let prelude = c.args.program.now.prelude in
    let first : c.name_modules.new.table ≡ with_modules own_atoms given = c.in_ok-name_modules.ensures ∙ (λ i. with_modules (c.in_ok-table.ensures i) (c.as_slice.ensures i)) in
    c.in_ok-name_modules-2.ensures ∙ (λ i. with_modules (first i) (c.as_slice-2.ensures i)) ∙ sym (with_modules-append own_atoms given prelude)
