use Rattle.std.proofs.Common.{◌∙◌, ap, map, []}
use Rattle.hy_core.specs.Tables.{with_texts}
use Rattle.core_tables.proofs.TableLemmas.{with_own}
use Rattle.core_tables.proofs.table.own_texts.Goals as goal

pub returns : goal.returns
returns c =
    c.in_ok-name_texts.ensures
    ∙ ap (λ t. with_texts t (map (λ text. text.now) c.as_slice-8.result.now)) c.new-table.ensures
    ∙ ap (λ ts. with_texts [] (map (λ text. text.now) ts)) c.as_slice-8.ensures
    ∙ with_own _ _ _ _ _ _ _ c.as_slice.ensures c.as_slice-2.ensures c.as_slice-3.ensures c.as_slice-4.ensures c.as_slice-5.ensures c.as_slice-6.ensures c.as_slice-7.ensures
