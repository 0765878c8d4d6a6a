use Rattle.std.proofs.Common.{◌+◌, ◌∙◌, ap, sym, drop}
use Rattle.hy_core.specs.Tables.{with_texts}
use Rattle.core_tables.proofs.TableLemmas.{drop-at}
use Rattle.core_tables.proofs.table.name_atoms.Goals as goal

pub loop-atom-preserved : goal.loop-atom-preserved
loop-atom-preserved c =
    let rest = drop (c.loop-atom.atom + 1) c.args.atoms.now in
    let here = drop-at c.args.atoms.now c.loop-atom.atom c.text.result.now c.text.ensures in
    ap (λ r. with_texts r.1 rest) (sym c.in_ok-name.ensures.ok) ∙ ap (with_texts c.loop-atom.table) (sym here) ∙ c.loop-atom.invariant
