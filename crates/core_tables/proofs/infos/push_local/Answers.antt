use Rattle.std.proofs.Common.{◌+◌, ◌++◌, ◌∙◌, ap, sym, drop, length, map, replicate, append_assoc}
use Rattle.hy_core.specs.SubPatterns.{joined}
use Rattle.hy_core.specs.Tables.{info_of, local_functions, local_infos}
use Rattle.core_tables.proofs.TableLemmas.{drop-item}
use Rattle.core_tables.proofs.infos.push_local.Goals as goal

pub loop-names-preserved : goal.loop-names-preserved
loop-names-preserved c =
    let places = c.args.places.now in
    let m = c.names-item.result in
    let old = c.loop-names.infos.items in
    let rest = drop (c.loop-names.names-index + 1) c.args.modules.now in
    let these = joined (map (λ f. replicate (length (local_functions f)) (info_of places m f)) m.functions) in
    let here = drop-item c.args.modules.now c.loop-names.names-index m c.loop-names-test.true c.names-item.is in
    ap (λ infos. infos ++ local_infos places rest) c.in_ok-push_letrecs.ensures
    ∙ append_assoc old these (local_infos places rest)
    ∙ ap (λ ms. old ++ local_infos places ms) (sym here)
    ∙ c.loop-names.invariant
