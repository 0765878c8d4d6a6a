use Rattle.core_tables.proofs.InfosLemmas.{all_infos}
use Rattle.core_tables.proofs.infos.function_table.Goals as goal

pub returns : goal.returns
returns c =
    all_infos c.args.places.now c.args.program.now _ _ _ _ _ _ _ _ _ c.requires
    c.as_slice.ensures c.as_slice-2.ensures c.as_slice-3.ensures c.as_slice-4.ensures c.new-infos.ensures.items
    c.in_ok-push_top.ensures c.in_ok-push_top-2.ensures c.in_ok-push_local.ensures c.in_ok-push_local-2.ensures
