use Rattle.hy_core.proofs.SmallRuns.{each_comparison, truth_tables, each_kind_of_each, each_name_once}
use Rattle.hy_core.proofs.laws.programs.built_ins_have_names.Goals as goal

pub returns : goal.returns
returns c = record { comparisons = each_comparison; truths = truth_tables; kinds = each_kind_of_each; others = each_name_once }
