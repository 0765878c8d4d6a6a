use Rattle.hy_core.proofs.Arities.{answers_its_arguments}
use Rattle.hy_core.proofs.Ranges.{keep_to_range}
use Rattle.hy_core.proofs.laws.built_ins.built_ins_keep_to_arity_and_range.Goals as goal

pub returns : goal.returns
returns c = record { arity = answers_its_arguments; range = keep_to_range }
