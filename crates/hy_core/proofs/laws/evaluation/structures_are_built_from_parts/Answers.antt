use Rattle.hy_core.proofs.Forms.{build_from_parts}
use Rattle.hy_core.proofs.laws.evaluation.structures_are_built_from_parts.Goals as goal

pub returns : goal.returns
returns c = build_from_parts
