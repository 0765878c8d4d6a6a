use Rattle.hy_core.proofs.Matching.{matching_fills_in}
use Rattle.hy_core.proofs.laws.matching.matching_fills_patterns_in.Goals as goal

pub returns : goal.returns
returns c = matching_fills_in
