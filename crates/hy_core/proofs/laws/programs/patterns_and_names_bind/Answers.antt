use Rattle.hy_core.proofs.SmallRuns.{patterns_match, innermost_bindings}
use Rattle.hy_core.proofs.laws.programs.patterns_and_names_bind.Goals as goal

pub returns : goal.returns
returns c = record { patterns = patterns_match; innermost = innermost_bindings }
