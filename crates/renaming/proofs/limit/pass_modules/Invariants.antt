use Rattle.std.proofs.Common.{◌≡◌, take}
use Rattle.renaming.specs.VariableLimit.{above_each, above_module}
use Rattle.renaming.proofs.limit.pass_modules.Given as goal

abbrev pub invariant-loop-names : goal.invariant-loop-names
invariant-loop-names l = l.limit ≡ above_each above_module l.fn.limit (take l.names-index l.modules)
