use Rattle.std.proofs.Common.{◌≡◌, drop}
use Rattle.core_lint.specs.code.RepeatedModules.{is_named}
use Rattle.core_lint.proofs.repeated_modules.is_named.Given as goal

abbrev pub invariant-loop-names : goal.invariant-loop-names
invariant-loop-names l = is_named (drop l.names-index l.modules) l.name ≡ is_named l.modules l.name
