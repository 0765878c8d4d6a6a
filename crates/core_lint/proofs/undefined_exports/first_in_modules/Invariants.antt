use Rattle.std.proofs.Common.{◌≡◌, drop}
use Rattle.core_lint.specs.code.RepeatedFunctions.{first_undefined_export}
use Rattle.core_lint.proofs.undefined_exports.first_in_modules.Given as goal

abbrev pub invariant-loop-i : goal.invariant-loop-i
invariant-loop-i l = first_undefined_export l.i (drop l.i l.modules) ≡ first_undefined_export 0 l.modules
