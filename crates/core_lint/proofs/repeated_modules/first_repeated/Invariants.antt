use Rattle.std.proofs.Common.{◌≡◌, drop}
use Rattle.core_lint.specs.code.RepeatedModules.{first_repeated}
use Rattle.core_lint.proofs.repeated_modules.first_repeated.Given as goal

abbrev pub invariant-loop-i : goal.invariant-loop-i
invariant-loop-i l = first_repeated l.program l.i (drop l.i l.program.given) ≡ first_repeated l.program 0 l.program.given
