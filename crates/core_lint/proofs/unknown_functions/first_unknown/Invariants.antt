use Rattle.std.proofs.Common.{◌≡◌, drop}
use Rattle.core_walk.specs.First.{first_in_modules}
use Rattle.core_lint.specs.code.UnknownFunctions.{own_names, unknown}
use Rattle.core_lint.proofs.unknown_functions.first_unknown.Given as goal

abbrev pub invariant-loop-i : goal.invariant-loop-i
invariant-loop-i l = first_in_modules (unknown l.exports own_names) 6 l.i (drop l.i l.modules) ≡ first_in_modules (unknown l.exports own_names) 6 0 l.modules
