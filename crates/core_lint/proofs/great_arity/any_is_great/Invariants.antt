use Rattle.std.proofs.Common.{◌≡◌, drop}
use Rattle.core_lint.specs.code.GreatArity.{any_is_great}
use Rattle.core_lint.proofs.great_arity.any_is_great.Given as goal

abbrev pub invariant-loop-function : goal.invariant-loop-function
invariant-loop-function l = any_is_great (drop l.function-index l.functions) ≡ any_is_great l.functions
