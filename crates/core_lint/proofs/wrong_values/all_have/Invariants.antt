use Rattle.std.proofs.Common.{◌≡◌, drop}
use Rattle.core_lint.specs.code.WrongValues.{all_have}
use Rattle.core_lint.proofs.wrong_values.all_have.Given as goal

abbrev pub invariant-loop-clause : goal.invariant-loop-clause
invariant-loop-clause l = all_have l.count (drop l.clause-index l.clauses) ≡ all_have l.count l.clauses
