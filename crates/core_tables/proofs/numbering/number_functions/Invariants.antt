use Rattle.std.proofs.Common.{◌≡◌, ◌+◌, drop}
use Rattle.hy_core.specs.Numbered.{numbered_functions}
use Rattle.core_tables.proofs.ModulesLemmas.{behind_these}
use Rattle.core_tables.proofs.numbering.number_functions.Given as goal

abbrev pub invariant-loop-function : goal.invariant-loop-function
invariant-loop-function l = record {
  trees : behind_these l.trees (numbered_functions l.places l.names l.next (drop l.function-index l.function-items) l.numbers) ≡ numbered_functions l.places l.names l.fn.next l.function-items l.fn.numbers;
  next : l.next ≡ l.fn.next + l.function-index;
}
