use Rattle.std.proofs.Common.{◌≡◌, ◌+◌, length, reverse}
use Rattle.hy_core.specs.Numbered.{function_count, numbered_modules}
use Rattle.core_tables.proofs.ModulesLemmas.{behind_these}
use Rattle.core_tables.proofs.numbering.number_modules.Given as goal

abbrev pub invariant-loop-names : goal.invariant-loop-names
invariant-loop-names l = record {
  trees : behind_these l.trees (numbered_modules l.places l.next (reverse l.left) l.numbers) ≡ numbered_modules l.places l.fn.next l.fn.modules l.fn.numbers;
  next : l.next + function_count (reverse l.left) ≡ l.fn.next + function_count l.fn.modules;
}

abbrev pub decreases-loop-names : goal.decreases-loop-names
decreases-loop-names l = length l.left
