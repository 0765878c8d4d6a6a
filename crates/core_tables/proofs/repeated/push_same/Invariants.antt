use Rattle.std.proofs.Common.{◌≡◌, ◌++◌, replicate}
use Rattle.core_tables.proofs.repeated.push_same.Given as goal

abbrev pub invariant-loop-k : goal.invariant-loop-k
invariant-loop-k g l = l.items.items ≡ l.fn.items.items ++ replicate l.k l.item
