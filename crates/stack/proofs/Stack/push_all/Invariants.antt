use Rattle.std.proofs.Common.{◌≡◌, ◌++◌, reverse, ◌≤◌, length, drop}
use Rattle.stack.proofs.Stack.push_all.Given as goal

abbrev pub invariant-loop-left : goal.invariant-loop-left
invariant-loop-left g l = (reverse l.self-inside.items.items ≡ drop l.left l.items ++ l.fn.self) × (l.left ≤ length l.items)

abbrev pub decreases-loop-left : goal.decreases-loop-left
decreases-loop-left g l = l.left
