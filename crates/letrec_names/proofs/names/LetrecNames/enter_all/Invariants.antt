use Rattle.std.proofs.Common.{◌≡◌, ◌++◌, length}
use Rattle.letrec_names.proofs.names.LetrecNames.enter_all.Given as goal

abbrev pub invariant-loop-name : goal.invariant-loop-name
invariant-loop-name l = l.names.items ++ l.self ≡ l.fn.names.items ++ l.fn.self

abbrev pub decreases-loop-name : goal.decreases-loop-name
decreases-loop-name l = length l.names.items
