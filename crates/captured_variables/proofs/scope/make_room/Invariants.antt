use Rattle.std.proofs.Common.{◌≡◌, ℕ, ◌+◌, ◌-◌, get_or, length}
use Rattle.captured_variables.proofs.scope.make_room.Given as goal

abbrev pub invariant-loop-numbers : goal.invariant-loop-numbers
invariant-loop-numbers l =
    (x : ℕ) → get_or l.numbers.items x 0 ≡ get_or l.fn.numbers.items x 0

abbrev pub decreases-loop-numbers : goal.decreases-loop-numbers
decreases-loop-numbers l = (l.place + 1) - length l.numbers.items
