use Rattle.std.proofs.Common.{◌≡◌, ◌-◌, length, drop}
use Rattle.captured_variables.proofs.scope.Scope.back_to.Given as goal

abbrev pub invariant-loop-self : goal.invariant-loop-self
invariant-loop-self l =
    drop (length l.self - l.depth) l.self ≡ drop (length l.fn.self - l.fn.depth) l.fn.self

abbrev pub decreases-loop-self : goal.decreases-loop-self
decreases-loop-self l = length l.self
