use Rattle.std.proofs.Common.{◌≡◌, ◌-◌, length, drop}
use Rattle.letrec_names.proofs.names.LetrecNames.back_to.Given as goal

abbrev pub invariant-loop-self : goal.invariant-loop-self
invariant-loop-self l =
    drop (length l.self - l.height) l.self ≡ drop (length l.fn.self - l.fn.height) l.fn.self

abbrev pub decreases-loop-self : goal.decreases-loop-self
decreases-loop-self l = length l.self
